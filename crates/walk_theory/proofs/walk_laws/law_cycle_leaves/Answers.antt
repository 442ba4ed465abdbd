use Rattle.walk_theory.proofs.Nesting.{cycle_leaves}
use Rattle.walk_theory.proofs.walk_laws.law_cycle_leaves.Goals as goal

pub returns : goal.returns
returns g c = cycle_leaves g.S.Spoken.language g.S.Spoken.procedures g.S.Spoken.limit
