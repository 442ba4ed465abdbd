use Rattle.walk_theory.proofs.Nesting.{exit_leaves}
use Rattle.walk_theory.proofs.walk_laws.law_exit_leaves.Goals as goal

pub returns : goal.returns
returns g c = exit_leaves g.S.Spoken.language g.S.Spoken.procedures g.S.Spoken.limit
