use Rattle.walk_theory.proofs.Nesting.{return_leaves}
use Rattle.walk_theory.proofs.walk_laws.law_return_leaves.Goals as goal

pub returns : goal.returns
returns g c = return_leaves g.S.Spoken.language g.S.Spoken.procedures g.S.Spoken.limit
