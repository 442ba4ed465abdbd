use Rattle.walk_theory.proofs.Iterations.{one_more_iteration}
use Rattle.walk_theory.proofs.iteration_laws.law_one_more_iteration.Goals as goal

pub returns : goal.returns
returns g c = one_more_iteration g.S.Spoken.language g.S.Spoken.procedures g.S.Spoken.limit
