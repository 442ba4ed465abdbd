use Rattle.walk_theory.proofs.Iterations.{iterations_walk}
use Rattle.walk_theory.proofs.iteration_laws.law_iterations_walk.Goals as goal

pub returns : goal.returns
returns g c = iterations_walk g.S.Spoken.language g.S.Spoken.procedures g.S.Spoken.limit
