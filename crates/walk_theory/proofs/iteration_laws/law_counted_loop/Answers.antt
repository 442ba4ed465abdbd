use Rattle.walk_theory.proofs.Iterations.{counted_loop}
use Rattle.walk_theory.proofs.iteration_laws.law_counted_loop.Goals as goal

pub returns : goal.returns
returns g c = counted_loop g.S.Spoken.language g.S.Spoken.procedures g.S.Spoken.limit
