use Rattle.walk_theory.proofs.Places.{steps_long}
use Rattle.walk_theory.proofs.code_laws.law_steps_long.Goals as goal

pub returns : goal.returns
returns g c = steps_long
