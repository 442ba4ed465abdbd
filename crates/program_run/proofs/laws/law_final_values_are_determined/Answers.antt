use Rattle.program_run.proofs.Determined.{determined}
use Rattle.program_run.proofs.laws.law_final_values_are_determined.Goals as goal

pub returns : goal.returns
returns c p limit coarrays n fails_at words listed t fs gs a b = determined p limit coarrays n fails_at words listed t fs gs a b
