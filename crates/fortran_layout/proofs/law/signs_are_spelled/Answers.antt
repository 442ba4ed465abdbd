use Rattle.fortran_layout.proofs.SignLemmas.{signs_are_spelled}
use Rattle.fortran_layout.proofs.law.signs_are_spelled.Goals as goal

pub returns : goal.returns
returns c = signs_are_spelled
