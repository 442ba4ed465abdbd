use Rattle.local_arrays.proofs.CoreLaws.{make_agrees}
use Rattle.local_arrays.proofs.laws.law_make.Goals as goal

pub returns : goal.returns
returns c = make_agrees
