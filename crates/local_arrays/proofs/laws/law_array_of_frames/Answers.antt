use Rattle.local_arrays.proofs.CoreLaws.{array_agrees}
use Rattle.local_arrays.proofs.laws.law_array_of_frames.Goals as goal

pub returns : goal.returns
returns c = array_agrees
