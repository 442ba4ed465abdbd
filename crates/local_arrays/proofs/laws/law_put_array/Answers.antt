use Rattle.local_arrays.proofs.CoreLaws.{put_array_agrees}
use Rattle.local_arrays.proofs.laws.law_put_array.Goals as goal

pub returns : goal.returns
returns c = put_array_agrees
