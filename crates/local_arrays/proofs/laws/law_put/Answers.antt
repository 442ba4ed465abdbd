use Rattle.local_arrays.proofs.CoreLaws.{put_agrees}
use Rattle.local_arrays.proofs.laws.law_put.Goals as goal

pub returns : goal.returns
returns c = put_agrees
