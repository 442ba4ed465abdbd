use Rattle.local_arrays.proofs.CoreLaws.{images_agree}
use Rattle.local_arrays.proofs.laws.law_put_images.Goals as goal

pub returns : goal.returns
returns c = images_agree
