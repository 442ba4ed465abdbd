use Rattle.local_arrays.proofs.CoreLaws.{frames_agree}
use Rattle.local_arrays.proofs.laws.law_changed_frames.Goals as goal

pub returns : goal.returns
returns c = frames_agree
