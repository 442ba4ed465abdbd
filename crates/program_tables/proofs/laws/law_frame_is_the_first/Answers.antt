use Rattle.program_tables.proofs.Kept.{frame_same}
use Rattle.program_tables.proofs.laws.law_frame_is_the_first.Goals as goal

pub returns : goal.returns
returns c = frame_same
