use Rattle.code_maker.proofs.Blocks.{steps_written_long}
use Rattle.code_maker.proofs.laws.law_steps_written_size.Goals as goal

pub returns : goal.returns
returns c = steps_written_long
