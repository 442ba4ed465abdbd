use Rattle.code_maker.proofs.Blocks.{steps_behind}
use Rattle.code_maker.proofs.laws.law_steps_written.Goals as goal

pub returns : goal.returns
returns c = steps_behind
