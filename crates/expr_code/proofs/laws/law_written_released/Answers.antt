use Rattle.expr_code.proofs.Lines.{released_written}
use Rattle.expr_code.proofs.laws.law_written_released.Goals as goal

pub returns : goal.returns
returns c = released_written
