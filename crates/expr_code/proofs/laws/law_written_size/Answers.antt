use Rattle.expr_code.proofs.Lines.{written_long}
use Rattle.expr_code.proofs.laws.law_written_size.Goals as goal

pub returns : goal.returns
returns c = written_long
