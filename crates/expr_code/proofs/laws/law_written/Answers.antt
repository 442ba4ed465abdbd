use Rattle.expr_code.proofs.Lines.{written_code}
use Rattle.expr_code.proofs.laws.law_written.Goals as goal

pub returns : goal.returns
returns c = written_code
