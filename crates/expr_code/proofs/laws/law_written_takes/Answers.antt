use Rattle.expr_code.proofs.Lines.{written_taken}
use Rattle.expr_code.proofs.laws.law_written_takes.Goals as goal

pub returns : goal.returns
returns c = written_taken
