use Rattle.order_lines.proofs.Exact.{exact}
use Rattle.order_lines.proofs.laws.law_exact.Goals as goal

pub returns : goal.returns
returns c n t end text told is = exact n t end text told is
