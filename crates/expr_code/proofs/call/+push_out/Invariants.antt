use Rattle.std.proofs.Common.{length}
use Rattle.expr_code.proofs.call.+push_out.Given as goal

abbrev pub decreases-push_out : goal.decreases-push_out
decreases-push_out l = length l.passed.now
