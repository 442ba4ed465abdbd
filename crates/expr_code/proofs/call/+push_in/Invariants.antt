use Rattle.std.proofs.Common.{length}
use Rattle.expr_code.proofs.call.+push_in.Given as goal

abbrev pub decreases-push_in : goal.decreases-push_in
decreases-push_in l = length l.passed.now
