use Rattle.std.proofs.Common.{length}
use Rattle.expr_code.proofs.call.+push_all_back.Given as goal

abbrev pub decreases-push_all_back : goal.decreases-push_all_back
decreases-push_all_back l = length l.passed.now
