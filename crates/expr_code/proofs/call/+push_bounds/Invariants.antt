use Rattle.std.proofs.Common.{length}
use Rattle.expr_code.proofs.call.+push_bounds.Given as goal

abbrev pub decreases-push_bounds : goal.decreases-push_bounds
decreases-push_bounds l = length l.bounds.now
