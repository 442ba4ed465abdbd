use Rattle.std.proofs.Common.{length}
use Rattle.expr_code.proofs.call.+out_sizes.Given as goal

abbrev pub decreases-out_sizes : goal.decreases-out_sizes
decreases-out_sizes l = length l.passed.now
