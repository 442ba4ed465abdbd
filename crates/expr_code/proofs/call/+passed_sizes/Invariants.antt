use Rattle.std.proofs.Common.{length}
use Rattle.expr_code.proofs.call.+passed_sizes.Given as goal

abbrev pub decreases-passed_sizes : goal.decreases-passed_sizes
decreases-passed_sizes l = length l.passed.now
