use Rattle.std.proofs.Common.{length}
use Rattle.subroutine_code.proofs.argument.+sizes.Given as goal

abbrev pub decreases-sizes : goal.decreases-sizes
decreases-sizes l = length l.dummies.now
