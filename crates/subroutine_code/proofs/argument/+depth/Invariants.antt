use Rattle.std.proofs.Common.{length}
use Rattle.subroutine_code.proofs.argument.+depth.Given as goal

abbrev pub decreases-depth : goal.decreases-depth
decreases-depth l = length l.dummies.now
