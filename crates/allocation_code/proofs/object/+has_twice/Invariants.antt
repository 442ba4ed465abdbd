use Rattle.std.proofs.Common.{length}
use Rattle.allocation_code.proofs.object.+has_twice.Given as goal

abbrev pub decreases-has_twice : goal.decreases-has_twice
decreases-has_twice l = length l.objects.now
