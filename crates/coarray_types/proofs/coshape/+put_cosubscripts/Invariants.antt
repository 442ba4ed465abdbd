use Rattle.std.proofs.Common.{length}
use Rattle.coarray_types.proofs.coshape.+put_cosubscripts.Given as goal

abbrev pub decreases-put_cosubscripts : goal.decreases-put_cosubscripts
decreases-put_cosubscripts l = length l.lowers.now
