use Rattle.std.proofs.Common.{◌+◌, ◌*◌}
use Rattle.reason_reader.proofs.reason.+going.Given as goal

-- Behind a condition one level less is left.
abbrev pub decreases-goes_on : goal.decreases-goes_on
decreases-goes_on g l = l.left * 2

abbrev pub decreases-goes : goal.decreases-goes
decreases-goes g l = l.left * 2 + 1
