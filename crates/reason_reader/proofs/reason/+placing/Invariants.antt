use Rattle.std.proofs.Common.{◌+◌, ◌*◌}
use Rattle.reason_reader.proofs.reason.+placing.Given as goal

-- Behind a condition one level less is left.
abbrev pub decreases-action_place : goal.decreases-action_place
decreases-action_place g l = l.left * 2

abbrev pub decreases-form_place : goal.decreases-form_place
decreases-form_place g l = l.left * 2 + 1
