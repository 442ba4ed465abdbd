use Rattle.std.proofs.Common.{◌≡◌, length}
use Rattle.image_acts.specs.Teams.{is_in}
use Rattle.team_tables.proofs.entries.is_in.Given as goal

-- the members that are left
abbrev pub invariant-loop-member : goal.invariant-loop-member
invariant-loop-member l = is_in l.image l.left ≡ is_in l.image l.members

abbrev pub decreases-loop-member : goal.decreases-loop-member
decreases-loop-member l = length l.left
