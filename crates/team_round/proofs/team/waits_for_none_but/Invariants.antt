use Rattle.std.proofs.Common.{◌≡◌, ◌≤◌, length, take}
use Rattle.team_round.specs.TeamStates.{all_but}
use Rattle.team_round.proofs.team.waits_for_none_but.Given as goal

-- each member from here on is this image, has arrived or has ended
abbrev pub invariant-loop-at : goal.invariant-loop-at
invariant-loop-at l = (l.at ≤ length l.members.items) × (all_but l.joined.items l.endings l.image.0 l.round l.members.items ≡ all_but l.joined.items l.endings l.image.0 l.round (take l.at l.members.items))

abbrev pub decreases-loop-at : goal.decreases-loop-at
decreases-loop-at l = l.at
