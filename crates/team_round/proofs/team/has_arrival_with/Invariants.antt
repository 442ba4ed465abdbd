use Rattle.std.proofs.Common.{◌≡◌, drop}
use Rattle.team_round.specs.TeamStates.{any_but}
use Rattle.team_round.proofs.team.has_arrival_with.Given as goal

abbrev pub invariant-loop-member : goal.invariant-loop-member
invariant-loop-member l = any_but l.joined.items l.image.0 l.round l.members.items ≡ any_but l.joined.items l.image.0 l.round (drop l.member-index l.members.items)
