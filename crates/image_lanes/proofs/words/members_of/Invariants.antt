use Rattle.std.proofs.Common.{◌≡◌, ◌+◌, ◌*◌, ◌^◌, ◌≤◌, length, take}
use Rattle.std.specs.List.{sum_by}
use Rattle.caf_events.specs.declared.reply.FormedTeam.{FormedTeam}
use Rattle.image_lanes.proofs.words.members_of.Given as goal

abbrev pub invariant-loop-team : goal.invariant-loop-team
invariant-loop-team l = record {
  sum : l.members ≡ sum_by (λ (t : FormedTeam). length t.members) (take l.team-index l.teams);
  few : l.members + l.team-index ≤ 2 ^ 64 * l.team-index;
}
