use Rattle.std.proofs.Common.{◌≡◌, ◌+◌, ◌^◌, ◌<◌, ◌≤◌, ◌++◌, take, length}
use Rattle.std.specs.Prelude.{vec_capacity}
use Rattle.team_tables.specs.Entries.{ArePacked, formed_in, weight_of}
use Rattle.team_tables.proofs.formed.add_teams.Given as goal

-- the teams that are left, in front of those that were put down
abbrev pub invariant-loop-team : goal.invariant-loop-team
invariant-loop-team l = record {
  formed : l.left ++ formed_in l.members.items l.entries.items ≡ l.teams;
  packed : ArePacked (length l.fn.members.items) (length l.members.items) l.entries.items;
  kept : take (length l.fn.members.items) l.members.items ≡ l.fn.members.items;
  slots : vec_capacity l.entries ≡ vec_capacity l.fn.entries;
  rooms : vec_capacity l.members ≡ vec_capacity l.fn.members;
  few : weight_of l.left < 2 ^ 33;
  slot : length l.entries.items + weight_of l.left ≤ vec_capacity l.fn.entries;
  room : length l.members.items + weight_of l.left ≤ vec_capacity l.fn.members;
}

abbrev pub decreases-loop-team : goal.decreases-loop-team
decreases-loop-team l = length l.left
