use Rattle.std.proofs.Common.{◌≡◌, ℕ, List, length}
use Rattle.image_acts.specs.Teams.{sibling_in}
use Rattle.team_tables.specs.Entries.{AreWithin, known_in, team_at}
use Rattle.team_tables.proofs.entries.newest_sibling.Given as goal

-- the entries that are left, the older ones
abbrev pub invariant-loop-entry : goal.invariant-loop-entry
invariant-loop-entry l = record {
  same : (ms : List ℕ) → sibling_in (team_at ms l.of) l.number (known_in ms l.left) ≡ sibling_in (team_at ms l.of) l.number (known_in ms l.entries);
  within : (n : ℕ) → AreWithin n l.entries → AreWithin n l.left;
}

abbrev pub decreases-loop-entry : goal.decreases-loop-entry
decreases-loop-entry l = length l.left
