use Rattle.std.proofs.Common.{◌≡◌, length}
use Rattle.team_tables.specs.Entries.{AreWithin, known_in}
use Rattle.team_tables.specs.Tables.{team_with}
use Rattle.team_tables.proofs.entries.newest_with.Given as goal

-- the entries that are left, the older ones
abbrev pub invariant-loop-entry : goal.invariant-loop-entry
invariant-loop-entry l = record {
  same : team_with l.image (known_in l.members l.left) ≡ team_with l.image (known_in l.members l.entries);
  within : AreWithin (length l.members) l.left;
}

abbrev pub decreases-loop-entry : goal.decreases-loop-entry
decreases-loop-entry l = length l.left
