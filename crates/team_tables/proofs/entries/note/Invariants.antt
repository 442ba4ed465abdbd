use Rattle.std.proofs.Common.{◌≡◌, ◌++◌, take}
use Rattle.std.specs.Prelude.{map, vec_capacity}
use Rattle.team_tables.specs.Entries.{formed_by}
use Rattle.team_tables.proofs.entries.note.Given as goal

abbrev pub invariant-loop-i : goal.invariant-loop-i
invariant-loop-i l = record {
  items : l.known.items ≡ l.fn.known.items ++ map (formed_by l.parent l.round) (take l.i l.formed);
  capacity : vec_capacity l.known ≡ vec_capacity l.fn.known;
}
