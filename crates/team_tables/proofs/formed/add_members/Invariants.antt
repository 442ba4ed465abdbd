use Rattle.std.proofs.Common.{◌≡◌, ◌++◌, take}
use Rattle.std.specs.Prelude.{map, vec_capacity}
use Rattle.team_tables.proofs.formed.add_members.Given as goal

abbrev pub invariant-loop-i : goal.invariant-loop-i
invariant-loop-i l = record {
  items : l.members.items ≡ l.fn.members.items ++ map (λ i. i.0) (take l.i l.images);
  capacity : vec_capacity l.members ≡ vec_capacity l.fn.members;
}
