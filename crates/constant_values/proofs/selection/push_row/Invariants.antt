use Rattle.std.proofs.Common.{◌≡◌, ◌++◌, take, map}
use Rattle.constant_values.specs.Selections.{place_in}
use Rattle.constant_values.proofs.selection.push_row.Given as goal

abbrev pub invariant-loop-number : goal.invariant-loop-number
invariant-loop-number l = l.all.items ≡ l.initial.all.items ++ map (place_in l.bounds l.place) (take l.number-index l.numbers)
