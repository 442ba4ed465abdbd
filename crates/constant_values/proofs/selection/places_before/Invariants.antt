use Rattle.std.proofs.Common.{◌≡◌, ◌++◌, drop}
use Rattle.constant_values.specs.Selections.{places_before}
use Rattle.constant_values.proofs.selection.places_before.Given as goal

abbrev pub invariant-loop-place : goal.invariant-loop-place
invariant-loop-place l = l.all.items ++ places_before l.bounds l.numbers (drop l.place-index l.places) ≡ places_before l.bounds l.numbers l.places
