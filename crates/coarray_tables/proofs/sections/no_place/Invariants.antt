use Rattle.std.proofs.Common.{◌≡◌}
use Rattle.image_acts.specs.Places.{no_place, place_numbers}
use Rattle.coarray_tables.proofs.sections.no_place.Given as goal

-- the dimensions so far
abbrev pub invariant-loop-k : goal.invariant-loop-k
invariant-loop-k l = l.place ≡ place_numbers (no_place l.k)
