use Rattle.std.proofs.Common.{◌≡◌, take, map}
use Rattle.coarray_types.specs.Places.{extent_of}
use Rattle.constant_values.proofs.selection.extents.Given as goal

abbrev pub invariant-loop-bounds : goal.invariant-loop-bounds
invariant-loop-bounds l = l.all ≡ map extent_of (take l.bounds-index l.dims)
