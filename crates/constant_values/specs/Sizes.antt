-- Sizes that 128 bits may not hold.
use Rattle.std.specs.Prelude.{ℕ, ◌*◌, min, Option, Some, None}
use Rattle.coarray_types.specs.Places.{extent_of}
use Rattle.rule_definitions.specs.Names.{KnownBounds}

-- a number, or the greatest of 128 bits where it is above that
abbrev pub capped : ℕ → ℕ
capped n = min n 340282366920938463463374607431768211455

-- a size with one dimension more
abbrev pub with_extent : KnownBounds → Option ℕ → Option ℕ
with_extent (Some d) (Some n) = Some (capped (capped (extent_of d) * n))
with_extent b o = None
