-- Places and dimensions on the stack of a core.
use Rattle.std.specs.Prelude.{ℕ, ℤ, List, take, drop, reverse}
use Rattle.image_acts.specs.Core.{Core, with_values}
use Rattle.image_acts.specs.Places.{place_size}
use Rattle.image_state.specs.Arrays.{with_arrays}

-- the numbers of the place of this rank beneath so many others, in the order in which they were put down
abbrev pub place_at : (depth rank : ℕ) → List ℤ → List ℤ
place_at depth rank vs = reverse (take (place_size rank) (drop depth vs))

-- without the top number and the top array value
abbrev pub without_tops : Core → Core
without_tops c = with_arrays (with_values c (drop 1 c.values)) (drop 1 c.arrays)
