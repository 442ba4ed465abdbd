-- Arguments by copying in and out.
use Rattle.std.specs.Prelude.{ℕ, Bool, false, ◌&&◌, ◌==◌, List, length, Option, Some, None}
use Rattle.image_acts.specs.Core.{Local}
use Rattle.image_acts.specs.Operate.Bounds.{same_extents}
use Rattle.image_acts.specs.Operate.Calling.{extents_of_bounds}

-- whether an array that is there has these extents and so many elements
abbrev pub has_shape : List ℕ → ℕ → Option Local → Bool
has_shape ns n None = false
has_shape ns n (Some l) = same_extents ns (extents_of_bounds l) && (n == length l.elements)
