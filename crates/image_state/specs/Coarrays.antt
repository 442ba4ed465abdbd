-- The coarrays of a core.
use Rattle.std.specs.Prelude.{ℤ, List, [], Option, Some, None}
use Rattle.image_acts.specs.Core.{Own}
use Rattle.image_acts.specs.Frames.{pairs_numbers}

-- the bounds of a coarray, none where it isn't allocated here
abbrev pub own_bounds : Option Own → List ℤ
own_bounds None = []
own_bounds (Some o) = pairs_numbers o.bounds
