-- Places as numbers.
use Rattle.std.specs.Prelude.{ℕ, ℤ, List, map}
use Rattle.image_acts.specs.Places.{dims_in, product}

-- how many cells dimensions have
abbrev pub counts_of : List ℤ → ℕ
counts_of vs = product (map (λ d. d.0) (dims_in vs))
