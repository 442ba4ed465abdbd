-- The cells of one coarray in one memory.
use Rattle.std.specs.Prelude.{ℕ, List, map}
use Rattle.order_theory.specs.Races.{Cell}

-- the cells of a coarray of this owner at these offsets
abbrev pub row_cells : ℕ → ℕ → List ℕ → List Cell
row_cells owner coarray os = map (λ o. record { owner = owner; coarray = coarray; offset = o }) os
