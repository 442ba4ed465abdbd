-- The cells of a section as those of a row.
use Rattle.std.proofs.Common.{◌≡◌, ℕ, zero, suc, ◌+◌, List, [], ◌∷◌, ◌++◌, map, refl, ap, arith}
use Rattle.std.specs.List.{range_with_len}
use Rattle.std.specs.Prelude.{pos}
use Rattle.order_axioms.specs.Touching.{cells_at}
use Rattle.race_watch.specs.RowCells.{row_cells}

pub cells_at_map : (o c : ℕ) (os : List ℕ) → cells_at o c (map pos os) ≡ row_cells o c os
cells_at_map o c [] = refl
cells_at_map o c (x ∷ os) = ap (λ z. record { owner = o; coarray = c; offset = x } ∷ z) (cells_at_map o c os)

-- one number more
pub range_last : (a n j : ℕ) → a + n ≡ j → range_with_len a (suc n) ≡ range_with_len a n ++ j ∷ []
range_last a zero j h = let e : a ≡ j = omega arith in ap (λ z. z ∷ []) e
range_last a (suc n) j h = ap (λ z. a ∷ z) (range_last (a + 1) n j (omega arith))
