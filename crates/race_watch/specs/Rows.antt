-- Rows of cells with their marks.
use Rattle.std.specs.Prelude.{ℕ, Bool, false, ◌||◌, nat_eq, List, [], ◌∷◌, get_or}
use Rattle.order_theory.specs.Marks as marks
use Rattle.order_theory.specs.Marks.{any_clash}
use Rattle.race_watch.specs.Classes.{MarksOf}

-- the marks of each cell are of images from 1 to n
abbrev pub RowOf : ℕ → List (List marks.Mark) → Type 0
RowOf n row = (k : ℕ) → MarksOf n (get_or row k [])

-- the marks of a cell in a row
abbrev pub marks_at : List (List (List marks.Mark)) → ℕ → ℕ → List marks.Mark
marks_at rows line offset = get_or (get_or rows line []) offset []

-- the number is one of these
abbrev pub is_in : ℕ → List ℕ → Bool
is_in k [] = false
is_in k (o ∷ os) = nat_eq k o || is_in k os

-- one of the marks of these cells clashes with q
abbrev pub any_of : (ℕ → ℕ) → marks.Mark → List (List marks.Mark) → List ℕ → Bool
any_of c q row [] = false
any_of c q row (o ∷ os) = any_clash c q (get_or row o []) || any_of c q row os
