-- What holds of rows of cells.
use Rattle.std.proofs.Common.{◌≡◌, ℕ, zero, suc, ◌+◌, ◌-◌, ◌<◌, ◌≤◌, ℤ, pos, ◌+ℤ◌, ◌≤ℤ◌, ◌<ℤ◌, List, [], ◌∷◌, ◌++◌, map, length, drop, get_or, All, sym, subst, ap, ◌∙◌, arith, append_assoc, append-nil}
use Rattle.std.proofs.lemmas.List.{map-append, drop_more}
use Rattle.std.proofs.lemmas.List.Elements.{All-nil, All-cons, All-head, All-tail, All-take, All-drop}
use Rattle.std.proofs.Math.Seq.{drop-length}
use Rattle.caf_base.specs.Spans.{row_of, rows_of, offsets_from}
use Rattle.coarray_types.specs.Cells.{IsCell, AreCells}
use Rattle.coarray_types.proofs.Parts.{tail_of, tail_of-cons}

module _ {X : Type 0} (P : X → Type 0) where
  -- what holds of all of two lists holds of the first
  pub All-front : (xs ys : List X) → All P (xs ++ ys) → All P xs
  All-front [] ys h = All-nil P
  All-front (x ∷ xs) ys h = All-cons P x xs (All-head P x (xs ++ ys) h) (All-front xs ys (All-tail P x (xs ++ ys) h))

  -- and of the second
  pub All-back : (xs ys : List X) → All P (xs ++ ys) → All P ys
  All-back [] ys h = h
  All-back (x ∷ xs) ys h = All-back xs ys (All-tail P x (xs ++ ys) h)

-- what holds of each cell of rows holds of their first cells
pub All-firsts : (P : ℤ → Type 0) (n : ℕ) (step : ℤ) (os : List ℤ) → 2 ≤ n → All P (rows_of n step os) → All P os
All-firsts P zero step os two h = absurd (omega arith)
All-firsts P (suc n) step [] two h = All-nil P
All-firsts P (suc n) step (o ∷ os) two h =
    All-cons P o os
    (All-head P o (row_of n step (o +ℤ step)) (All-front P (row_of (suc n) step o) (rows_of (suc n) step os) h))
    (All-firsts P (suc n) step os two (All-back P (row_of (suc n) step o) (rows_of (suc n) step os) h))

-- the rows from an index on are the row of that cell, and the rows from the next one on
pub rows_of-drop : (n : ℕ) (step : ℤ) (os : List ℕ) (i x : ℕ) → i < length os → x ≡ get_or os i x → rows_of n step (map pos (drop i os)) ≡ row_of n step (pos x) ++ rows_of n step (map pos (drop (i + 1) os))
rows_of-drop n step os i x h e =
    ap (λ xs. rows_of n step (map pos xs)) (drop_more os i x h)
    ∙ ap (λ y. row_of n step (pos y) ++ rows_of n step (map pos (drop (i + 1) os))) (sym e)

-- a row of one cell and the others
pub row_of-more : (n i : ℕ) (step from : ℤ) → i < n → row_of (n - i) step from ≡ from ∷ row_of (n - (i + 1)) step (from +ℤ step)
row_of-more n i step from h =
    let s : n - i ≡ suc (n - (i + 1)) = omega arith in
    ap (λ k. row_of k step from) s

-- a cell goes from the front of what is to come to the end of what there is
pub map-moved : (cells : List ℕ) (x : ℕ) (at : ℤ) (rest : List ℤ) → pos x ≡ at → map pos (cells ++ x ∷ []) ++ rest ≡ map pos cells ++ at ∷ rest
map-moved cells x at rest e =
    ap (λ xs. xs ++ rest) (map-append pos cells (x ∷ []))
    ∙ (append_assoc (map pos cells) (pos x ∷ []) rest ∙ ap (λ z. map pos cells ++ z ∷ rest) e)

-- a cell of what is to come of a row that isn't at its end
pub cell_at : (n i : ℕ) (step z : ℤ) → i < n → AreCells (row_of (n - i) step z) → ((pos 0 ≤ℤ z) × (z <ℤ pos 65536)) × AreCells (row_of (n - (i + 1)) step (z +ℤ step))
cell_at n i step z h cells =
    let all = subst AreCells (row_of-more n i step z h) cells in
    (All-head IsCell z (row_of (n - (i + 1)) step (z +ℤ step)) all, All-tail IsCell z (row_of (n - (i + 1)) step (z +ℤ step)) all)

-- a row, one cell on
pub row_step : (cells new : List ℕ) (n i x : ℕ) (step z w : ℤ) (all : List ℤ) → i < n → pos x ≡ z → w ≡ z +ℤ step → new ≡ cells ++ x ∷ [] → map pos cells ++ row_of (n - i) step z ≡ all → map pos new ++ row_of (n - (i + 1)) step w ≡ all
row_step cells new n i x step z w all h at next pushed so_far =
    ap (λ xs. map pos xs ++ row_of (n - (i + 1)) step w) pushed
    ∙ (ap (λ y. map pos (cells ++ x ∷ []) ++ row_of (n - (i + 1)) step y) next
    ∙ (map-moved cells x z (row_of (n - (i + 1)) step (z +ℤ step)) at
    ∙ (ap (λ zs. map pos cells ++ zs) (sym (row_of-more n i step z h)) ∙ so_far)))

-- rows, one row on
pub rows_step : (cells new os : List ℕ) (n i x : ℕ) (step : ℤ) (all : List ℤ) → i < length os → x ≡ get_or os i x → map pos new ≡ map pos cells ++ row_of n step (pos x) → map pos cells ++ rows_of n step (map pos (drop i os)) ≡ all → map pos new ++ rows_of n step (map pos (drop (i + 1) os)) ≡ all
rows_step cells new os n i x step all h is pushed so_far =
    ap (λ ys. ys ++ rows_of n step (map pos (drop (i + 1) os))) pushed
    ∙ (append_assoc (map pos cells) (row_of n step (pos x)) (rows_of n step (map pos (drop (i + 1) os)))
    ∙ (ap (λ ys. map pos cells ++ ys) (sym (rows_of-drop n step os i x h is)) ∙ so_far))

-- the cells of the rows to come are cells, one row on
pub rows_to_come : (os : List ℕ) (n i x : ℕ) (step : ℤ) → i < length os → x ≡ get_or os i x → AreCells (rows_of n step (map pos (drop i os))) → AreCells (row_of n step (pos x)) × AreCells (rows_of n step (map pos (drop (i + 1) os)))
rows_to_come os n i x step h is cells =
    let all = subst AreCells (rows_of-drop n step os i x h is) cells in (
      All-front IsCell (row_of n step (pos x)) (rows_of n step (map pos (drop (i + 1) os))) all,
      All-back IsCell (row_of n step (pos x)) (rows_of n step (map pos (drop (i + 1) os))) all,
    )

-- the cells of all dimensions but the first are cells
pub cells_of-tail : (start : ℤ) (dims : List (ℕ × ℤ)) → 1 ≤ length dims → All (λ d. 2 ≤ d.0) dims → AreCells (offsets_from start dims) → AreCells (offsets_from start (tail_of dims))
cells_of-tail start [] h wide cells = absurd (omega arith)
cells_of-tail start (d ∷ ds) h wide cells =
    subst (λ xs. AreCells (offsets_from start xs)) (sym (tail_of-cons d ds))
    (All-firsts IsCell d.0 d.1 (offsets_from start ds) (All-head (λ e. 2 ≤ e.0) d ds wide) cells)

-- the cells are rows from those of all dimensions but the first
pub rows_of-tail : (start : ℤ) (dims : List (ℕ × ℤ)) (e : ℕ × ℤ) → 1 ≤ length dims → rows_of (get_or dims 0 e).0 (get_or dims 0 e).1 (offsets_from start (tail_of dims)) ≡ offsets_from start dims
rows_of-tail start [] e h = absurd (omega arith)
rows_of-tail start (d ∷ ds) e h = ap (λ xs. rows_of d.0 d.1 (offsets_from start xs)) (tail_of-cons d ds)

-- all dimensions but the first are of two cells or more
pub wide_of-tail : (dims : List (ℕ × ℤ)) → All (λ d. 2 ≤ d.0) dims → All (λ d. 2 ≤ d.0) (tail_of dims)
wide_of-tail dims wide = All-take (λ d. 2 ≤ d.0) (length dims - 1) (drop 1 dims) (All-drop (λ d. 2 ≤ d.0) 1 dims wide)

-- the rows at their end
pub rows_done : (cells os : List ℕ) (n i : ℕ) (z step : ℤ) → i ≡ length os → z ≡ step → map pos cells ++ rows_of n z (map pos (drop i os)) ≡ rows_of n z (map pos os) → map pos cells ≡ rows_of n step (map pos os)
rows_done cells os n i z step end same so_far =
    let none : drop i os ≡ [] = ap (λ k. drop k os) end ∙ drop-length os in
    sym (append-nil (map pos cells))
    ∙ (sym (ap (λ xs. map pos cells ++ rows_of n z (map pos xs)) none) ∙ (so_far ∙ ap (λ y. rows_of n y (map pos os)) same))
