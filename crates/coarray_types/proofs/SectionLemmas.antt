-- The cells of a section's span are the places of its elements.
use Rattle.std.proofs.Common.{◌≡◌, ℕ, zero, suc, ◌+◌, ◌*◌, ◌≤◌, ◌==◌, Bool, true, false, cond, ℤ, pos, negsuc, neg_ℤ, ◌+ℤ◌, ◌*ℤ◌, ◌≤ℤ◌, List, [], ◌∷◌, ◌++◌, map, length, All, refl, sym, subst, ap, ap₂, ◌∙◌, arith}
use Rattle.std.proofs.lemmas.Int.{ints}
use Rattle.std.proofs.lemmas.List.{map-append}
use Rattle.std.proofs.lemmas.List.Elements.{All-nil, All-cons, All-head, All-tail}
use Rattle.caf_base.specs.Spans.{row_of, rows_of, offsets_from}
use Rattle.coarray_types.specs.Distances.{distance}
use Rattle.coarray_types.specs.Places.{extent_of, AllWithin, subscript_order}
use Rattle.coarray_types.specs.Sections.{Triplet, firsts_of, crossed, elements_of, with_dim, dims_of}
use Rattle.coarray_types.proofs.CellLemmas.{All-front, All-back}

-- the cell of an element, from a first one on, where neighbours of the first dimension are w cells apart
abbrev cell : ℕ → ℕ → List (ℤ × ℤ) → List ℤ → ℤ
cell b w ds ss = pos (b + w * subscript_order ds ss)

-- a cell by its first subscript and the others
same_cell : (b w : ℕ) (d : ℤ × ℤ) (ds : List (ℤ × ℤ)) (f : ℤ) (ss : List ℤ) → cell (b + w * distance d.0 f) (w * extent_of d) ds ss ≡ cell b w (d ∷ ds) (f ∷ ss)
same_cell b w d ds f ss =
    let e : b + w * distance d.0 f + w * extent_of d * subscript_order ds ss ≡ b + w * (distance d.0 f + extent_of d * subscript_order ds ss) = omega arith in
    ap pos e

-- a stride on, within the lower bound
stride_on : (l s t : ℤ) → l ≤ℤ s → l ≤ℤ (s +ℤ t) → pos (distance l s) +ℤ t ≡ pos (distance l (s +ℤ t))
stride_on l s t a b = omega (arith, ints)

-- the same in cells
cells_on : (b w m n q : ℕ) (t : ℤ) → pos m +ℤ t ≡ pos n → pos (b + w * (m + q)) +ℤ pos w *ℤ t ≡ pos (b + w * (n + q))
cells_on b w m n q (pos k) e =
    let s : n ≡ m + k = omega (arith, ints) in
    let p : b + w * (m + q) + w * k ≡ b + w * (n + q) = subst (λ i. b + w * (m + q) + w * k ≡ b + w * (i + q)) (sym s) (omega arith) in
    ap pos p
cells_on b w m n q (negsuc k) e =
    let s : m ≡ n + suc k = omega (arith, ints) in
    let p : b + w * (m + q) ≡ b + w * (n + q) + w * suc k = subst (λ i. b + w * (i + q) ≡ b + w * (n + q) + w * suc k) (sym s) (omega arith) in
    let g : pos (b + w * (m + q)) +ℤ neg_ℤ (pos (w * suc k)) ≡ pos (b + w * (n + q)) = omega (arith, ints) in
    g

-- a row of cells is that of a row of subscripts
row_cells : (n b w : ℕ) (d : ℤ × ℤ) (ds : List (ℤ × ℤ)) (ss : List ℤ) (t f x : ℤ) → All (AllWithin (d ∷ ds)) (map (λ s. s ∷ ss) (row_of n t f)) → x ≡ cell b w (d ∷ ds) (f ∷ ss) → row_of n (pos w *ℤ t) x ≡ map (cell b w (d ∷ ds)) (map (λ s. s ∷ ss) (row_of n t f))
row_cells zero b w d ds ss t f x h at = refl
row_cells (suc zero) b w d ds ss t f x h at = ap (λ y. y ∷ []) at
row_cells (suc (suc n)) b w d ds ss t f x h at =
    let this : AllWithin (d ∷ ds) (f ∷ ss) = All-head (AllWithin (d ∷ ds)) (f ∷ ss) (map (λ s. s ∷ ss) (row_of (suc n) t (f +ℤ t))) h in
    let rest : All (AllWithin (d ∷ ds)) (map (λ s. s ∷ ss) (row_of (suc n) t (f +ℤ t))) = All-tail (AllWithin (d ∷ ds)) (f ∷ ss) (map (λ s. s ∷ ss) (row_of (suc n) t (f +ℤ t))) h in
    let next : AllWithin (d ∷ ds) ((f +ℤ t) ∷ ss) = All-head (AllWithin (d ∷ ds)) ((f +ℤ t) ∷ ss) (map (λ s. s ∷ ss) (row_of n t ((f +ℤ t) +ℤ t))) rest in
    let on : pos (distance d.0 f) +ℤ t ≡ pos (distance d.0 (f +ℤ t)) = stride_on d.0 f t this.0 next.0 in
    let moved : x +ℤ pos w *ℤ t ≡ cell b w (d ∷ ds) ((f +ℤ t) ∷ ss) = ap (λ y. y +ℤ pos w *ℤ t) at ∙ cells_on b w (distance d.0 f) (distance d.0 (f +ℤ t)) (extent_of d * subscript_order ds ss) t on in
    ap₂ (λ y ys. y ∷ ys) at (row_cells (suc n) b w d ds ss t (f +ℤ t) (x +ℤ pos w *ℤ t) rest moved)

-- so are the rows of all the other subscripts
rows_cells : (n b w : ℕ) (d : ℤ × ℤ) (ds : List (ℤ × ℤ)) (t f : ℤ) (rests : List (List ℤ)) → All (AllWithin (d ∷ ds)) (crossed (row_of n t f) rests) → rows_of n (pos w *ℤ t) (map (cell (b + w * distance d.0 f) (w * extent_of d) ds) rests) ≡ map (cell b w (d ∷ ds)) (crossed (row_of n t f) rests)
rows_cells n b w d ds t f [] h = refl
rows_cells n b w d ds t f (ss ∷ more) h =
    let front : List (List ℤ) = map (λ s. s ∷ ss) (row_of n t f) in
    let row = row_cells n b w d ds ss t f (cell (b + w * distance d.0 f) (w * extent_of d) ds ss) (All-front (AllWithin (d ∷ ds)) front (crossed (row_of n t f) more) h) (same_cell b w d ds f ss) in
    let rows = rows_cells n b w d ds t f more (All-back (AllWithin (d ∷ ds)) front (crossed (row_of n t f) more) h) in
    ap₂ (λ xs ys. xs ++ ys) row rows ∙ sym (map-append (cell b w (d ∷ ds)) front (crossed (row_of n t f) more))

-- where each element is within the bounds, so are the subscripts behind the first
rests_within : (n : ℕ) (d : ℤ × ℤ) (ds : List (ℤ × ℤ)) (t f : ℤ) (rests : List (List ℤ)) → All (AllWithin (d ∷ ds)) (crossed (row_of (suc n) t f) rests) → All (AllWithin ds) rests
rests_within n d ds t f [] h = All-nil (AllWithin ds)
rests_within n d ds t f (ss ∷ more) h =
    let this : AllWithin (d ∷ ds) (f ∷ ss) = All-head (AllWithin (d ∷ ds)) (f ∷ ss) (map (λ s. s ∷ ss) (row_of n t (f +ℤ t)) ++ crossed (row_of (suc n) t f) more) h in
    All-cons (AllWithin ds) ss more this.2
    (rests_within n d ds t f more (All-back (AllWithin (d ∷ ds)) (map (λ s. s ∷ ss) (row_of (suc n) t f)) (crossed (row_of (suc n) t f) more) h))

-- rows of no cell
no_rows : (step : ℤ) (os : List ℤ) → rows_of 0 step os ≡ []
no_rows step [] = refl
no_rows step (o ∷ os) = no_rows step os

no_elements : (rests : List (List ℤ)) → crossed [] rests ≡ []
no_elements [] = refl
no_elements (ss ∷ more) = no_elements more

-- rows of one cell
one_each : (step : ℤ) (os : List ℤ) → rows_of 1 step os ≡ os
one_each step [] = refl
one_each step (o ∷ os) = ap (λ ys. o ∷ ys) (one_each step os)

-- a dimension more makes rows, also where it has one subscript
dim_is : (n : ℕ) (step start : ℤ) (dims : List (ℕ × ℤ)) → offsets_from start (with_dim n step dims) ≡ rows_of n step (offsets_from start dims)
dim_is n step start dims = go (n == 1) refl where
  go : (b : Bool) → (n == 1) ≡ b → offsets_from start (cond b dims ((n, step) ∷ dims)) ≡ rows_of n step (offsets_from start dims)
  go true e =
      let one : n ≡ 1 = grind arith in
      sym (ap (λ k. rows_of k step (offsets_from start dims)) one ∙ one_each step (offsets_from start dims))
  go false e = refl

-- one dimension more
section_step : (n b w : ℕ) (d : ℤ × ℤ) (ds : List (ℤ × ℤ)) (t f : ℤ) (os : List ℤ) (rests : List (List ℤ)) → (All (AllWithin ds) rests → os ≡ map (cell (b + w * distance d.0 f) (w * extent_of d) ds) rests) → All (AllWithin (d ∷ ds)) (crossed (row_of n t f) rests) → rows_of n (pos w *ℤ t) os ≡ map (cell b w (d ∷ ds)) (crossed (row_of n t f) rests)
section_step zero b w d ds t f os rests below h = no_rows (pos w *ℤ t) os ∙ sym (ap (map (cell b w (d ∷ ds))) (no_elements rests))
section_step (suc n) b w d ds t f os rests below h =
    ap (rows_of (suc n) (pos w *ℤ t)) (below (rests_within n d ds t f rests h)) ∙ rows_cells (suc n) b w d ds t f rests h

-- the cells of a span are those of the section's elements
section_cells : (b w : ℕ) (ds : List (ℤ × ℤ)) (ts : List Triplet) → length ts ≡ length ds → All (AllWithin ds) (elements_of ts) → offsets_from (cell b w ds (firsts_of ts)) (dims_of w ds ts) ≡ map (cell b w ds) (elements_of ts)
section_cells b w [] [] e h = refl
section_cells b w [] (t ∷ ts) e h = absurd (omega arith)
section_cells b w (d ∷ ds) [] e h = absurd (omega arith)
section_cells b w (d ∷ ds) (t ∷ ts) e h =
    dim_is t.count (pos w *ℤ t.stride) (cell b w (d ∷ ds) (t.first ∷ firsts_of ts)) (dims_of (w * extent_of d) ds ts)
    ∙ (ap (λ s. rows_of t.count (pos w *ℤ t.stride) (offsets_from s (dims_of (w * extent_of d) ds ts))) (sym (same_cell b w d ds t.first (firsts_of ts)))
    ∙ section_step t.count b w d ds t.stride t.first (offsets_from (cell (b + w * distance d.0 t.first) (w * extent_of d) ds (firsts_of ts)) (dims_of (w * extent_of d) ds ts)) (elements_of ts) (λ k. section_cells (b + w * distance d.0 t.first) (w * extent_of d) ds ts (omega arith) k) h)

-- cells from 0 on, one apart, are places
cell_is : (ds : List (ℤ × ℤ)) (ss : List ℤ) → cell 0 1 ds ss ≡ pos (subscript_order ds ss)
cell_is ds ss = let e : 0 + 1 * subscript_order ds ss ≡ subscript_order ds ss = omega arith in ap pos e

cells_are : (ds : List (ℤ × ℤ)) (elements : List (List ℤ)) → map (cell 0 1 ds) elements ≡ map (λ ss. pos (subscript_order ds ss)) elements
cells_are ds [] = refl
cells_are ds (ss ∷ more) = ap₂ (λ x xs. x ∷ xs) (cell_is ds ss) (cells_are ds more)

pub section_places : (ds : List (ℤ × ℤ)) (ts : List Triplet) → length ts ≡ length ds → All (AllWithin ds) (elements_of ts) → offsets_from (pos (subscript_order ds (firsts_of ts))) (dims_of 1 ds ts) ≡ map (λ ss. pos (subscript_order ds ss)) (elements_of ts)
section_places ds ts e h =
    ap (λ s. offsets_from s (dims_of 1 ds ts)) (sym (cell_is ds (firsts_of ts)))
    ∙ (section_cells 0 1 ds ts e h ∙ cells_are ds (elements_of ts))

-- a dimension more is of two cells or more, or none
dim_wide : (n : ℕ) (step : ℤ) (dims : List (ℕ × ℤ)) → 1 ≤ n → All (λ d. 2 ≤ d.0) dims → All (λ d. 2 ≤ d.0) (with_dim n step dims)
dim_wide n step dims some wide = go (n == 1) refl where
  go : (b : Bool) → (n == 1) ≡ b → All (λ d. 2 ≤ d.0) (cond b dims ((n, step) ∷ dims))
  go true e = wide
  go false e = let two : 2 ≤ n = grind arith in All-cons (λ d. 2 ≤ d.0) (n, step) dims two wide

pub section_wide : (w : ℕ) (ds : List (ℤ × ℤ)) (ts : List Triplet) → All (λ t. 1 ≤ t.count) ts → All (λ d. 2 ≤ d.0) (dims_of w ds ts)
section_wide w [] ts some = All-nil (λ d. 2 ≤ d.0)
section_wide w (d ∷ ds) [] some = All-nil (λ d. 2 ≤ d.0)
section_wide w (d ∷ ds) (t ∷ ts) some =
    dim_wide t.count (pos w *ℤ t.stride) (dims_of (w * extent_of d) ds ts) (All-head (λ k. 1 ≤ k.count) t ts some)
    (section_wide (w * extent_of d) ds ts (All-tail (λ k. 1 ≤ k.count) t ts some))
