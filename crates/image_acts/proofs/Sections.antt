-- The cells of a place are the subscript order values of the section's elements.
use Rattle.std.proofs.Common.{◌≡◌, refl, ap, ap₂, sym, subst, ◌∙◌, arith, ℕ, zero, suc, ◌+◌, ◌-◌, ◌*◌, ◌==◌, Bool, true, false, ◌&&◌, ◌||◌, cond, ℤ, pos, negsuc, neg_ℤ, ◌+ℤ◌, ◌-ℤ◌, ◌*ℤ◌, ◌≤ℤ◌, List, [], ◌∷◌, map, length, All, ◌⊎◌, inl, inr}
use Rattle.std.specs.Prelude.{int_le, nat_le, nat_lt, unwrap_or}
use Rattle.std.proofs.lemmas.Bool.{leb-true}
use Rattle.std.specs.Ordering.{int_eq}
use Rattle.std.specs.Int.Signed.{le_z_yes}
use Rattle.std.proofs.lemmas.Float.{T_from_true}
use Rattle.std.proofs.lemmas.Int.{ints}
use Rattle.std.proofs.lemmas.List.Elements.{All-nil, All-cons, All-head, All-tail, All-append}
use Rattle.caf_base.specs.Spans.{row_of, rows_of, offsets_from}
use Rattle.caf_base.specs.Arithmetic.{is_within, iterations}
use Rattle.coarray_types.specs.Distances.{distance}
use Rattle.coarray_types.specs.Places.{extent_of, size_of, AllWithin, subscript_order}
use Rattle.coarray_types.proofs.PlaceLemmas.{within-below}
use Rattle.coarray_types.specs.Sections.{Triplet, firsts_of, crossed, elements_of, with_dim, dims_of}
use Rattle.coarray_types.proofs.SectionLemmas.{section_places}
use Rattle.walk_theory.specs.Terms.{Found, found, at_fault, with_found}
use Rattle.image_acts.specs.Faults.{room}
use Rattle.image_acts.specs.Places.{apart_by, are_small, empty_place, is_empty, resting, Subscript, single, triplet, Dimension, Place, dimension, dimensions, start_of, steps_of, spread_of, place_of, place_within, offsets}
use Rattle.image_acts.specs.Sections.{triplet_of, triplets_of}
use Rattle.image_acts.proofs.Images.{left_one, right_one}

-- a number within bounds, as the tests find it
between : (l u v : ℤ) → is_within l u v ≡ true → (l ≤ℤ v) × (v ≤ℤ u)
between l u v h = (le_z_yes (T_from_true (int_le l v) (left_one (int_le l v) (int_le v u) h)), le_z_yes (T_from_true (int_le v u) (right_one (int_le l v) (int_le v u) h)))

-- the first and the last of some subscripts are within bounds
abbrev Fits : ℤ × ℤ → Triplet → Type 0
Fits b t = (m : ℕ) → t.count ≡ suc m → (b.0 ≤ℤ t.first) × (t.first ≤ℤ b.1) × (b.0 ≤ℤ (t.first +ℤ (pos m *ℤ t.stride))) × ((t.first +ℤ (pos m *ℤ t.stride)) ≤ℤ b.1)

abbrev AllFit : List (ℤ × ℤ) → List Triplet → Type 0
AllFit [] ts = Unit {0}
AllFit (b ∷ bs) [] = Unit {0}
AllFit (b ∷ bs) (t ∷ ts) = Fits b t × AllFit bs ts

-- whether a section subscript is a dimension of the section
kept : Subscript → Bool
kept (single s) = false
kept (triplet f l s) = true

-- a dimension that was found has the subscripts that the standard says
abbrev dimension_of : Triplet → Bool → Dimension
dimension_of t k = record { first = t.first; count = t.count; stride = t.stride; is_kept = k }

chosen : (t : Bool) (x d : Dimension) (k : ℕ) → cond t (found x) (at_fault k) ≡ found d → (t ≡ true) × (d ≡ x)
chosen true x d k e = (refl, cc)
chosen false x d k e = cc

past : (t : Bool) (x : Found Dimension) (d : Dimension) (k : ℕ) → cond t (at_fault k) x ≡ found d → x ≡ found d
past true x d k e = cc
past false x d k e = e

or_right : (t w : Bool) → (t || w) ≡ true → t ≡ false → w ≡ true
or_right true w h f = cc
or_right false w h f = h

fits_from : (b : ℤ × ℤ) (f s : ℤ) (n : ℕ) → ((n == 0) || (is_within b.0 b.1 f && is_within b.0 b.1 (f +ℤ (pos (n - 1) *ℤ s)))) ≡ true → Fits b (record { first = f; count = n; stride = s })
fits_from b f s n h m e =
    let z : (n == 0) ≡ false = grind (arith) in
    let w : (is_within b.0 b.1 f && is_within b.0 b.1 (f +ℤ (pos (n - 1) *ℤ s))) ≡ true = or_right (n == 0) (is_within b.0 b.1 f && is_within b.0 b.1 (f +ℤ (pos (n - 1) *ℤ s))) h z in
    let x = between b.0 b.1 f (left_one (is_within b.0 b.1 f) (is_within b.0 b.1 (f +ℤ (pos (n - 1) *ℤ s))) w) in
    let y = between b.0 b.1 (f +ℤ (pos (n - 1) *ℤ s)) (right_one (is_within b.0 b.1 f) (is_within b.0 b.1 (f +ℤ (pos (n - 1) *ℤ s))) w) in
    let p : n - 1 ≡ m = omega arith in
    (x.0, x.1, subst (λ i. b.0 ≤ℤ (f +ℤ (pos i *ℤ s))) p y.0, subst (λ i. (f +ℤ (pos i *ℤ s)) ≤ℤ b.1) p y.1)

one_fits : (b : ℤ × ℤ) (s : ℤ) → is_within b.0 b.1 s ≡ true → Fits b (record { first = s; count = 1; stride = pos 1 })
one_fits b s h m e =
    let x = between b.0 b.1 s h in
    let z : 0 ≡ m = omega arith in
    let same : s +ℤ (pos 0 *ℤ pos 1) ≡ s = omega (arith, ints) in
    (x.0, x.1, subst (λ i. b.0 ≤ℤ (s +ℤ (pos i *ℤ pos 1))) z (subst (λ v. b.0 ≤ℤ v) (sym same) x.0), subst (λ i. (s +ℤ (pos i *ℤ pos 1)) ≤ℤ b.1) z (subst (λ v. v ≤ℤ b.1) (sym same) x.1))

-- how far apart fewer than two are doesn't matter
fits_apart : (b : ℤ × ℤ) (f s : ℤ) (n : ℕ) → Fits b (record { first = f; count = n; stride = s }) → Fits b (record { first = f; count = n; stride = apart_by n s })
fits_apart b f s n h = go (nat_le n 1) refl
  where
    go : (t : Bool) → nat_le n 1 ≡ t → Fits b (record { first = f; count = n; stride = cond t (pos 1) s })
    go false e m c = h m c
    go true e m c =
        let x = h m c in
        let few = leb-true n 1 e in
        let z : 0 ≡ m = omega arith in
        let same : f +ℤ (pos 0 *ℤ pos 1) ≡ f = omega (arith, ints) in
        (x.0, x.1, subst (λ i. b.0 ≤ℤ (f +ℤ (pos i *ℤ pos 1))) z (subst (λ v. b.0 ≤ℤ v) (sym same) x.0), subst (λ i. (f +ℤ (pos i *ℤ pos 1)) ≤ℤ b.1) z (subst (λ v. v ≤ℤ b.1) (sym same) x.1))

dimension_found : (b : ℤ × ℤ) (s : Subscript) (d : Dimension) → dimension b s ≡ found d → (d ≡ dimension_of (triplet_of b s) (kept s)) × Fits b (triplet_of b s)
unfolding kept
dimension_found b (single s) d e = let c = chosen (is_within b.0 b.1 s) (dimension_of (triplet_of b (single s)) false) d 3 e in (c.1, one_fits b s c.0)
dimension_found b (triplet f l st) d e =
    let first = unwrap_or f b.0 in
    let stride = unwrap_or st (pos 1) in
    let n = iterations first (unwrap_or l b.1) stride in
    let test = (n == 0) || (is_within b.0 b.1 first && is_within b.0 b.1 (first +ℤ (pos (n - 1) *ℤ stride))) in
    let g = past (int_eq stride (pos 0)) (cond test (found (dimension_of (triplet_of b (triplet f l st)) true)) (at_fault 3)) d 4 e in
    let c = chosen test (dimension_of (triplet_of b (triplet f l st)) true) d 3 g in
    (c.1, fits_apart b first stride n (fits_from b first stride n c.0))

-- one dimension after another
dims_named : List (ℤ × ℤ) → List Subscript → List Dimension
dims_named [] ss = []
dims_named (b ∷ bs) [] = []
dims_named (b ∷ bs) (s ∷ ss) = dimension_of (triplet_of b s) (kept s) ∷ dims_named bs ss

split : (x : Found Dimension) (y : Found (List Dimension)) (ds : List Dimension) → with_found x (λ d. with_found y (λ es. found (d ∷ es))) ≡ found ds
    → (d : Dimension) × (es : List Dimension) × (x ≡ found d) × (y ≡ found es) × (ds ≡ d ∷ es)
split (found d) (found es) ds e = (d, es, refl, refl, cc)
split (found d) (at_fault k) ds e = cc
split (at_fault k) y ds e = cc

dims_found : (bs : List (ℤ × ℤ)) (ss : List Subscript) (ds : List Dimension) → dimensions bs ss ≡ found ds → (ds ≡ dims_named bs ss) × AllFit bs (triplets_of bs ss)
unfolding dims_named
dims_found [] [] ds e = (cc, tt)
dims_found [] (s ∷ ss) ds e = cc
dims_found (b ∷ bs) [] ds e = cc
dims_found (b ∷ bs) (s ∷ ss) ds e =
    let p = split (dimension b s) (dimensions bs ss) ds e in
    let x = dimension_found b s p.0 p.2 in
    let y = dims_found bs ss p.1 p.3 in
    (p.4 ∙ ap₂ (λ d es. d ∷ es) x.0 y.0, (x.1, y.1))

triplets_many : (bs : List (ℤ × ℤ)) (ss : List Subscript) → length ss ≡ length bs → length (triplets_of bs ss) ≡ length bs
triplets_many [] ss h = refl
triplets_many (b ∷ bs) [] h = h
triplets_many (b ∷ bs) (s ∷ ss) h = let k : length (triplets_of bs ss) ≡ length bs = triplets_many bs ss (omega arith) in omega arith

-- rows of one cell, and of none
one_each : (step : ℤ) (os : List ℤ) → rows_of 1 step os ≡ os
one_each step [] = refl
one_each step (o ∷ os) = ap (λ ys. o ∷ ys) (one_each step os)

no_rows : (step : ℤ) (os : List ℤ) → rows_of 0 step os ≡ []
no_rows step [] = refl
no_rows step (o ∷ os) = no_rows step os

-- a dimension of a span makes rows, also where it has one cell
rows_made : (n : ℕ) (step start : ℤ) (dims : List (ℕ × ℤ)) → offsets_from start (with_dim n step dims) ≡ rows_of n step (offsets_from start dims)
rows_made n step start dims = go (n == 1) refl where
  go : (b : Bool) → (n == 1) ≡ b → offsets_from start (cond b dims ((n, step) ∷ dims)) ≡ rows_of n step (offsets_from start dims)
  go true e =
      let one : n ≡ 1 = grind arith in
      sym (ap (λ k. rows_of k step (offsets_from start dims)) one ∙ one_each step (offsets_from start dims))
  go false e = refl

-- the steps of a place are the dimensions of the section's span, but for those of one cell
same_cells : (x : ℤ) (w : ℕ) (bs : List (ℤ × ℤ)) (ss : List Subscript) → offsets_from x (steps_of w bs (dims_named bs ss)) ≡ offsets_from x (dims_of w bs (triplets_of bs ss))
unfolding dims_named kept
same_cells x w [] ss = refl
same_cells x w (b ∷ bs) [] = refl
same_cells x w (b ∷ bs) (single s ∷ ss) = same_cells x (w * extent_of b) bs ss
same_cells x w (b ∷ bs) (triplet f l st ∷ ss) =
    let t = triplet_of b (triplet f l st) in
    ap (rows_of t.count (pos w *ℤ t.stride)) (same_cells x (w * extent_of b) bs ss) ∙ sym (rows_made t.count (pos w *ℤ t.stride) x (dims_of (w * extent_of b) bs (triplets_of bs ss)))

-- The first cell is that of the first subscripts; where a dimension is empty there is no cell, whichever is the first.
abbrev NoCell : List (ℤ × ℤ) → List Triplet → Type 0
NoCell bs ts = (w : ℕ) (x y : ℤ) → offsets_from x (dims_of w bs ts) ≡ offsets_from y (dims_of w bs ts)

abbrev Starts : List (ℤ × ℤ) → List Subscript → Type 0
Starts bs ss = (w : ℕ) → start_of w bs (dims_named bs ss) ≡ pos (w * subscript_order bs (firsts_of (triplets_of bs ss)))

none_here : (n : ℕ) (step x y : ℤ) (dims : List (ℕ × ℤ)) → n ≡ 0 → offsets_from x (with_dim n step dims) ≡ offsets_from y (with_dim n step dims)
none_here n step x y dims h =
    rows_made n step x dims ∙ (ap (λ k. rows_of k step (offsets_from x dims)) h ∙ (no_rows step (offsets_from x dims)
    ∙ sym (rows_made n step y dims ∙ (ap (λ k. rows_of k step (offsets_from y dims)) h ∙ no_rows step (offsets_from y dims)))))

none_behind : (n : ℕ) (step x y : ℤ) (dims : List (ℕ × ℤ)) → offsets_from x dims ≡ offsets_from y dims → offsets_from x (with_dim n step dims) ≡ offsets_from y (with_dim n step dims)
none_behind n step x y dims h = rows_made n step x dims ∙ (ap (rows_of n step) h ∙ sym (rows_made n step y dims))

start_step : (w e q : ℕ) (l f r : ℤ) → l ≤ℤ f → r ≡ pos ((w * e) * q) → (pos w *ℤ (f -ℤ l)) +ℤ r ≡ pos (w * (distance l f + e * q))
start_step w e q l f r h k =
    let a : f -ℤ l ≡ pos (distance l f) = omega (arith, ints) in
    let s : w * distance l f + (w * e) * q ≡ w * (distance l f + e * q) = omega arith in
    ap₂ (λ i j. (pos w *ℤ i) +ℤ j) a k ∙ ap pos s

starts : (bs : List (ℤ × ℤ)) (ss : List Subscript) → AllFit bs (triplets_of bs ss) → NoCell bs (triplets_of bs ss) ⊎ Starts bs ss
unfolding dims_named
starts [] ss h = inr (λ w. ap pos (omega arith))
starts (b ∷ bs) [] h = inr (λ w. ap pos (omega arith))
starts (b ∷ bs) (s ∷ ss) h = go (triplet_of b s).count refl (starts bs ss h.1) where
  go : (n : ℕ) → (triplet_of b s).count ≡ n → NoCell bs (triplets_of bs ss) ⊎ Starts bs ss → NoCell (b ∷ bs) (triplets_of (b ∷ bs) (s ∷ ss)) ⊎ Starts (b ∷ bs) (s ∷ ss)
  go zero e k = inl (λ w x y. none_here (triplet_of b s).count (pos w *ℤ (triplet_of b s).stride) x y (dims_of (w * extent_of b) bs (triplets_of bs ss)) e)
  go (suc m) e (inl k) = inl (λ w x y. none_behind (triplet_of b s).count (pos w *ℤ (triplet_of b s).stride) x y (dims_of (w * extent_of b) bs (triplets_of bs ss)) (k (w * extent_of b) x y))
  go (suc m) e (inr k) = inr (λ w.
      let z : ((triplet_of b s).count == 0) ≡ false = grind (arith) in
      ap (λ t. cond t (pos 0) (pos w *ℤ ((triplet_of b s).first -ℤ b.0)) +ℤ start_of (w * extent_of b) bs (dims_named bs ss)) z
      ∙ start_step w (extent_of b) (subscript_order bs (firsts_of (triplets_of bs ss))) b.0 (triplet_of b s).first (start_of (w * extent_of b) bs (dims_named bs ss)) (h.0 m e).0 (k (w * extent_of b)))

-- between the first and the last subscript all are within bounds
on : (l u f t : ℤ) (m : ℕ) → l ≤ℤ f → f ≤ℤ u → l ≤ℤ (f +ℤ (pos (suc m) *ℤ t)) → (f +ℤ (pos (suc m) *ℤ t)) ≤ℤ u
    → (l ≤ℤ (f +ℤ t)) × ((f +ℤ t) ≤ℤ u) × (l ≤ℤ ((f +ℤ t) +ℤ (pos m *ℤ t))) × (((f +ℤ t) +ℤ (pos m *ℤ t)) ≤ℤ u)
on l u f (pos k) m a b c d =
    let s : suc m * k ≡ k + m * k = omega arith in
    let p : l ≤ℤ (f +ℤ pos (k + m * k)) = subst (λ i. l ≤ℤ (f +ℤ pos i)) s c in
    let q : (f +ℤ pos (k + m * k)) ≤ℤ u = subst (λ i. (f +ℤ pos i) ≤ℤ u) s d in
    (omega (arith, ints), omega (arith, ints), omega (arith, ints), omega (arith, ints))
on l u f (negsuc k) m a b c d =
    let s : suc m * suc k ≡ suc k + m * suc k = omega arith in
    let p : l ≤ℤ (f +ℤ neg_ℤ (pos (suc k + m * suc k))) = subst (λ i. l ≤ℤ (f +ℤ neg_ℤ (pos i))) s c in
    let q : (f +ℤ neg_ℤ (pos (suc k + m * suc k))) ≤ℤ u = subst (λ i. (f +ℤ neg_ℤ (pos i)) ≤ℤ u) s d in
    (omega (arith, ints), omega (arith, ints), omega (arith, ints), omega (arith, ints))

row_within : (l u : ℤ) (n : ℕ) (t f : ℤ) → ((m : ℕ) → n ≡ suc m → (l ≤ℤ f) × (f ≤ℤ u) × (l ≤ℤ (f +ℤ (pos m *ℤ t))) × ((f +ℤ (pos m *ℤ t)) ≤ℤ u)) → All (λ s. (l ≤ℤ s) × (s ≤ℤ u)) (row_of n t f)
row_within l u zero t f h = All-nil (λ s. (l ≤ℤ s) × (s ≤ℤ u))
row_within l u (suc n) t f h =
    All-cons (λ s. (l ≤ℤ s) × (s ≤ℤ u)) f (row_of n t (f +ℤ t)) ((h n refl).0, (h n refl).1)
    (row_within l u n t (f +ℤ t) (λ m e. let k = h (suc m) (ap suc e) in on l u f t m k.0 k.1 k.2 k.3))

each_within : (b : ℤ × ℤ) (bs : List (ℤ × ℤ)) (ss : List ℤ) (row : List ℤ) → AllWithin bs ss → All (λ s. (b.0 ≤ℤ s) × (s ≤ℤ b.1)) row → All (AllWithin (b ∷ bs)) (map (λ s. s ∷ ss) row)
each_within b bs ss [] w h = All-nil (AllWithin (b ∷ bs))
each_within b bs ss (s ∷ row) w h =
    let k = All-head (λ v. (b.0 ≤ℤ v) × (v ≤ℤ b.1)) s row h in
    All-cons (AllWithin (b ∷ bs)) (s ∷ ss) (map (λ v. v ∷ ss) row) (k.0, k.1, w) (each_within b bs ss row w (All-tail (λ v. (b.0 ≤ℤ v) × (v ≤ℤ b.1)) s row h))

crossed_within : (b : ℤ × ℤ) (bs : List (ℤ × ℤ)) (row : List ℤ) (rests : List (List ℤ)) → All (λ s. (b.0 ≤ℤ s) × (s ≤ℤ b.1)) row → All (AllWithin bs) rests → All (AllWithin (b ∷ bs)) (crossed row rests)
crossed_within b bs row [] h k = All-nil (AllWithin (b ∷ bs))
crossed_within b bs row (ss ∷ more) h k =
    All-append (AllWithin (b ∷ bs)) (map (λ s. s ∷ ss) row) (crossed row more) (each_within b bs ss row (All-head (AllWithin bs) ss more k) h) (crossed_within b bs row more h (All-tail (AllWithin bs) ss more k))

all_within : (bs : List (ℤ × ℤ)) (ss : List Subscript) → length ss ≡ length bs → AllFit bs (triplets_of bs ss) → All (AllWithin bs) (elements_of (triplets_of bs ss))
all_within [] [] q h = All-cons (AllWithin []) [] [] tt (All-nil (AllWithin []))
all_within [] (s ∷ ss) q h = let none : ⊥ = omega arith in absurd none
all_within (b ∷ bs) [] q h = let none : ⊥ = omega arith in absurd none
all_within (b ∷ bs) (s ∷ ss) q h =
    let t = triplet_of b s in
    crossed_within b bs (row_of t.count t.stride t.first) (elements_of (triplets_of bs ss)) (row_within b.0 b.1 t.count t.stride t.first h.0) (all_within bs ss (omega arith) h.1)

-- the cells from the first one on, where there are any, are those from the place of the first subscripts on
begun : (bs : List (ℤ × ℤ)) (ss : List Subscript) → NoCell bs (triplets_of bs ss) ⊎ Starts bs ss
    → offsets_from (start_of 1 bs (dims_named bs ss)) (dims_of 1 bs (triplets_of bs ss)) ≡ offsets_from (pos (subscript_order bs (firsts_of (triplets_of bs ss)))) (dims_of 1 bs (triplets_of bs ss))
begun bs ss (inl k) = k 1 (start_of 1 bs (dims_named bs ss)) (pos (subscript_order bs (firsts_of (triplets_of bs ss))))
begun bs ss (inr k) = ap (λ x. offsets_from x (dims_of 1 bs (triplets_of bs ss))) (k 1 ∙ ap pos (omega arith))

abbrev placed : List (ℤ × ℤ) → List Dimension → Place
placed bs ds = record { start = start_of 1 bs ds; dims = steps_of 1 bs ds }

cells_in_order : (bs : List (ℤ × ℤ)) (ss : List Subscript) (ds : List Dimension) → length ss ≡ length bs → dimensions bs ss ≡ found ds
    → offsets (placed bs ds) ≡ map (λ subs. pos (subscript_order bs subs)) (elements_of (triplets_of bs ss))
cells_in_order bs ss ds q a =
    let d = dims_found bs ss ds a in
    ap (λ x. offsets (placed bs x)) d.0
    ∙ (same_cells (start_of 1 bs (dims_named bs ss)) 1 bs ss
    ∙ (begun bs ss (starts bs ss d.1) ∙ section_places bs (triplets_of bs ss) (triplets_many bs ss q) (all_within bs ss q d.1)))

-- a place has the section's elements, in their order
section_in_order : (bs : List (ℤ × ℤ)) (ss : List Subscript) (p : Place) → length ss ≡ length bs → place_of bs ss ≡ found p
    → All (AllWithin bs) (elements_of (triplets_of bs ss)) × (offsets p ≡ map (λ subs. pos (subscript_order bs subs)) (elements_of (triplets_of bs ss)))
section_in_order bs ss p q e = go (dimensions bs ss) refl e where
  go : (x : Found (List Dimension)) → dimensions bs ss ≡ x → with_found x (λ ds. found (placed bs ds)) ≡ found p
      → All (AllWithin bs) (elements_of (triplets_of bs ss)) × (offsets p ≡ map (λ subs. pos (subscript_order bs subs)) (elements_of (triplets_of bs ss)))
  go (found ds) a h = let same : p ≡ placed bs ds = cc in (all_within bs ss q (dims_found bs ss ds a).1, ap offsets same ∙ cells_in_order bs ss ds q a)
  go (at_fault k) a h = cc

-- an array without elements has no section with any, and no place of one has a cell
no_count : (b : ℤ × ℤ) (t : Triplet) → Fits b t → extent_of b ≡ 0 → t.count ≡ 0
no_count b t h e = go t.count refl where
  go : (n : ℕ) → t.count ≡ n → t.count ≡ 0
  go zero k = k
  go (suc m) k = let below = within-below b.0 b.1 t.first (h m k).0 (h m k).1 in absurd (omega arith)

crossed_none : (rests : List (List ℤ)) → crossed [] rests ≡ []
crossed_none [] = refl
crossed_none (ss ∷ more) = crossed_none more

no_factor : (m n : ℕ) → m * n ≡ 0 → (m ≡ 0) ⊎ (n ≡ 0)
no_factor zero n h = inl refl
no_factor (suc m) zero h = inr refl
no_factor (suc m) (suc n) h = absurd (grind arith)

abbrev HasNone : List (ℤ × ℤ) → List Subscript → Type 0
HasNone bs ss = (elements_of (triplets_of bs ss) ≡ []) × ((x : ℤ) → offsets_from x (resting (dims_named bs ss)) ≡ [])

none_of : (b : ℤ × ℤ) (bs : List (ℤ × ℤ)) (s : Subscript) (ss : List Subscript) → (triplet_of b s).count ≡ 0 → HasNone (b ∷ bs) (s ∷ ss)
unfolding dims_named kept
none_of b bs (single s) ss e = absurd (omega arith)
none_of b bs (triplet f l st) ss e =
    let t = triplet_of b (triplet f l st) in (
      ap (λ n. crossed (row_of n t.stride t.first) (elements_of (triplets_of bs ss))) e ∙ crossed_none (elements_of (triplets_of bs ss)),
      λ x. ap (λ n. rows_of n (pos 0) (offsets_from x (resting (dims_named bs ss)))) e ∙ no_rows (pos 0) (offsets_from x (resting (dims_named bs ss))),
    )

none_after : (b : ℤ × ℤ) (bs : List (ℤ × ℤ)) (s : Subscript) (ss : List Subscript) → HasNone bs ss → HasNone (b ∷ bs) (s ∷ ss)
unfolding dims_named kept
none_after b bs (single s) ss h = (ap (crossed (row_of 1 (pos 1) s)) h.0, h.1)
none_after b bs (triplet f l st) ss h =
    let t = triplet_of b (triplet f l st) in
    (ap (crossed (row_of t.count t.stride t.first)) h.0, λ x. ap (rows_of t.count (pos 0)) (h.1 x))

has_none : (bs : List (ℤ × ℤ)) (ss : List Subscript) → length ss ≡ length bs → AllFit bs (triplets_of bs ss) → size_of bs ≡ 0 → HasNone bs ss
has_none [] ss q h e = absurd (omega arith)
has_none (b ∷ bs) [] q h e = absurd (omega arith)
has_none (b ∷ bs) (s ∷ ss) q h e = go (no_factor (extent_of b) (size_of bs) e) (λ k. has_none bs ss (omega arith) h.1 k) where
  go : (extent_of b ≡ 0) ⊎ (size_of bs ≡ 0) → (size_of bs ≡ 0 → HasNone bs ss) → HasNone (b ∷ bs) (s ∷ ss)
  go (inl k) f = none_of b bs s ss (no_count b (triplet_of b s) h.0 k)
  go (inr k) f = none_after b bs s ss (f k)

abbrev rested : List Dimension → Place
rested ds = record { start = pos 0; dims = resting ds }

abbrev InOrder : List (ℤ × ℤ) → List Subscript → Place → Type 0
InOrder bs ss p = All (AllWithin bs) (elements_of (triplets_of bs ss)) × (offsets p ≡ map (λ subs. pos (subscript_order bs subs)) (elements_of (triplets_of bs ss)))

none_in_order : (bs : List (ℤ × ℤ)) (ss : List Subscript) (p : Place) → length ss ≡ length bs → size_of bs ≡ 0 → empty_place bs ss ≡ found p → InOrder bs ss p
none_in_order bs ss p q z e = go (dimensions bs ss) refl e where
  go : (x : Found (List Dimension)) → dimensions bs ss ≡ x → with_found x (λ ds. found (rested ds)) ≡ found p → InOrder bs ss p
  go (found ds) a h =
      let same : p ≡ rested ds = cc in
      let d = dims_found bs ss ds a in
      let n = has_none bs ss q d.1 z in
      (all_within bs ss q d.1, ap offsets same ∙ (ap (λ es. offsets (rested es)) d.0 ∙ (n.1 (pos 0) ∙ sym (ap (map (λ subs. pos (subscript_order bs subs))) n.0))))
  go (at_fault k) a h = cc

-- so has one whose numbers are of 64 bits
either : (t u : Bool) (x y : Found Place) (p : Place) (k : ℕ) → cond t x (cond u y (at_fault k)) ≡ found p → (x ≡ found p) ⊎ ((u ≡ true) × (y ≡ found p))
either true u x y p k e = inl e
either false true x y p k e = inr (refl, e)
either false false x y p k e = cc

pub within_in_order : (bs : List (ℤ × ℤ)) (ss : List Subscript) (p : Place) → length ss ≡ length bs → place_within bs ss ≡ found p
    → All (AllWithin bs) (elements_of (triplets_of bs ss)) × (offsets p ≡ map (λ subs. pos (subscript_order bs subs)) (elements_of (triplets_of bs ss)))
within_in_order bs ss p q e = go (either (nat_lt (spread_of bs) 9223372036854775808) (is_empty bs) (place_of bs ss) (empty_place bs ss) p room e) where
  go : (place_of bs ss ≡ found p) ⊎ ((is_empty bs ≡ true) × (empty_place bs ss ≡ found p)) → InOrder bs ss p
  go (inl h) = section_in_order bs ss p q h
  go (inr h) =
      let z : (size_of bs == 0) ≡ true = left_one (size_of bs == 0) (are_small bs) h.0 in
      none_in_order bs ss p q (grind arith) h.1
