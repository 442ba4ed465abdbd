-- The span of a section has the section's cells, each within a coarray's greatest size.
use Rattle.std.proofs.Common.{◌≡◌, ℕ, zero, suc, ◌+◌, ◌*◌, ◌≤◌, ◌<◌, ℤ, pos, ◌+ℤ◌, ◌≤ℤ◌, Bool, true, false, ◌&&◌, cond, List, [], ◌∷◌, ◌++◌, map, length, All, refl, ap, ap₂, sym, ◌∙◌, subst, arith}
use Rattle.std.specs.Prelude.{negsuc, int_le, nat_le, nat_lt}
use Rattle.std.specs.List.{list_all, filter}
use Rattle.std.proofs.Math.Nat.{suc-mul, mul_comm}
use Rattle.std.proofs.lemmas.Bool.{le-leb, lt-ltb, ltb-true, ltb-false, and_from}
use Rattle.std.proofs.lemmas.Int.{ints}
use Rattle.std.proofs.lemmas.List.{length-append}
use Rattle.std.proofs.lemmas.List.Elements.{All-head, All-tail}
use Rattle.coarray_types.specs.Places.{size_of, AllWithin, subscript_order}
use Rattle.coarray_types.specs.Sections.{elements_of}
use Rattle.coarray_types.proofs.PlaceLemmas.{subscript_order-below}
use Rattle.caf_base.specs.Spans.{row_of, rows_of, offsets_from, offsets_of}
use Rattle.walk_theory.specs.Terms.{Found, found, at_fault, with_found}
use Rattle.image_acts.specs.Faults.{room}
use Rattle.image_acts.specs.Statuses.{most_cells, most_access_cells}
use Rattle.image_acts.specs.Words.{word, short}
use Rattle.image_acts.specs.Places.{Subscript, Dimension, Place, dimension, dimensions, start_of, steps_of, spread_of, place_within, is_empty, resting, product, cells_of, offsets}
use Rattle.image_acts.specs.Sections.{triplets_of}
use Rattle.image_acts.specs.Operate.Asking.{span_of}
use Rattle.image_acts.proofs.Sections.{within_in_order}
use Rattle.object_rules.specs.SpanTests.{is_cell_offset, is_span}

-- ---- as many subscripts as dimensions
rest_length : (bs : List (ℤ × ℤ)) (ss : List Subscript) → ((es : List Dimension) → dimensions bs ss ≡ found es → length ss ≡ length bs) → (d : Dimension) (ds : List Dimension) (x : Found (List Dimension)) → dimensions bs ss ≡ x
    → with_found x (λ es. found (d ∷ es)) ≡ found ds → suc (length ss) ≡ suc (length bs)
rest_length bs ss more d ds (found es) q e = ap suc (more es q)
rest_length bs ss more d ds (at_fault k) q e = absurd (cc)

first_length : (bs : List (ℤ × ℤ)) (ss : List Subscript) → ((es : List Dimension) → dimensions bs ss ≡ found es → length ss ≡ length bs) → (ds : List Dimension) (x : Found Dimension)
    → with_found x (λ d. with_found (dimensions bs ss) (λ es. found (d ∷ es))) ≡ found ds → suc (length ss) ≡ suc (length bs)
first_length bs ss more ds (found d) e = rest_length bs ss more d ds (dimensions bs ss) refl e
first_length bs ss more ds (at_fault k) e = absurd (cc)

same_length : (bs : List (ℤ × ℤ)) (ss : List Subscript) (ds : List Dimension) → dimensions bs ss ≡ found ds → length ss ≡ length bs
same_length [] [] ds e = refl
same_length [] (s ∷ ss) ds e = absurd (cc)
same_length (b ∷ bs) [] ds e = absurd (cc)
same_length (b ∷ bs) (s ∷ ss) ds e = first_length bs ss (λ es q. same_length bs ss es q) ds (dimension b s) e

placed_length : (bs : List (ℤ × ℤ)) (ss : List Subscript) (p : Place) → place_within bs ss ≡ found p → length ss ≡ length bs
placed_length bs ss p e = by_dims (dimensions bs ss) refl (nat_lt (spread_of bs) 9223372036854775808) (is_empty bs) e
  where
    by_dims : (x : Found (List Dimension)) → dimensions bs ss ≡ x → (t u : Bool)
        → cond t (with_found x (λ ds. found (record { start = start_of 1 bs ds; dims = steps_of 1 bs ds }))) (cond u (with_found x (λ ds. found (record { start = pos 0; dims = resting ds }))) (at_fault room)) ≡ found p
        → length ss ≡ length bs
    by_dims (found ds) q t u e' = same_length bs ss ds q
    by_dims (at_fault k) q true u e' = absurd (cc)
    by_dims (at_fault k) q false true e' = absurd (cc)
    by_dims (at_fault k) q false false e' = absurd (cc)

-- ---- offsets of a coarray
abbrev In : ℤ → Type 0
In o = (k : ℕ) × (o ≡ pos k) × (k < 65536)

abbrev Inside : List ℤ → Type 0
Inside [] = Unit {0}
Inside (o ∷ os) = In o × Inside os

ordered_inside : (bs : List (ℤ × ℤ)) (es : List (List ℤ)) → size_of bs ≤ most_cells → All (AllWithin bs) es → Inside (map (λ e. pos (subscript_order bs e)) es)
ordered_inside bs [] l h = tt
ordered_inside bs (e ∷ es) l h =
    let b = subscript_order-below bs e (All-head (AllWithin bs) e es h) in
    ((subscript_order bs e, refl, omega arith), ordered_inside bs es l (All-tail (AllWithin bs) e es h))

inside_back : (xs ys : List ℤ) → Inside (xs ++ ys) → Inside ys
inside_back [] ys h = h
inside_back (x ∷ xs) ys h = inside_back xs ys h.1

cell_offset : (o : ℤ) → In o → is_cell_offset o ≡ true
cell_offset o (k, e, l) = ap is_cell_offset e ∙ lt-ltb k 65536 l

cell_offsets : (os : List ℤ) → Inside os → list_all is_cell_offset os ≡ true
cell_offsets [] h = refl
cell_offsets (o ∷ os) h = and_from (is_cell_offset o) (list_all is_cell_offset os) (cell_offset o h.0) (cell_offsets os h.1)

-- ---- rows
rows_front : (n : ℕ) (s : ℤ) (os : List ℤ) → Inside (rows_of (suc n) s os) → Inside os
rows_front n s [] h = tt
rows_front n s (o ∷ os) h = (h.0, rows_front n s os (inside_back (row_of n s (o +ℤ s)) (rows_of (suc n) s os) h.1))

one_row : (s : ℤ) (os : List ℤ) → rows_of 1 s os ≡ os
one_row s [] = refl
one_row s (o ∷ os) = ap (λ z. o ∷ z) (one_row s os)

row_long : (n : ℕ) (s o : ℤ) → length (row_of n s o) ≡ n
row_long zero s o = refl
row_long (suc n) s o = ap suc (row_long n s (o +ℤ s))

rows_long : (n : ℕ) (s : ℤ) (os : List ℤ) → length (rows_of n s os) ≡ n * length os
rows_long n s [] = (let z : n * 0 ≡ 0 = omega arith in sym z)
rows_long n s (o ∷ os) =
    let a = length-append (row_of n s o) (rows_of n s os) in
    let b = row_long n s o in
    let c = rows_long n s os in
    let d = mul_comm n (length os) in
    let e = suc-mul (length os) n in
    let f = mul_comm n (suc (length os)) in
    omega arith

abbrev counts : List (ℕ × ℤ) → List ℕ
counts ds = map (λ d. d.0) ds

offsets_long : (start : ℤ) (ds : List (ℕ × ℤ)) → length (offsets_from start ds) ≡ product (counts ds)
offsets_long start [] = refl
offsets_long start (d ∷ ds) = rows_long d.0 d.1 (offsets_from start ds) ∙ ap (λ z. d.0 * z) (offsets_long start ds)

-- ---- counts whose product is neither 0 nor above a bound
factors : (n m k : ℕ) → 1 ≤ n * m → n * m ≤ k → (1 ≤ n) × (1 ≤ m) × (n ≤ k) × (m ≤ k)
factors zero m k h g = absurd (let z : zero * m ≡ 0 = omega arith in omega arith)
factors (suc n) zero k h g = absurd (let z : suc n * zero ≡ 0 = omega arith in omega arith)
factors (suc n) (suc m) k h g =
    let a = suc-mul n (suc m) in
    let b = suc-mul m (suc n) in
    let c = mul_comm (suc n) (suc m) in
    (omega arith, omega arith, omega arith, omega arith)

-- ---- the step of a dimension with two cells or more
short_same : (o s : ℤ) → In o → In (o +ℤ s) → short s ≡ s
short_same o s (a, e, l) (b, f, m) =
    let low : negsuc 65535 ≤ℤ s = omega (arith, ints) in
    let high : s ≤ℤ pos 65535 = omega (arith, ints) in
    let x : int_le s (negsuc 2147483647) ≡ false = grind (arith, ints) in
    let y : int_le s (pos 2147483647) ≡ true = grind (arith, ints) in
    ap (λ t. cond (int_le (cond t (negsuc 2147483647) s) (pos 2147483647)) (cond t (negsuc 2147483647) s) (pos 2147483647)) x ∙ ap (λ t. cond t s (pos 2147483647)) y

step_same : (n : ℕ) (s : ℤ) (os : List ℤ) → 1 < n → 1 ≤ length os → Inside (rows_of n s os) → short s ≡ s
step_same zero s os l some h = absurd (omega arith)
step_same (suc zero) s os l some h = absurd (omega arith)
step_same (suc (suc n)) s [] l some h = absurd (let z : 1 ≤ 0 = some in omega arith)
step_same (suc (suc n)) s (o ∷ os) l some h = short_same o s h.0 h.1.0

-- ---- the dimensions of a span
abbrev kept : List (ℕ × ℤ) → List (ℕ × ℤ)
kept ds = map (λ d. (word (pos d.0), short d.1)) (filter (λ d. nat_lt 1 d.0) ds)

one_cell : (n : ℕ) (s : ℤ) (os : List ℤ) → n ≡ 1 → rows_of n s os ≡ os
one_cell n s os e = ap (λ k. rows_of k s os) e ∙ one_row s os

inside_rest : (n : ℕ) (s : ℤ) (os : List ℤ) → 1 ≤ n → Inside (rows_of n s os) → Inside os
inside_rest zero s os l h = absurd (omega arith)
inside_rest (suc n) s os l h = rows_front n s os h

-- one dimension more, which is kept or left out
dimension_same : (start : ℤ) (d : ℕ × ℤ) (ds : List (ℕ × ℤ)) → offsets_from start (kept ds) ≡ offsets_from start ds → 1 ≤ d.0 → d.0 ≤ most_access_cells → 1 ≤ length (offsets_from start ds)
    → Inside (rows_of d.0 d.1 (offsets_from start ds)) → (b : Bool) → nat_lt 1 d.0 ≡ b
    → offsets_from start (map (λ (e : ℕ × ℤ). (word (pos e.0), short e.1)) (cond b (d ∷ filter (λ (e : ℕ × ℤ). nat_lt 1 e.0) ds) (filter (λ (e : ℕ × ℤ). nat_lt 1 e.0) ds))) ≡ rows_of d.0 d.1 (offsets_from start ds)
dimension_same start d ds more some few there h true t =
    let n : word (pos d.0) ≡ d.0 = omega arith in
    let s = step_same d.0 d.1 (offsets_from start ds) (ltb-true 1 d.0 t) there h in
    ap₂ (λ k y. rows_of k y (offsets_from start (kept ds))) n s ∙ ap (rows_of d.0 d.1) more
dimension_same start d ds more some few there h false t = more ∙ sym (one_cell d.0 d.1 (offsets_from start ds) (let z = ltb-false 1 d.0 t in omega arith))

same_offsets : (start : ℤ) (ds : List (ℕ × ℤ)) → 1 ≤ product (counts ds) → product (counts ds) ≤ most_access_cells → Inside (offsets_from start ds) → offsets_from start (kept ds) ≡ offsets_from start ds
same_offsets start [] some few h = refl
same_offsets start (d ∷ ds) some few h =
    let f = factors d.0 (product (counts ds)) most_access_cells some few in
    let more = same_offsets start ds f.1 f.3 (inside_rest d.0 d.1 (offsets_from start ds) f.0 h) in
    let there : 1 ≤ length (offsets_from start ds) = (let z = offsets_long start ds in let y = f.1 in omega arith) in
    dimension_same start d ds more f.0 f.2 there h (nat_lt 1 d.0) refl

wide_more : (d : ℕ × ℤ) (ds : List (ℕ × ℤ)) → list_all (λ (e : ℕ × ℤ). nat_le 2 e.0) (kept ds) ≡ true → (b : Bool) → nat_lt 1 d.0 ≡ b
    → list_all (λ (e : ℕ × ℤ). nat_le 2 e.0) (map (λ (e : ℕ × ℤ). (word (pos e.0), short e.1)) (cond b (d ∷ filter (λ (e : ℕ × ℤ). nat_lt 1 e.0) ds) (filter (λ (e : ℕ × ℤ). nat_lt 1 e.0) ds))) ≡ true
wide_more d ds more true t = and_from (nat_le 2 (word (pos d.0))) (list_all (λ (e : ℕ × ℤ). nat_le 2 e.0) (kept ds)) (le-leb 2 (word (pos d.0)) (let z = ltb-true 1 d.0 t in omega arith)) more
wide_more d ds more false t = more

wide : (ds : List (ℕ × ℤ)) → list_all (λ (e : ℕ × ℤ). nat_le 2 e.0) (kept ds) ≡ true
wide [] = refl
wide (d ∷ ds) = wide_more d ds (wide ds) (nat_lt 1 d.0) refl

-- it begins at a cell
start_inside : (start : ℤ) (ds : List (ℕ × ℤ)) → 1 ≤ product (counts ds) → product (counts ds) ≤ most_access_cells → Inside (offsets_from start ds) → In start
start_inside start [] some few h = h.0
start_inside start (d ∷ ds) some few h =
    let f = factors d.0 (product (counts ds)) most_access_cells some few in
    start_inside start ds f.1 f.3 (inside_rest d.0 d.1 (offsets_from start ds) f.0 h)

start_same : (o : ℤ) → In o → pos (word o) ≡ o
start_same o (k, e, l) = ap (λ z. pos (word z)) e ∙ (ap (λ n. pos n) (let z : word (pos k) ≡ k = omega arith in z) ∙ sym e)

pub section_span : (coarray : ℕ) (bs : List (ℤ × ℤ)) (ss : List Subscript) (p : Place) → size_of bs ≤ most_cells → place_within bs ss ≡ found p → 1 ≤ cells_of p → cells_of p ≤ most_access_cells
    → (is_span (span_of coarray p) ≡ true) × (offsets_of (span_of coarray p) ≡ offsets p) × (length (offsets p) ≡ cells_of p)
section_span coarray bs ss p small e some few =
    let order = within_in_order bs ss p (placed_length bs ss p e) e in
    let inside : Inside (offsets p) = subst Inside (sym order.1) (ordered_inside bs (elements_of (triplets_of bs ss)) small order.0) in
    let cells : length (offsets p) ≡ cells_of p = offsets_long p.start p.dims in
    let same : offsets_of (span_of coarray p) ≡ offsets p = ap (λ o. offsets_from o (kept p.dims)) (start_same p.start (start_inside p.start p.dims some few inside)) ∙ same_offsets p.start p.dims some few inside in
    let long : length (offsets_of (span_of coarray p)) ≤ 4096 = (let z = ap length same in omega arith) in
    let all : list_all is_cell_offset (offsets_of (span_of coarray p)) ≡ true = ap (list_all is_cell_offset) same ∙ cell_offsets (offsets p) inside in (
      and_from (list_all (λ (d : ℕ × ℤ). nat_le 2 d.0) (span_of coarray p).dims) (nat_le (length (offsets_of (span_of coarray p))) 4096 && list_all is_cell_offset (offsets_of (span_of coarray p))) (wide p.dims)
          (and_from (nat_le (length (offsets_of (span_of coarray p))) 4096) (list_all is_cell_offset (offsets_of (span_of coarray p))) (le-leb (length (offsets_of (span_of coarray p))) 4096 long) all),
      same,
      cells,
    )
