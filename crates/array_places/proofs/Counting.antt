-- How many cells a place has, and the offset of each.
use Rattle.std.proofs.Common.{◌≡◌, ◌∙◌, ℕ, zero, suc, ◌+◌, ◌-◌, ◌*◌, ◌/◌, ◌%◌, ◌^◌, ◌<◌, ◌≤◌, min, ℤ, pos, ◌+ℤ◌, ◌*ℤ◌, List, [], ◌∷◌, ◌++◌, length, map, refl, sym, ap, subst, inl, inr, arith}
use Rattle.std.specs.Prelude.{Some, slice_get, unsigned_abs, FitsSigned}
use Rattle.std.specs.Int.{w128}
use Rattle.std.proofs.lemmas.List.{length-append}
use Rattle.std.proofs.lemmas.Bool.{cases_lt}
use Rattle.std.proofs.lemmas.Int.{ints, unsigned_abs-mul}
use Rattle.std.proofs.Math.Nat.{mod-eq-sub-mod, div-eq-sub-div, mul_assoc, mul-suc, mul-le-mul_left, div-eq_of_lt, mod-eq_of_lt, div-lt_iff_lt-mul}
use Rattle.std.proofs.Math.IntN.{zero-*ℤ, suc_ℤ-*ℤ, +ℤ_idr}
use Rattle.caf_base.specs.Spans.{row_of, rows_of, offsets_from}
use Rattle.caf_base.specs.Arithmetic.{natural}
use Rattle.image_acts.specs.Places.{product, dims_in}
use Rattle.array_places.specs.Offsets.{counts_of}

-- a product that is kept as far as a number goes
times_grows : (x c m : ℕ) → m ≤ x → m ≤ x * suc c
times_grows x c m h = omega (arith, mul-suc x c)

capped_over : (x c m : ℕ) → m ≤ x → min (min x m * suc c) m ≡ min (x * suc c) m
capped_over x c m h =
    let e : min x m ≡ m = omega arith in
    let f = times_grows m c m (omega arith) in
    let g = times_grows x c m h in
    let k : min (m * suc c) m ≡ min (x * suc c) m = omega arith in
    ap (λ (k : ℕ). min (k * suc c) m) e ∙ k

pub capped : (x c m : ℕ) → min (min x m * c) m ≡ min (x * c) m
capped x zero m = let e : min x m * 0 ≡ x * 0 = grind arith in ap (λ (k : ℕ). min k m) e
capped x (suc c) m = elim (cases_lt x m) [
  | inl h ↦ let e : min x m ≡ x = omega arith in ap (λ (k : ℕ). min (k * suc c) m) e
  | inr h ↦ capped_over x c m h
]

pub capped_times : (a b c m : ℕ) → min (min (a * b) m * c) m ≡ min (a * (b * c)) m
capped_times a b c m = capped (a * b) c m ∙ ap (λ (k : ℕ). min k m) (mul_assoc a b c)

-- the extents of dimensions
abbrev pub extents : List (ℕ × ℤ) → List ℕ
extents ds = map (λ d. d.0) ds

row_length : (n : ℕ) (s o : ℤ) → length (row_of n s o) ≡ n
row_length zero s o = refl
row_length (suc n) s o = let h : length (row_of n s (o +ℤ s)) ≡ n = row_length n s (o +ℤ s) in omega arith

times_more : (n k : ℕ) → n + n * k ≡ n * suc k
times_more n k = grind arith

rows_length : (n : ℕ) (s : ℤ) (os : List ℤ) → length (rows_of n s os) ≡ n * length os
rows_length n s [] = grind arith
rows_length n s (o ∷ os) = length-append (row_of n s o) (rows_of n s os) ∙ ap (λ (k : ℕ). k + length (rows_of n s os)) (row_length n s o) ∙ ap (λ (k : ℕ). n + k) (rows_length n s os) ∙ times_more n (length os)

-- a place has as many offsets as cells
pub offsets_length : (start : ℤ) (ds : List (ℕ × ℤ)) → length (offsets_from start ds) ≡ product (extents ds)
offsets_length start [] = refl
offsets_length start (d ∷ ds) = rows_length d.0 d.1 (offsets_from start ds) ∙ ap (λ (k : ℕ). d.0 * k) (offsets_length start ds)

-- the offset of a cell
abbrev pub at_of : ℤ → List (ℕ × ℤ) → ℕ → ℤ
at_of at [] k = at
at_of at (d ∷ ds) k = at_of (at +ℤ (pos (k % d.0) *ℤ d.1)) ds (k / d.0)

moved : (a x y : ℤ) → (a +ℤ x) +ℤ y ≡ (a +ℤ y) +ℤ x
moved a x y = omega (arith, ints)

at_moved : (a x : ℤ) (ds : List (ℕ × ℤ)) (k : ℕ) → at_of (a +ℤ x) ds k ≡ at_of a ds k +ℤ x
at_moved a x [] k = refl
at_moved a x (d ∷ ds) k = ap (λ (v : ℤ). at_of v ds (k / d.0)) (moved a x (pos (k % d.0) *ℤ d.1)) ∙ at_moved (a +ℤ (pos (k % d.0) *ℤ d.1)) x ds (k / d.0)

summed : (a b c : ℤ) → (a +ℤ b) +ℤ c ≡ a +ℤ (c +ℤ b)
summed a b c = omega (arith, ints)

one_step : (o s : ℤ) (k : ℕ) → (o +ℤ s) +ℤ (pos k *ℤ s) ≡ o +ℤ (pos (suc k) *ℤ s)
one_step o s k = summed o s (pos k *ℤ s) ∙ ap (λ (v : ℤ). o +ℤ v) (sym (suc_ℤ-*ℤ (pos k) s))

row_get : (n : ℕ) (s o : ℤ) (k : ℕ) → k < n → slice_get (row_of n s o) k ≡ Some (o +ℤ (pos k *ℤ s))
row_get zero s o k h = absurd (omega arith)
row_get (suc n) s o zero h = ap Some (sym (+ℤ_idr o) ∙ ap (λ (v : ℤ). o +ℤ v) (sym (zero-*ℤ s)))
row_get (suc n) s o (suc k) h = row_get n s (o +ℤ s) k (omega arith) ∙ ap Some (one_step o s k)

get_left : (xs ys : List ℤ) (k : ℕ) → k < length xs → slice_get (xs ++ ys) k ≡ slice_get xs k
get_left [] ys k h = absurd (omega arith)
get_left (x ∷ xs) ys zero h = refl
get_left (x ∷ xs) ys (suc k) h = get_left xs ys k (omega arith)

get_right : (xs ys : List ℤ) (k : ℕ) → slice_get (xs ++ ys) (length xs + k) ≡ slice_get ys k
get_right [] ys k = ap (slice_get ys) (omega arith)
get_right (x ∷ xs) ys k = let e : suc (length xs) + k ≡ suc (length xs + k) = omega arith in ap (slice_get (x ∷ (xs ++ ys))) e ∙ get_right xs ys k

rows_near : (n : ℕ) (s x : ℤ) (xs : List ℤ) (k : ℕ) (o : ℤ) → k < n → slice_get (x ∷ xs) (k / n) ≡ Some o → slice_get (row_of n s x ++ rows_of n s xs) k ≡ Some (o +ℤ (pos (k % n) *ℤ s))
rows_near n s x xs k o h e =
    let l : k < length (row_of n s x) = rw (row_length n s x) h in
    let none : k / n ≡ 0 = div-eq_of_lt h in
    let same : k % n ≡ k = mod-eq_of_lt h in
    let f : Some x ≡ Some o = ap (slice_get (x ∷ xs)) (sym none) ∙ e in
    let g : x ≡ o = cc in
    get_left (row_of n s x) (rows_of n s xs) k l ∙ row_get n s x k h
    ∙ ap (λ (v : ℤ). Some (v +ℤ (pos k *ℤ s))) g ∙ ap (λ (j : ℕ). Some (o +ℤ (pos j *ℤ s))) (sym same)

far_get : (n : ℕ) (s x : ℤ) (xs : List ℤ) (k : ℕ) → n ≤ k → slice_get (row_of n s x ++ rows_of n s xs) k ≡ slice_get (rows_of n s xs) (k - n)
far_get n s x xs k h =
    let e : k ≡ length (row_of n s x) + (k - n) = omega (arith, row_length n s x) in
    ap (slice_get (row_of n s x ++ rows_of n s xs)) e ∙ get_right (row_of n s x) (rows_of n s xs) (k - n)

far_first : (x : ℤ) (xs : List ℤ) (n k : ℕ) → 0 < n → n ≤ k → slice_get (x ∷ xs) (k / n) ≡ slice_get xs ((k - n) / n)
far_first x xs n k h g =
    let e : k / n ≡ suc ((k - n) / n) = omega (arith, div-eq-sub-div {m = n} {n = k} h g) in
    ap (slice_get (x ∷ xs)) e

rows_get : (n : ℕ) (s : ℤ) (os : List ℤ) (k : ℕ) (o : ℤ) → 0 < n → slice_get os (k / n) ≡ Some o → slice_get (rows_of n s os) k ≡ Some (o +ℤ (pos (k % n) *ℤ s))
rows_get n s [] k o h e = absurd (cc)
rows_get n s (x ∷ xs) k o h e = elim (cases_lt k n) [
  | inl g ↦ rows_near n s x xs k o g e
  | inr g ↦ far_get n s x xs k g ∙ rows_get n s xs (k - n) o h (sym (far_first x xs n k h g) ∙ e) ∙ ap (λ (j : ℕ). Some (o +ℤ (pos j *ℤ s))) (sym (mod-eq-sub-mod {n = k} {m = n} g))
]

pub some_count : (n m k : ℕ) → k < n * m → 0 < n
some_count zero m k h = absurd (grind arith)
some_count (suc n) m k h = omega arith

pub count_left : (n m k : ℕ) → k < n * m → k / n < m
count_left n m k h =
    let some : 0 < n = some_count n m k h in
    let g : k < m * n = grind arith in
    (div-lt_iff_lt-mul {k = n} {x = k} {y = m} some).1 g

-- the offset of a cell stands at its place
pub offset_there : (start : ℤ) (ds : List (ℕ × ℤ)) (k : ℕ) → k < product (extents ds) → slice_get (offsets_from start ds) k ≡ Some (at_of start ds k)
offset_there start [] k h = let e : k ≡ 0 = omega arith in rw e refl
offset_there start (d ∷ ds) k h =
    rows_get d.0 d.1 (offsets_from start ds) k (at_of start ds (k / d.0)) (some_count d.0 (product (extents ds)) k h)
    (offset_there start ds (k / d.0) (count_left d.0 (product (extents ds)) k h))
    ∙ ap Some (sym (at_moved start (pos (k % d.0) *ℤ d.1) ds (k / d.0)))

-- how far a sum is from 0
pub abs_sum : (a b : ℤ) → unsigned_abs (a +ℤ b) ≤ unsigned_abs a + unsigned_abs b
abs_sum a b = omega (arith, ints)

-- what is in front of a step and what is left are no more than the number
pub parted : (k n : ℕ) → 0 < n → k / n + k % n ≤ k
parted k zero h = absurd (omega arith)
parted k (suc n) h =
    let e : suc n * (k / suc n) + k % suc n ≡ k = omega arith in
    let f : k / suc n ≤ suc n * (k / suc n) = grind arith in
    omega arith

pub part_near : (n : ℕ) (step : ℤ) → unsigned_abs step ≤ 2 ^ 63 → unsigned_abs (pos n *ℤ step) ≤ n * 2 ^ 63
part_near n step h =
    let a : unsigned_abs (pos n *ℤ step) ≡ n * unsigned_abs step = unsigned_abs-mul (pos n) step in
    let b : n * unsigned_abs step ≤ n * 2 ^ 63 = mul-le-mul_left n h in
    omega arith

pub part_fits : (n : ℕ) (at v step : ℤ) → n < 2 ^ 32 → unsigned_abs step ≤ 2 ^ 63 → unsigned_abs at ≤ 2 ^ 96 → v ≡ pos n *ℤ step → FitsSigned w128 (at +ℤ v)
part_fits n at v step h g f e =
    let a : unsigned_abs v ≤ n * 2 ^ 63 = rw e (part_near n step g) in
    let b : n * 2 ^ 63 ≤ 2 ^ 95 = omega arith in
    omega (arith, ints)

-- the offset stays near
pub near_turn : (at next step : ℤ) (k j n : ℕ) → unsigned_abs step ≤ 2 ^ 63 → 0 < n → next ≡ at +ℤ (pos (k % n) *ℤ step) → unsigned_abs at + k * 2 ^ 63 ≤ 2 ^ 63 + j * 2 ^ 63
    → unsigned_abs next + k / n * 2 ^ 63 ≤ 2 ^ 63 + j * 2 ^ 63
near_turn at next step k j n h g e i =
    let a : unsigned_abs next ≤ unsigned_abs at + unsigned_abs (pos (k % n) *ℤ step) = rw e (abs_sum at (pos (k % n) *ℤ step)) in
    let b : unsigned_abs (pos (k % n) *ℤ step) ≤ k % n * 2 ^ 63 = part_near (k % n) step h in
    let p : k / n + k % n ≤ k = parted k n g in
    omega arith

-- fewer than two numbers are no dimension
pub no_dim : (vs : List ℤ) → length vs < 2 → dims_in vs ≡ []
no_dim [] h = refl
no_dim (v ∷ []) h = refl
no_dim (v ∷ w ∷ vs) h = absurd (omega arith)

-- a turn of the count of cells
pub count_turn : (cells more count most t : ℕ) (n step : ℤ) (left rest : List ℤ) → left ≡ n ∷ step ∷ rest → count ≡ natural n → more ≡ min (cells * count) most
    → min (cells * counts_of left) most ≡ t → min (more * counts_of rest) most ≡ t
count_turn cells more count most t n step left rest e c m i =
    ap (λ (k : ℕ). min (k * counts_of rest) most) m
    ∙ capped_times cells count (counts_of rest) most
    ∙ ap (λ (k : ℕ). min (cells * (k * counts_of rest)) most) c
    ∙ ap (λ (l : List ℤ). min (cells * counts_of l) most) (sym e)
    ∙ i

pub count_end : (cells most t : ℕ) (left : List ℤ) → length left < 2 → cells ≤ most → min (cells * counts_of left) most ≡ t → cells ≡ t
count_end cells most t left h g i =
    let one : counts_of left ≡ 1 = ap (λ (l : List (ℕ × ℤ)). product (extents l)) (no_dim left h) in
    let e : min (cells * counts_of left) most ≡ cells = ap (λ (k : ℕ). min (cells * k) most) one ∙ omega arith in
    sym e ∙ i

-- a turn of the way to an offset
pub offset_turn : (at next : ℤ) (k count : ℕ) (n step t : ℤ) (left rest : List ℤ) → left ≡ n ∷ step ∷ rest → count ≡ natural n → next ≡ at +ℤ (pos (k % count) *ℤ step)
    → at_of at (dims_in left) k ≡ t → at_of next (dims_in rest) (k / count) ≡ t
offset_turn at next k count n step t left rest e c m i =
    ap (λ (v : ℤ). at_of v (dims_in rest) (k / count)) m
    ∙ ap (λ (j : ℕ). at_of (at +ℤ (pos (k % j) *ℤ step)) (dims_in rest) (k / j)) c
    ∙ ap (λ (l : List ℤ). at_of at (dims_in l) k) (sym e)
    ∙ i

pub count_there : (k count : ℕ) (n step : ℤ) (left rest : List ℤ) → left ≡ n ∷ step ∷ rest → count ≡ natural n → k < counts_of left → (0 < count) × (k / count < counts_of rest)
count_there k count n step left rest e c h =
    let g : k < count * counts_of rest = rw (c) (subst (λ (l : List ℤ). k < counts_of l) e h) in
    (some_count count (counts_of rest) k g, count_left count (counts_of rest) k g)

pub offset_end : (at : ℤ) (k : ℕ) (t : ℤ) (left : List ℤ) → length left < 2 → at_of at (dims_in left) k ≡ t → at ≡ t
offset_end at k t left h i = ap (λ (l : List (ℕ × ℤ)). at_of at l k) (sym (no_dim left h)) ∙ i
