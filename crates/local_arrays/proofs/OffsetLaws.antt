-- The offset of an element by one or two subscripts, in bounds in which 64 bits hold each place.
use Rattle.std.proofs.Common.{◌≡◌, ◌+◌, ◌*◌, ◌<◌, ◌≤◌, ◌^◌, ℕ, ℤ, pos, ◌+ℤ◌, ◌-ℤ◌, ◌*ℤ◌, ◌≤ℤ◌, true, [], ◌∷◌, ap, sym, subst, ◌∙◌, arith, w64, to_z, of_z}
use Rattle.std.specs.Prelude.{int_le, unsigned_abs, nat_abs, max, FitsSigned}
use Rattle.std.proofs.lemmas.Bool.{and_parts, lt-ltb}
use Rattle.std.proofs.lemmas.Float.{T_from_true}
use Rattle.std.specs.Int.Signed.{le_z_yes}
use Rattle.std.proofs.lemmas.Int.{ints, to_z-of_z}
use Rattle.std.proofs.lemmas.Nat.{mul-le}
use Rattle.caf_base.specs.Arithmetic.{is_within}
use Rattle.coarray_types.specs.Places.{extent_of, size_of}
use Rattle.walk_theory.specs.Terms.{found}
use Rattle.image_acts.specs.Places.{place_within, single, spread_of}
use Rattle.array_places.specs.Sections.{numbers_of}
use Rattle.local_arrays.specs.Rows.{IsOffset}

between : (l u v : ℤ) → is_within l u v ≡ true → (l ≤ℤ v) × (v ≤ℤ u)
between l u v h = (let p = and_parts (int_le l v) (int_le v u) h in (le_z_yes (T_from_true (int_le l v) p.0), le_z_yes (T_from_true (int_le v u) p.1)))

ordered : (l u s : ℤ) → is_within l u s ≡ true → l ≤ℤ u
ordered l u s h = (let b = between l u s h in omega (arith, ints, b.0, b.1))

extent_is : (l u : ℤ) → l ≤ℤ u → extent_of (l, u) ≡ unsigned_abs (u -ℤ l) + 1
extent_is l u h = grind (arith, ints)

-- a distance from the lower bound, and how many there are
reach : (l u s : ℤ) → is_within l u s ≡ true → unsigned_abs (s -ℤ l) + 1 ≤ max 1 (extent_of (l, u))
reach l u s h =
    let b = between l u s h in
    let e = extent_is l u (ordered l u s h) in
    let a : unsigned_abs (s -ℤ l) ≤ unsigned_abs (u -ℤ l) = omega (arith, ints, b.0, b.1) in
    omega arith

steps : (l u s : ℤ) → is_within l u s ≡ true → s -ℤ l ≡ pos (unsigned_abs (s -ℤ l))
steps l u s h = (let b = between l u s h in omega (arith, ints, b.0, b.1))

count : (l u s : ℤ) → is_within l u s ≡ true → (u -ℤ l) +ℤ pos 1 ≡ pos (max 1 (extent_of (l, u)))
count l u s h =
    let o = ordered l u s h in
    let e = extent_is l u o in
    omega (arith, ints, o)

fits : (z : ℤ) (n : ℕ) → z ≡ pos n → n < 9223372036854775808 → FitsSigned w64 z
fits z n e h = rw e (omega (arith, ints))

-- what 64 bits keep
pub kept : (z : ℤ) → FitsSigned w64 z → to_z w64 (of_z w64 z) ≡ z
kept z f = to_z-of_z w64 z f

-- one subscript
module _ (l u s : ℤ) (h : is_within l u s ≡ true) (n : spread_of ((l, u) ∷ []) < 2 ^ 63) where
  pub distance_fits : FitsSigned w64 (s -ℤ l)
  distance_fits = (let r = reach l u s h in fits (s -ℤ l) (unsigned_abs (s -ℤ l)) (steps l u s h) (omega arith))

  one_place : (o : ℤ) → o ≡ s -ℤ l → numbers_of (place_within ((l, u) ∷ []) (single s ∷ [])) ≡ found (o ∷ [])
  one_place o e = rw (lt-ltb (max 1 (extent_of (l, u)) * 1) 9223372036854775808 n, h) (ap (λ t. found (t ∷ [])) (start_is ∙ sym e))
    where
      start_is : (pos 1 *ℤ (s -ℤ l)) +ℤ pos 0 ≡ s -ℤ l
      start_is = omega (arith, ints)

  pub one_offset : (z : ℤ) → z ≡ s -ℤ l → IsOffset ((l, u) ∷ []) (single s ∷ []) (nat_abs z)
  one_offset z e =
      let r = reach l u s h in
      let x = extent_is l u (ordered l u s h) in
      let d = steps l u s h in
      subst (λ (y : ℤ). IsOffset ((l, u) ∷ []) (single s ∷ []) (nat_abs y)) (sym (e ∙ d)) (record { stands = one_place (pos (unsigned_abs (s -ℤ l))) (sym d); inside = omega arith })

-- two subscripts
module _ (l u m v s t : ℤ) (in_rows : is_within l u s ≡ true) (in_columns : is_within m v t ≡ true) (n : spread_of ((l, u) ∷ (m, v) ∷ []) < 2 ^ 63) where
  abbrev height : ℕ
  height = max 1 (extent_of (l, u))

  abbrev width : ℕ
  width = max 1 (extent_of (m, v)) * 1

  abbrev rows : ℕ
  rows = unsigned_abs (s -ℤ l)

  abbrev columns : ℕ
  columns = unsigned_abs (t -ℤ m)

  row_reach : rows + 1 ≤ height
  row_reach = reach l u s in_rows

  column_reach : columns + 1 ≤ width
  column_reach = (let r = reach m v t in_columns in omega arith)

  few : height * width < 9223372036854775808
  few = n

  -- all cells but those of the columns behind
  before : (height * columns) + height ≤ height * width
  before = (let r = mul-le height (columns + 1) height width (omega arith) column_reach in omega arith)

  few_rows : height < 9223372036854775808
  few_rows = (let b = before in let f = few in omega arith)

  pub between_fits : FitsSigned w64 (u -ℤ l)
  between_fits =
      let c = count l u s in_rows in
      let f = few_rows in
      let r = row_reach in
      omega (arith, ints, c)

  pub extent_fits : FitsSigned w64 ((u -ℤ l) +ℤ pos 1)
  extent_fits = fits _ height (count l u s in_rows) few_rows

  pub row_fits : FitsSigned w64 (s -ℤ l)
  row_fits = fits _ rows (steps l u s in_rows) (let r = row_reach in let f = few_rows in omega arith)

  few_columns : width < 9223372036854775808
  few_columns =
      let r = row_reach in
      let one : 1 ≤ height = omega arith in
      let p = mul-le 1 width height width one (omega arith) in
      let f = few in
      omega arith

  pub column_fits : FitsSigned w64 (t -ℤ m)
  column_fits = fits _ columns (steps m v t in_columns) (let r = column_reach in let f = few_columns in omega arith)

  product_is : ((u -ℤ l) +ℤ pos 1) *ℤ (t -ℤ m) ≡ pos (height * columns)
  product_is = ap (λ z. z *ℤ (t -ℤ m)) (count l u s in_rows) ∙ ap (λ z. pos height *ℤ z) (steps m v t in_columns)

  pub product_fits : FitsSigned w64 (((u -ℤ l) +ℤ pos 1) *ℤ (t -ℤ m))
  product_fits = fits _ (height * columns) product_is (let b = before in let f = few in let r = row_reach in omega arith)

  pub offset_fits : FitsSigned w64 ((((u -ℤ l) +ℤ pos 1) *ℤ (t -ℤ m)) +ℤ (s -ℤ l))
  offset_fits =
      fits _ ((height * columns) + rows) (ap (λ z. z +ℤ (s -ℤ l)) product_is ∙ ap (λ z. pos (height * columns) +ℤ z) (steps l u s in_rows)) (let b = before in let f = few in let r = row_reach in omega arith)

  cells : pos (1 * extent_of (l, u)) ≡ (u -ℤ l) +ℤ pos 1
  cells = (let o = ordered l u s in_rows in let e = extent_is l u o in omega (arith, ints, o))

  two_place : (o : ℤ) → o ≡ (((u -ℤ l) +ℤ pos 1) *ℤ (t -ℤ m)) +ℤ (s -ℤ l) → numbers_of (place_within ((l, u) ∷ (m, v) ∷ []) (single s ∷ single t ∷ [])) ≡ found (o ∷ [])
  two_place o e = rw (lt-ltb (max 1 (extent_of (l, u)) * (max 1 (extent_of (m, v)) * 1)) 9223372036854775808 n, in_rows, in_columns) (ap (λ z. found (z ∷ [])) (start_is ∙ sym e))
    where
      moved : (x : ℤ) → (pos 1 *ℤ (s -ℤ l)) +ℤ (x +ℤ pos 0) ≡ x +ℤ (s -ℤ l)
      moved x = omega (arith, ints)

      start_is : (pos 1 *ℤ (s -ℤ l)) +ℤ ((pos (1 * extent_of (l, u)) *ℤ (t -ℤ m)) +ℤ pos 0) ≡ (((u -ℤ l) +ℤ pos 1) *ℤ (t -ℤ m)) +ℤ (s -ℤ l)
      start_is = ap (λ z. (pos 1 *ℤ (s -ℤ l)) +ℤ ((z *ℤ (t -ℤ m)) +ℤ pos 0)) cells ∙ moved (((u -ℤ l) +ℤ pos 1) *ℤ (t -ℤ m))

  -- the cells before the element, as a number
  offset_is : (((u -ℤ l) +ℤ pos 1) *ℤ (t -ℤ m)) +ℤ (s -ℤ l) ≡ pos ((height * columns) + rows)
  offset_is = ap (λ z. z +ℤ (s -ℤ l)) product_is ∙ ap (λ z. pos (height * columns) +ℤ z) (steps l u s in_rows)

  size_is : size_of ((l, u) ∷ (m, v) ∷ []) ≡ height * width
  size_is =
      let a = extent_is l u (ordered l u s in_rows) in
      let b = extent_is m v (ordered m v t in_columns) in
      let c : extent_of (l, u) ≡ height = omega arith in
      let d : extent_of (m, v) * 1 ≡ width = omega arith in
      ap (λ n. n * (extent_of (m, v) * 1)) c ∙ ap (λ n. height * n) d

  pub two_offset : (z : ℤ) → z ≡ (((u -ℤ l) +ℤ pos 1) *ℤ (t -ℤ m)) +ℤ (s -ℤ l) → IsOffset ((l, u) ∷ (m, v) ∷ []) (single s ∷ single t ∷ []) (nat_abs z)
  two_offset z e =
      let y = size_is in
      let b = before in
      let r = row_reach in
      subst (λ (y : ℤ). IsOffset ((l, u) ∷ (m, v) ∷ []) (single s ∷ single t ∷ []) (nat_abs y)) (sym (e ∙ offset_is)) (record { stands = two_place (pos ((height * columns) + rows)) (sym offset_is); inside = omega arith })

  pub two_least : (z : ℤ) → z ≡ (((u -ℤ l) +ℤ pos 1) *ℤ (t -ℤ m)) +ℤ (s -ℤ l) → pos 0 ≤ℤ z
  two_least z e = (let d = e ∙ offset_is in omega (arith, ints, d))

  pub two_small : (z : ℤ) → z ≡ (((u -ℤ l) +ℤ pos 1) *ℤ (t -ℤ m)) +ℤ (s -ℤ l) → nat_abs z < 9223372036854775808
  two_small z e = rw (e ∙ offset_is) (let b = before in let f = few in let r = row_reach in omega arith)
