-- The cells of a section lie between two offsets where the ends of its rows do.
use Rattle.std.proofs.Common.{◌≡◌, ℕ, zero, suc, ◌+◌, ◌-◌, ◌*◌, ◌<◌, ◌≤◌, ℤ, ◌+ℤ◌, Bool, true, false, ◌&&◌, nat_le, nat_lt, inl, inr, List, [], ◌∷◌, ◌++◌, length, get_or, min, cond, refl, ap, sym, ◌∙◌, arith}
use Rattle.std.specs.Prelude.{pos, negsuc, unsigned_abs, int_lt}
use Rattle.std.specs.List.{list_all}
use Rattle.std.proofs.lemmas.Bool.{cases_lt, ltb-true, leb-true, lt-ltb, le-ltb, le-leb, lt-leb, and_parts}
use Rattle.std.proofs.lemmas.List.Folds.{list_all-append}
use Rattle.caf_base.specs.Spans.{row_of, rows_of, offsets_from}
use Rattle.coarray_types.proofs.Parts.{tail_of}
use Rattle.object_rules.specs.SpanTests.{is_cell_offset}
use Rattle.coarray_memory.specs.Sections.{is_between}
use Rattle.coarray_memory.proofs.Cutting.{offsets_is}

and_true : (b : Bool) → (b && true) ≡ b
and_true true = refl
and_true false = refl

and_false : (b : Bool) → (b && false) ≡ false
and_false true = refl
and_false false = refl

-- every offset that a coarray can have
pub between_is : (os : List ℤ) → list_all (is_between 0 65536) os ≡ list_all is_cell_offset os
between_is [] = refl
between_is (pos k ∷ os) = rw (le-leb 0 k (omega arith)) (ap (λ b. nat_lt k 65536 && b) (between_is os))
between_is (negsuc k ∷ os) = refl

up_step : (low high t w : ℕ) (z : ℤ) → (is_between low high z && is_between low (high - w) (z +ℤ pos t)) ≡ is_between low (high - (t + w)) z
up_step low high t w (negsuc j) = refl
up_step low high t w (pos k) = elim (cases_lt k low) [
  | inl less ↦ rw (lt-leb low k less) refl
  | inr more ↦ elim (cases_lt k (high - (t + w))) [
    | inl l ↦ rw (le-leb low k more, lt-ltb k (high - (t + w)) l, lt-ltb k high (omega arith), le-leb low (k + t) (omega arith), lt-ltb (k + t) (high - w) (omega arith)) refl
    | inr g ↦ rw (le-leb low k more, le-ltb k (high - (t + w)) g, le-leb low (k + t) (omega arith), le-ltb (k + t) (high - w) (omega arith)) (and_false (nat_lt k high))
  ]
]

-- a row that goes up
row_up : (low high t k : ℕ) (z : ℤ) → list_all (is_between low high) (row_of (suc k) (pos t) z) ≡ is_between low (high - k * t) z
row_up low high t zero z = let e : high ≡ high - 0 * t = omega arith in and_true (is_between low high z) ∙ ap (λ h. is_between low h z) e
row_up low high t (suc k) z =
    let e : t + k * t ≡ suc k * t = grind arith in
    ap (λ b. is_between low high z && b) (row_up low high t k (z +ℤ pos t)) ∙ up_step low high t (k * t) z ∙ ap (λ w. is_between low (high - w) z) e

down_step : (low high t w : ℕ) (z : ℤ) → (is_between low high z && is_between (low + w) high (z +ℤ negsuc t)) ≡ is_between (low + (suc t + w)) high z
down_step low high t w (negsuc j) = refl
down_step low high t w (pos k) = elim (cases_lt k (suc t)) [
  | inl less ↦ rw (lt-ltb k (suc t) less, lt-leb (low + (suc t + w)) k (omega arith)) (and_false (nat_le low k && nat_lt k high))
  | inr more ↦ elim (cases_lt k (low + (suc t + w))) [
    | inl l ↦ rw (le-ltb k (suc t) more, lt-leb (low + (suc t + w)) k l, lt-leb (low + w) (k - suc t) (omega arith)) (and_false (nat_le low k && nat_lt k high))
    | inr g ↦ elim (cases_lt k high) [
      | inl h ↦ rw (le-ltb k (suc t) more, le-leb (low + (suc t + w)) k g, le-leb (low + w) (k - suc t) (omega arith), le-leb low k (omega arith), lt-ltb k high h, lt-ltb (k - suc t) high (omega arith)) refl
      | inr h ↦ rw (le-leb (low + (suc t + w)) k g, le-leb low k (omega arith), le-ltb k high h) refl
    ]
  ]
]

-- a row that goes down
row_down : (low high t k : ℕ) (z : ℤ) → list_all (is_between low high) (row_of (suc k) (negsuc t) z) ≡ is_between (low + k * suc t) high z
row_down low high t zero z = let e : low ≡ low + 0 * suc t = omega arith in and_true (is_between low high z) ∙ ap (λ l. is_between l high z) e
row_down low high t (suc k) z =
    let e : suc t + k * suc t ≡ suc k * suc t = grind arith in
    ap (λ b. is_between low high z && b) (row_down low high t k (z +ℤ negsuc t)) ∙ down_step low high t (k * suc t) z ∙ ap (λ w. is_between (low + w) high z) e

rows_up : (low high t k : ℕ) (os : List ℤ) → list_all (is_between low high) (rows_of (suc k) (pos t) os) ≡ list_all (is_between low (high - k * t)) os
rows_up low high t k [] = refl
rows_up low high t k (o ∷ os) =
    list_all-append (is_between low high) (row_of (suc k) (pos t) o) (rows_of (suc k) (pos t) os)
    ∙ ap (λ b. b && list_all (is_between low high) (rows_of (suc k) (pos t) os)) (row_up low high t k o)
    ∙ ap (λ b. is_between low (high - k * t) o && b) (rows_up low high t k os)

rows_down : (low high t k : ℕ) (os : List ℤ) → list_all (is_between low high) (rows_of (suc k) (negsuc t) os) ≡ list_all (is_between (low + k * suc t) high) os
rows_down low high t k [] = refl
rows_down low high t k (o ∷ os) =
    list_all-append (is_between low high) (row_of (suc k) (negsuc t) o) (rows_of (suc k) (negsuc t) os)
    ∙ ap (λ b. b && list_all (is_between low high) (rows_of (suc k) (negsuc t) os)) (row_down low high t k o)
    ∙ ap (λ b. is_between (low + k * suc t) high o && b) (rows_down low high t k os)

-- no offset of a coarray lies from 65,536 on
capped : (low high : ℕ) → high ≤ 65536 → (os : List ℤ) → list_all (is_between (min low 65536) high) os ≡ list_all (is_between low high) os
capped low high h [] = refl
capped low high h (negsuc j ∷ os) = refl
capped low high h (pos k ∷ os) = ap (λ b. b && list_all (is_between (min low 65536) high) os) one ∙ ap (λ b. is_between low high (pos k) && b) (capped low high h os)
  where
    one : is_between (min low 65536) high (pos k) ≡ is_between low high (pos k)
    one = elim (cases_lt k high) [
      | inl l ↦ elim (cases_lt k low) [
        | inl less ↦ rw (lt-leb low k less, lt-leb (min low 65536) k (omega arith)) refl
        | inr more ↦ rw (le-leb low k more, le-leb (min low 65536) k (omega arith)) refl
      ]
      | inr g ↦ rw (le-ltb k high g) (and_false (nat_le (min low 65536) k) ∙ sym (and_false (nat_le low k)))
    ]

steps_down : (low high k : ℕ) (s : ℤ) (os : List ℤ) → int_lt s (pos 0) ≡ true → list_all (is_between (low + k * unsigned_abs s) high) os ≡ list_all (is_between low high) (rows_of (suc k) s os)
steps_down low high k (pos j) os l = absurd (let e = ltb-true j 0 l in omega arith)
steps_down low high k (negsuc t) os l = sym (rows_down low high t k os)

steps_up : (low high k : ℕ) (s : ℤ) (os : List ℤ) → int_lt s (pos 0) ≡ false → list_all (is_between low (high - k * unsigned_abs s)) os ≡ list_all (is_between low high) (rows_of (suc k) s os)
steps_up low high k (pos j) os l = sym (rows_up low high j k os)
steps_up low high k (negsuc t) os l = absurd (cc)

first_wide : (dims : List (ℕ × ℤ)) → 1 ≤ length dims → list_all (λ d. nat_le 2 d.0) dims ≡ true → 2 ≤ (get_or dims 0 (0, pos 0)).0
first_wide [] h w = absurd (omega arith)
first_wide (d ∷ ds) h w = leb-true 2 d.0 (and_parts (nat_le 2 d.0) (list_all (λ d. nat_le 2 d.0) ds) w).0

-- the cells of the first dimension's rows, by those of the other dimensions
module _ (start : ℤ) (dims : List (ℕ × ℤ)) (any : 1 ≤ length dims) (wide : list_all (λ d. nat_le 2 d.0) dims ≡ true) (low high : ℕ) (s : ℤ) (same : s ≡ (get_or dims 0 (0, pos 0)).1) where
  rows_are : rows_of (suc ((get_or dims 0 (0, pos 0)).0 - 1)) s (offsets_from start (tail_of dims)) ≡ offsets_from start dims
  rows_are =
      let d = get_or dims 0 (0, pos 0) in
      let w = first_wide dims any wide in
      let e : suc (d.0 - 1) ≡ d.0 = omega arith in
      ap (λ n. rows_of n s (offsets_from start (tail_of dims))) e ∙ ap (λ r. rows_of d.0 r (offsets_from start (tail_of dims))) same ∙ sym (offsets_is start dims (0, pos 0) any)

  pub lie_down : int_lt s (pos 0) ≡ true → high ≤ 65536 → (n : ℕ) → n ≡ min (low + ((get_or dims 0 (0, pos 0)).0 - 1) * unsigned_abs s) 65536
      → list_all (is_between n high) (offsets_from start (tail_of dims)) ≡ list_all (is_between low high) (offsets_from start dims)
  lie_down l h n e =
      let k = (get_or dims 0 (0, pos 0)).0 - 1 in
      ap (λ a. list_all (is_between a high) (offsets_from start (tail_of dims))) e ∙ capped (low + k * unsigned_abs s) high h (offsets_from start (tail_of dims))
      ∙ steps_down low high k s (offsets_from start (tail_of dims)) l ∙ ap (list_all (is_between low high)) rows_are

  pub lie_up : int_lt s (pos 0) ≡ false → (n : ℕ) → n ≡ high - ((get_or dims 0 (0, pos 0)).0 - 1) * unsigned_abs s
      → list_all (is_between low n) (offsets_from start (tail_of dims)) ≡ list_all (is_between low high) (offsets_from start dims)
  lie_up l n e =
      ap (λ a. list_all (is_between low a) (offsets_from start (tail_of dims))) e
      ∙ steps_up low high ((get_or dims 0 (0, pos 0)).0 - 1) s (offsets_from start (tail_of dims)) l ∙ ap (list_all (is_between low high)) rows_are
