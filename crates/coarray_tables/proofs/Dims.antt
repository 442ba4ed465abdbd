-- The dimensions of spans, and of places that aren't there.
use Rattle.std.proofs.Common.{◌≡◌, ◌∙◌, ℕ, zero, suc, ◌+◌, ◌*◌, ◌<◌, ◌≤◌, ℤ, pos, negsuc, ◌≤ℤ◌, ◌<ℤ◌, Bool, true, false, cond, List, [], ◌∷◌, ◌++◌, map, length, refl, ap, arith}
use Rattle.std.specs.Prelude.{nat_lt, filter}
use Rattle.std.proofs.lemmas.Bool.Decides.{nat_tests}
use Rattle.std.proofs.lemmas.Int.{ints}
use Rattle.image_acts.specs.Words.{word, short}
use Rattle.image_acts.specs.Places.{dims_in, dims_numbers, no_dims, no_place, place_numbers}
use Rattle.coarray_tables.specs.Asks.{span_dims}

kept_by : (b : Bool) (n : ℕ) (s : ℤ) (rest : List ℤ) → b ≡ true
    → map (λ (d : ℕ × ℤ). (word (pos d.0), short d.1)) (cond b ((n, s) ∷ filter (λ d. nat_lt 1 d.0) (dims_in rest)) (filter (λ d. nat_lt 1 d.0) (dims_in rest))) ≡ (word (pos n), short s) ∷ span_dims rest
kept_by true n s rest e = refl
kept_by false n s rest e = absurd (cc)

dropped_by : (b : Bool) (n : ℕ) (s : ℤ) (rest : List ℤ) → b ≡ false
    → map (λ (d : ℕ × ℤ). (word (pos d.0), short d.1)) (cond b ((n, s) ∷ filter (λ d. nat_lt 1 d.0) (dims_in rest)) (filter (λ d. nat_lt 1 d.0) (dims_in rest))) ≡ span_dims rest
dropped_by true n s rest e = absurd (cc)
dropped_by false n s rest e = refl

pub dims_kept : (v s : ℤ) (rest : List ℤ) → pos 1 <ℤ v → span_dims (v ∷ s ∷ rest) ≡ (word v, short s) ∷ span_dims rest
dims_kept (pos n) s rest h =
    let l : 1 < n = omega (arith, ints) in
    let e : nat_lt 1 n ≡ true = grind (arith, nat_tests) in
    kept_by (nat_lt 1 n) n s rest e
dims_kept (negsuc n) s rest h = absurd (omega (arith, ints))

pub dims_dropped : (v s : ℤ) (rest : List ℤ) → v ≤ℤ pos 1 → span_dims (v ∷ s ∷ rest) ≡ span_dims rest
dims_dropped (pos n) s rest h =
    let l : n ≤ 1 = omega (arith, ints) in
    let e : nat_lt 1 n ≡ false = grind (arith, nat_tests) in
    dropped_by (nat_lt 1 n) n s rest e
dims_dropped (negsuc n) s rest h = dropped_by (nat_lt 1 0) 0 s rest refl

-- one dimension more
dims_more : (n : ℕ) → dims_numbers (no_dims (n + 1)) ≡ dims_numbers (no_dims n) ++ pos 1 ∷ pos 0 ∷ []
dims_more zero = refl
dims_more (suc n) = let e : suc n + 1 ≡ suc (n + 1) = omega arith in ap (λ (k : ℕ). dims_numbers (no_dims k)) e ∙ ap (λ (vs : List ℤ). pos 1 ∷ pos 0 ∷ vs) (dims_more n)

pub no_place_more : (n : ℕ) → place_numbers (no_place (n + 1)) ≡ place_numbers (no_place n) ++ pos 1 ∷ pos 0 ∷ []
no_place_more n = ap (λ (vs : List ℤ). pos 0 ∷ vs) (dims_more n)

pub no_place_length : (n : ℕ) → length (place_numbers (no_place n)) ≡ 1 + 2 * n
no_place_length zero = refl
no_place_length (suc n) = let h : length (place_numbers (no_place n)) ≡ 1 + 2 * n = no_place_length n in omega arith
