-- The numbers of the coarrays among the variables rise.
use Rattle.std.proofs.Common.{◌≡◌, ℕ, zero, suc, ◌+◌, ◌<◌, ◌≤◌, Bool, true, false, cond, List, [], ◌∷◌, length, refl, ap, subst, arith}
use Rattle.std.specs.Prelude.{nat_eq, Some, slice_get}
use Rattle.rule_definitions.specs.Names.{Symbol}
use Rattle.rule_definitions.specs.Units.{coarray_numbers}
use Rattle.trace_names.proofs.Lists.{some_same, none_some}

-- each is greater than those before it, from this one on and below that one
abbrev pub Rise : ℕ → ℕ → List ℕ → Type 0
Rise least end [] = Unit {0}
Rise least end (k ∷ ks) = (least ≤ k) × (k < end) × Rise (k + 1) end ks

rise_from : (a b end : ℕ) (ks : List ℕ) → a ≤ b → Rise b end ks → Rise a end ks
rise_from a b end [] h r = tt
rise_from a b end (k ∷ ks) h r = (let low = r.0 in omega arith, r.1, r.2)

pub numbers_rise : (n : ℕ) (xs : List Symbol) → Rise n (n + length xs) (coarray_numbers n xs)
numbers_rise n [] = tt
numbers_rise n (x ∷ xs) = by_rank (nat_eq x.corank 0) (subst (λ k. Rise (n + 1) k (coarray_numbers (n + 1) xs)) (omega arith) (numbers_rise (n + 1) xs))
  where
    by_rank : (b : Bool) → Rise (n + 1) (n + suc (length xs)) (coarray_numbers (n + 1) xs)
        → Rise n (n + suc (length xs)) (cond b (coarray_numbers (n + 1) xs) (n ∷ coarray_numbers (n + 1) xs))
    by_rank true h = rise_from n (n + 1) (n + suc (length xs)) (coarray_numbers (n + 1) xs) (omega arith) h
    by_rank false h = (omega arith, omega arith, h)

-- so each is at least the first and below the end
pub rise_within : (least end : ℕ) (ks : List ℕ) (i k : ℕ) → Rise least end ks → slice_get ks i ≡ Some k → (least ≤ k) × (k < end)
rise_within least end [] i k r e = none_some k e
rise_within least end (j ∷ ks) zero k r e = let same = some_same j k e in let low = r.0 in let high = r.1 in (omega arith, omega arith)
rise_within least end (j ∷ ks) (suc i) k r e =
    let w = rise_within (j + 1) end ks i k r.2 e in
    let low = r.0 in
    let above = w.0 in
    (omega arith, w.1)

-- and stands at one place
pub rise_differ : (least end : ℕ) (ks : List ℕ) (i j k : ℕ) → Rise least end ks → slice_get ks i ≡ Some k → slice_get ks j ≡ Some k → i ≡ j
rise_differ least end [] i j k r e f = none_some k e
rise_differ least end (m ∷ ks) zero zero k r e f = refl
rise_differ least end (m ∷ ks) zero (suc j) k r e f =
    let w = (rise_within (m + 1) end ks j k r.2 f).0 in
    let same = some_same m k e in
    absurd (omega arith)
rise_differ least end (m ∷ ks) (suc i) zero k r e f =
    let w = (rise_within (m + 1) end ks i k r.2 e).0 in
    let same = some_same m k f in
    absurd (omega arith)
rise_differ least end (m ∷ ks) (suc i) (suc j) k r e f = ap suc (rise_differ (m + 1) end ks i j k r.2 e f)
