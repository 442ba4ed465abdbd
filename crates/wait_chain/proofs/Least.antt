-- The least number for which a test holds, and numbers in a row.
use Rattle.std.proofs.Common.{◌≡◌, ℕ, zero, suc, ◌+◌, ◌<◌, ◌≤◌, Bool, true, false, [], ◌∷◌, ◌++◌, inl, inr, ap, sym, ◌∙◌, arith}
use Rattle.std.specs.Prelude.{Option, Some, None}
use Rattle.std.specs.List.{range_with_len}
use Rattle.std.proofs.lemmas.Bool.{cases_Bool, cases_eq, cases_lt, both_ways}
use Rattle.wait_chain.specs.Awaited.{IsLeast}

pub range_last : (a n j : ℕ) → a + n ≡ j → range_with_len a (suc n) ≡ range_with_len a n ++ j ∷ []
range_last a zero j h = let e : a ≡ j = omega arith in ap (λ z. z ∷ []) e
range_last a (suc n) j h = ap (λ z. a ∷ z) (range_last (a + 1) n j (omega arith))

-- tests that agree have the same one
pub least_same : (f g : ℕ → Bool) (n : ℕ) (o : Option ℕ) → ((k : ℕ) → f k ≡ g k) → IsLeast f n o → IsLeast g n o
least_same f g n None same h = λ k one. sym (same k) ∙ h k one
least_same f g n (Some j) same h = (h.0, sym (same j) ∙ h.1, λ k one t. h.2 k one (same k ∙ t))

-- up to one number more
least_more : (f : ℕ → Bool) (n : ℕ) (o : Option ℕ) → IsLeast f n o → (p : Option ℕ) × IsLeast f (suc n) p
least_more f n (Some j) h =
    let low = h.0.0 in
    let high = h.0.1 in
    (Some j, ((low, omega arith), h.1, λ k one t. (let a = one.0 in let b = one.1 in elim (cases_eq k (suc n)) [ inl e ↦ omega arith | inr ne ↦ h.2 k (a, omega arith) t ])))
least_more f n None h = elim (cases_Bool (f (suc n))) [
  | inl t ↦ (Some (suc n), ((omega arith, omega arith), t, λ k one u. (let a = one.0 in let b = one.1 in elim (cases_eq k (suc n)) [ inl e ↦ omega arith | inr ne ↦ absurd (both_ways (f k) (h k (a, omega arith)) u) ])))
  | inr off ↦ (None, λ k one. (let a = one.0 in let b = one.1 in elim (cases_eq k (suc n)) [ inl e ↦ ap f e ∙ off | inr ne ↦ h k (a, omega arith) ]))
]

-- each test has one, or none
pub least_of : (f : ℕ → Bool) (n : ℕ) → (o : Option ℕ) × IsLeast f n o
least_of f zero = (None, λ k one. (let a = one.0 in let b = one.1 in absurd (omega arith)))
least_of f (suc n) = let r = least_of f n in least_more f n r.0 r.1

-- a search from the first number on
pub first_least : (test : ℕ → Bool) (n m : ℕ) → m < n → ((k : ℕ) → 0 < k → k ≤ m → test k ≡ false) → test (m + 1) ≡ true → IsLeast test n (Some (m + 1))
first_least test n m lt before here =
    ((omega arith, omega arith), here, λ k one t. elim (cases_lt m k) [ inl after ↦ omega arith | inr le ↦ absurd (both_ways (test k) (before k one.0 le) t) ])

pub no_more : (test : ℕ → Bool) (m : ℕ) → ((k : ℕ) → 0 < k → k ≤ m → test k ≡ false) → test (m + 1) ≡ false → (k : ℕ) → 0 < k → k ≤ m + 1 → test k ≡ false
no_more test m before here k low le = elim (cases_eq k (m + 1)) [ inl e ↦ ap test e ∙ here | inr ne ↦ before k low (omega arith) ]

pub none_least : (test : ℕ → Bool) (n m : ℕ) → n ≤ m → ((k : ℕ) → 0 < k → k ≤ m → test k ≡ false) → IsLeast test n None
none_least test n m le before = λ k one. (let high = one.1 in before k one.0 (omega arith))
