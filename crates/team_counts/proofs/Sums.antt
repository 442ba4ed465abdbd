-- Sums over the numbers up to one, and over lists.
use Rattle.std.proofs.Common.{◌≡◌, ℕ, zero, suc, ◌+◌, ◌≤◌, ◌<◌, true, cond, List, [], ◌∷◌, inl, inr, refl, sym, subst, arith}
use Rattle.std.specs.Prelude.{nat_eq, nat_le, ◌&&◌}
use Rattle.std.proofs.lemmas.Bool.{cases_Bool, leb-true, le-leb}
use Rattle.std.proofs.lemmas.Bool.Decides.{eqb_tells}

-- over 0 to k, and over a list
abbrev pub sum_to : (ℕ → ℕ) → ℕ → ℕ
sum_to f zero = f 0
sum_to f (suc k) = sum_to f k + f (suc k)

abbrev pub sum_of : (ℕ → ℕ) → List ℕ → ℕ
sum_of f [] = 0
sum_of f (x ∷ xs) = f x + sum_of f xs

pub to_both : (f g : ℕ → ℕ) (k : ℕ) → sum_to (λ i. f i + g i) k ≡ sum_to f k + sum_to g k
to_both f g zero = refl
to_both f g (suc k) = let r = to_both f g k in omega arith

pub of_both : (f g : ℕ → ℕ) (xs : List ℕ) → sum_of (λ i. f i + g i) xs ≡ sum_of f xs + sum_of g xs
of_both f g [] = refl
of_both f g (x ∷ xs) = let r = of_both f g xs in omega arith

pub to_le : (f g : ℕ → ℕ) (k : ℕ) → ((i : ℕ) → f i ≤ g i) → sum_to f k ≤ sum_to g k
to_le f g zero h = h 0
to_le f g (suc k) h = let r = to_le f g k h in let s = h (suc k) in omega arith

pub of_le : (f g : ℕ → ℕ) (xs : List ℕ) → ((i : ℕ) → f i ≤ g i) → sum_of f xs ≤ sum_of g xs
of_le f g [] h = omega arith
of_le f g (x ∷ xs) h = let r = of_le f g xs h in let s = h x in omega arith

pub to_none : (k : ℕ) → sum_to (λ i. 0) k ≡ 0
to_none zero = refl
to_none (suc k) = let r = to_none k in omega arith

pub of_none : (xs : List ℕ) → sum_of (λ i. 0) xs ≡ 0
of_none [] = refl
of_none (x ∷ xs) = let r = of_none xs in omega arith

-- a sum of sums, in the other order
pub swapped : (f : ℕ → ℕ → ℕ) (k : ℕ) (xs : List ℕ) → sum_to (λ i. sum_of (f i) xs) k ≡ sum_of (λ x. sum_to (λ i. f i x) k) xs
swapped f k [] = to_none k
swapped f k (x ∷ xs) = let r = swapped f k xs in let b = to_both (λ i. f i x) (λ i. sum_of (f i) xs) k in omega arith

-- one of the numbers
pub one_to : (f : ℕ → ℕ) (k i : ℕ) → i ≤ k → f i ≤ sum_to f k
one_to f zero i h = (let e : 0 ≡ i = omega arith in subst (λ j. f j ≤ f 0) e (omega arith))
one_to f (suc k) i h = elim (eqb_tells i (suc k)) [
  | inl y ↦ subst (λ j. f j ≤ sum_to f (suc k)) (sym y.1) (omega arith)
  | inr n ↦ (let ne = n.1 in let low : i ≤ k = below i k h ne in let r = one_to f k i low in omega arith)
]
  where
    below : (i k : ℕ) → i ≤ suc k → (i ≡ suc k → ⊥) → i ≤ k
    below i k h ne = omega arith

-- how many numbers from 1 on are a at most
abbrev pub is_within : ℕ → ℕ → ℕ
is_within a r = cond (nat_le 1 r && nat_le r a) 1 0

within_both : (a k : ℕ) → (sum_to (is_within a) k ≤ a) × (sum_to (is_within a) k ≤ k)
within_both a zero = (omega arith, omega arith)
within_both a (suc k) =
    let r = within_both a k in
    let p = r.0 in
    let q = r.1 in
    let one : nat_le 1 (suc k) ≡ true = le-leb 1 (suc k) (omega arith) in
    elim (cases_Bool (nat_le (suc k) a)) [
      | inl t ↦ (let l = leb-true (suc k) a t in rw (one, t) (omega arith, omega arith))
      | inr f ↦ rw (one, f) (omega arith, omega arith)
    ]

pub within : (a k : ℕ) → sum_to (is_within a) k ≤ a
within a k = (within_both a k).0

-- a number is one of them at most once
abbrev pub is_next : ℕ → ℕ → ℕ
is_next t i = cond (nat_eq t (suc i)) 1 0

next_none : (t k : ℕ) → suc k < t → sum_to (is_next t) k ≡ 0
next_none t zero h = elim (eqb_tells t 1) [ inl y ↦ (let e = y.1 in absurd (omega arith)) | inr n ↦ rw n.0 refl ]
next_none t (suc k) h = let r = next_none t k (omega arith) in elim
    (eqb_tells t (suc (suc k))) [ inl y ↦ (let e = y.1 in absurd (omega arith)) | inr n ↦ rw n.0 (omega arith) ]

pub next_once : (t k : ℕ) → sum_to (is_next t) k ≤ 1
next_once t zero = elim (cases_Bool (nat_eq t 1)) [ inl y ↦ rw y (omega arith) | inr n ↦ rw n (omega arith) ]
next_once t (suc k) = elim (eqb_tells t (suc (suc k))) [
  | inl y ↦ (let e = y.1 in let r = next_none t k (omega arith) in rw y.0 (omega arith))
  | inr n ↦ (let r = next_once t k in rw n.0 (omega arith))
]
