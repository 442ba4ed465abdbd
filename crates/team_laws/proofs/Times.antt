-- How often a number stands in a list.
use Rattle.std.proofs.Common.{◌≡◌, ℕ, zero, suc, ◌+◌, ◌≤◌, true, cond, List, [], ◌∷◌, ◌++◌, inl, inr, refl, arith}
use Rattle.std.specs.Prelude.{nat_eq}
use Rattle.std.specs.List.{list_all, range_with_len}
use Rattle.std.proofs.lemmas.Bool.{cases_Bool, and_from}
use Rattle.std.proofs.lemmas.Bool.Decides.{eqb_tells}
use Rattle.object_rules.specs.ImagePairs.{names}
use Rattle.object_rules.specs.BoardRules.{all_differ}

abbrev pub times : ℕ → List ℕ → ℕ
times m [] = 0
times m (x ∷ xs) = cond (nat_eq m x) 1 0 + times m xs

pub times_append : (m : ℕ) (xs ys : List ℕ) → times m (xs ++ ys) ≡ times m xs + times m ys
times_append m [] ys = omega arith
times_append m (x ∷ xs) ys = let r = times_append m xs ys in omega arith

-- what is named stands there, and the other way round
named_times : (m : ℕ) (xs : List ℕ) → names m xs ≡ true → 1 ≤ times m xs
named_times m [] h = absurd (cc)
named_times m (x ∷ xs) h = elim (cases_Bool (nat_eq m x)) [
  | inl t ↦ rw t (omega arith)
  | inr f ↦ (let r = named_times m xs (rw f at h) in rw f (omega arith))
]

times_named : (m : ℕ) (xs : List ℕ) → 1 ≤ times m xs → names m xs ≡ true
times_named m [] h = absurd (omega arith)
times_named m (x ∷ xs) h = elim (cases_Bool (nat_eq m x)) [
  | inl t ↦ rw t refl
  | inr f ↦ (let w : 1 ≤ 0 + times m xs = rw f at h in rw f (times_named m xs (omega arith)))
]

-- where none stands twice all differ
pub all_differ_by : (xs : List ℕ) → ((m : ℕ) → times m xs ≤ 1) → all_differ xs ≡ true
all_differ_by [] h = refl
all_differ_by (x ∷ xs) h = elim (cases_Bool (names x xs)) [
  | inl t ↦ (
      let one = named_times x xs t in
      let same = h x in
      absurd (elim (eqb_tells x x) [ inl y ↦ (let w : 1 + times x xs ≤ 1 = rw y.0 at same in omega arith) | inr f ↦ f.1 refl ]))
  | inr f ↦ rw f (all_differ_by xs (λ m. (let w = h m in omega arith)))
]

-- what stands no oftener than in another list stands in it
pub all_named_by : (xs ys : List ℕ) → ((m : ℕ) → times m xs ≤ times m ys) → list_all (λ m. names m ys) xs ≡ true
all_named_by xs ys h = inside xs (λ m one. times_named m ys (let w = h m in omega arith))
  where
    inside : (zs : List ℕ) → ((m : ℕ) → 1 ≤ times m zs → names m ys ≡ true) → list_all (λ m. names m ys) zs ≡ true
    inside [] k = refl
    inside (z ∷ zs) k =
        let here : 1 ≤ times z (z ∷ zs) = elim (eqb_tells z z) [ inl y ↦ rw y.0 (omega arith) | inr f ↦ absurd (f.1 refl) ] in
        and_from (names z ys) (list_all (λ m. names m ys) zs) (k z here) (inside zs (λ m one. k m (omega arith)))

-- numbers in a row stand there once
none_below : (m a n : ℕ) → suc m ≤ a → times m (range_with_len a n) ≡ 0
none_below m a zero h = refl
none_below m a (suc n) h = elim (eqb_tells m a) [
  | inl y ↦ (let e = y.1 in absurd (omega arith))
  | inr f ↦ (let r = none_below m (a + 1) n (omega arith) in rw f.0 (omega arith))
]

pub range_once : (m a n : ℕ) → times m (range_with_len a n) ≤ 1
range_once m a zero = omega arith
range_once m a (suc n) = elim (eqb_tells m a) [
  | inl y ↦ (let e = y.1 in let r = none_below m (a + 1) n (omega arith) in rw y.0 (omega arith))
  | inr f ↦ (let r = range_once m (a + 1) n in rw f.0 (omega arith))
]
