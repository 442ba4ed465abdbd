-- Texts that are names, one after the other.
use Rattle.std.proofs.Common.{◌≡◌, ℕ, zero, suc, ◌+◌, ◌<◌, ◌≤◌, List, [], ◌∷◌, inl, inr, length, refl, ap, sym, ◌∙◌, subst, arith}
use Rattle.std.specs.Prelude.{Some, slice_get, take}
use Rattle.std.proofs.lemmas.Bool.{cases_lt, cases_order}
use Rattle.std.proofs.lemmas.Option.{slice_get_within}
use Rattle.trace_theory.specs.Entries.{Each}
use Rattle.trace_forms.specs.Names.{IsName, AreNames}

-- the first so many are names, each of them other than those before it
pub record AreNamesTo (count : ℕ) (texts : List (List ℕ)) : Type 0 where
  pub each : (k : ℕ) (x : List ℕ) → k < count → slice_get texts k ≡ Some x → IsName x
  pub new : (j k : ℕ) (x : List ℕ) → j < k → k < count → slice_get texts j ≡ Some x → slice_get texts k ≡ Some x → ⊥

-- one more
pub one_name_more : (count : ℕ) (texts : List (List ℕ)) (x : List ℕ) → slice_get texts count ≡ Some x → IsName x → ((j : ℕ) → slice_get (take count texts) j ≡ Some x → ⊥) → AreNamesTo count texts → AreNamesTo (count + 1) texts
one_name_more count texts x at name new so_far = record {
  each = λ k y low there. elim (cases_lt k count) [
    | inl l ↦ so_far.each k y l there
    | inr g ↦ (
        let e : k ≡ count = omega arith in
        let same : Some x ≡ Some y = sym at ∙ subst (λ j. slice_get texts j ≡ Some y) e there in
        let is : x ≡ y = cc in
        subst IsName is name)
  ];
  new = λ j k y less low here there. elim (cases_lt k count) [
    | inl l ↦ so_far.new j k y less l here there
    | inr g ↦ (
        let e : k ≡ count = omega arith in
        let same : Some x ≡ Some y = sym at ∙ subst (λ i. slice_get texts i ≡ Some y) e there in
        let is : y ≡ x = cc in
        new j (in_front texts count j (omega arith) ∙ here ∙ ap Some is))
  ];
}
  where
    in_front : (xs : List (List ℕ)) (n i : ℕ) → i < n → slice_get (take n xs) i ≡ slice_get xs i
    in_front xs zero i l = absurd (omega arith)
    in_front [] (suc n) i l = refl
    in_front (y ∷ xs) (suc n) zero l = refl
    in_front (y ∷ xs) (suc n) (suc i) l = in_front xs n i (omega arith)

-- all of them
pub all_names : (count : ℕ) (texts : List (List ℕ)) → length texts ≤ count → AreNamesTo count texts → AreNames texts
all_names count texts long so_far = record {
  differ = λ j k x here there. (
      let a = slice_get_within texts j x here in
      let c = slice_get_within texts k x there in
      elim (cases_order j k) [
        | inl same ↦ same
        | inr (inl less) ↦ absurd (so_far.new j k x less (omega arith) here there)
        | inr (inr more) ↦ absurd (so_far.new k j x more (omega arith) there here)
      ]);
  each = each_from texts (λ k x there. so_far.each k x (let w = slice_get_within texts k x there in omega arith) there);
}
  where
    each_from : (xs : List (List ℕ)) → ((k : ℕ) (x : List ℕ) → slice_get xs k ≡ Some x → IsName x) → Each IsName xs
    each_from [] each = tt
    each_from (x ∷ xs) each = (each 0 x refl, each_from xs (λ k y there. each (suc k) y there))

-- each of names that differ is a name, and none of those before it
pub name_there : (texts : List (List ℕ)) (k : ℕ) (x : List ℕ) → slice_get texts k ≡ Some x → AreNames texts → IsName x
name_there texts k x there are = at texts k are.each there
  where
    at : (xs : List (List ℕ)) (j : ℕ) → Each IsName xs → slice_get xs j ≡ Some x → IsName x
    at [] j each here = absurd (cc)
    at (y ∷ xs) zero each here = (let is : y ≡ x = cc in subst IsName is each.0)
    at (y ∷ xs) (suc j) each here = at xs j each.1 here

pub new_there : (texts : List (List ℕ)) (count : ℕ) (x : List ℕ) → slice_get texts count ≡ Some x → AreNames texts → (j : ℕ) → slice_get (take count texts) j ≡ Some x → ⊥
new_there texts count x there are j here =
    let w = in_all texts count j here in
    let same = are.differ j count x w.1 there in
    let less = w.0 in
    omega arith
  where
    in_all : (xs : List (List ℕ)) (n i : ℕ) → slice_get (take n xs) i ≡ Some x → (i < n) × (slice_get xs i ≡ Some x)
    in_all xs zero i e = absurd (cc)
    in_all [] (suc n) i e = absurd (cc)
    in_all (y ∷ xs) (suc n) zero e = (omega arith, e)
    in_all (y ∷ xs) (suc n) (suc i) e = (let w = in_all xs n i e in let l = w.0 in (omega arith, w.1))
