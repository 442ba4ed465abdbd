-- Images that rise, and of which each passes a test, are those numbers that pass it, where each of these is among them.
use Rattle.std.proofs.Common.{◌≡◌, ℕ, zero, suc, ◌+◌, ◌<◌, ◌≤◌, Bool, true, false, List, [], ◌∷◌, ◌⊎◌, inl, inr, map, refl, ap, ◌∙◌, subst, arith}
use Rattle.std.specs.List.{filter, range_with_len}
use Rattle.std.proofs.lemmas.Bool.{cases_Bool, cases_eq, both_ways}
use Rattle.trace_theory.specs.Entries.{Each, Above, Rises}

module _ {W : Type 0} (key : W → ℕ) (test : ℕ → Bool) where
  -- it is the image of one of these
  abbrev pub IsKey : ℕ → List W → Type 0
  IsKey i [] = ⊥
  IsKey i (w ∷ ws) = (key w ≡ i) ⊎ IsKey i ws

  above_key : (k : ℕ) (ws : List W) (i : ℕ) → Above key k ws → IsKey i ws → k < i
  above_key k [] i a h = absurd h
  above_key k (w ∷ ws) i a (inl e) = let low = a.0 in omega arith
  above_key k (w ∷ ws) i a (inr h) = above_key k ws i a.1 h

  abbrev Within : ℕ → ℕ → ℕ → Type 0
  Within a m i = (a ≤ i) × (i < a + m)

  -- all of them are within the numbers behind the first one, where that is below each
  behind : (a m : ℕ) (k : ℕ) (ws : List W) → a ≤ k → Above key k ws → Each (λ w. Within a (suc m) (key w)) ws → Each (λ w. Within (a + 1) m (key w)) ws
  behind a m k [] le above each = tt
  behind a m k (w ∷ ws) le above each = (let low = above.0 in let high = each.0.1 in (omega arith, omega arith), behind a m k ws le above.1 each.1)

  others : (a m : ℕ) (ws : List W) → test a ≡ false → Each (λ w. test (key w) ≡ true) ws → Each (λ w. Within a (suc m) (key w)) ws → Each (λ w. Within (a + 1) m (key w)) ws
  others a m [] f passes each = tt
  others a m (w ∷ ws) f passes each = (
    elim (cases_eq (key w) a) [
      | inl e ↦ absurd (both_ways (test a) f (subst (λ z. test z ≡ true) e passes.0))
      | inr ne ↦ (let low = each.0.0 in let high = each.0.1 in (omega arith, omega arith))
    ],
    others a m ws f passes.1 each.1,
  )

  pub rising_is : (a m : ℕ) (ws : List W) → Rises key ws → Each (λ w. test (key w) ≡ true) ws → Each (λ w. Within a m (key w)) ws → ((i : ℕ) → a ≤ i → i < a + m → test i ≡ true → IsKey i ws)
      → map key ws ≡ filter test (range_with_len a m)
  rising_is a zero [] rises passes each all = refl
  rising_is a zero (w ∷ ws) rises passes each all = absurd (let low = each.0.0 in let high = each.0.1 in omega arith)
  rising_is a (suc m) [] rises passes each all = elim (cases_Bool (test a)) [
    | inl t ↦ absurd (all a (omega arith) (omega arith) t)
    | inr f ↦ rw f (rising_is (a + 1) m [] tt tt tt (λ i low high t. all i (omega arith) (omega arith) t))
  ]
  rising_is a (suc m) (w ∷ ws) rises passes each all = elim (cases_Bool (test a)) [
    | inl t ↦ (
        let first : key w ≡ a = at_first (all a (omega arith) (omega arith) t) in
        let rest = rising_is (a + 1) m ws rises.1 passes.1 (behind a m (key w) ws each.0.0 rises.0 each.1) (λ i low high u. further i first low (all i (omega arith) (omega arith) u)) in
        rw t (ap (λ z. z ∷ map key ws) first ∙ ap (λ zs. a ∷ zs) rest))
    | inr f ↦ rw f (rising_is (a + 1) m (w ∷ ws) rises passes (others a m (w ∷ ws) f passes each) (λ i low high u. all i (omega arith) (omega arith) u))
  ]
    where
      at_first : IsKey a (w ∷ ws) → key w ≡ a
      at_first (inl e) = e
      at_first (inr h) = let low = each.0.0 in let above = above_key (key w) ws a rises.0 h in omega arith

      further : (i : ℕ) → key w ≡ a → a + 1 ≤ i → IsKey i (w ∷ ws) → IsKey i ws
      further i first low (inl e) = absurd (omega arith)
      further i first low (inr h) = h
