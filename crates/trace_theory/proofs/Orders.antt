-- An order of entries is told by each image's entries and by the stamps.
use Rattle.std.proofs.Common.{◌≡◌, ℕ, ◌<◌, ◌≤◌, Bool, false, nat_eq, cond, List, [], ◌∷◌, ◌⊎◌, inl, inr, refl, ap, sym, ◌∙◌, subst, arith}
use Rattle.std.proofs.lemmas.Bool.{cases_Bool}
use Rattle.std.proofs.lemmas.Bool.Decides.{eqb_tells}
use Rattle.std.specs.List.{filter}
use Rattle.trace_theory.specs.Entries.{of, Above, Rises, NoneBelow, NeverFalls, Earlier, AllLater, IsTraceOrder}
use Rattle.trace_theory.proofs.Filters.{cond_tails, of_first}

one_way : (a b m n : ℕ) → (a < b) ⊎ ((a ≡ b) × (m < n)) → (b < a) ⊎ ((b ≡ a) × (n < m)) → ⊥
one_way a b m n (inl x) (inl y) = omega arith
one_way a b m n (inl x) (inr y) = let z = y.0 in omega arith
one_way a b m n (inr x) (inl y) = let z = x.0 in omega arith
one_way a b m n (inr x) (inr y) = let z = x.1 in let w = y.1 in omega arith

module _ (E : Type 0) (image stamp : E → ℕ) where
  -- what is first of its image in a list is in the list, so its stamp is bounded as all are
  bound_first : (n i : ℕ) (x : E) (xs ys : List E) → NoneBelow stamp n ys → of image i ys ≡ x ∷ xs → n ≤ stamp x
  bound_first n i x xs [] none e = absurd (cc)
  bound_first n i x xs (y ∷ ys) none e =
      elim (eqb_tells (image y) i) [
        | inl t ↦ (let h = rw t.0 at e in let s : y ≡ x = cc in subst (λ z. n ≤ stamp z) s none.0)
        | inr f ↦ bound_first n i x xs ys none.1 (rw f.0 at e)
      ]

  above_first : (n i : ℕ) (x : E) (xs ys : List E) → Above stamp n ys → of image i ys ≡ x ∷ xs → n < stamp x
  above_first n i x xs [] none e = absurd (cc)
  above_first n i x xs (y ∷ ys) none e =
      elim (eqb_tells (image y) i) [
        | inl t ↦ (let h = rw t.0 at e in let s : y ≡ x = cc in subst (λ z. n < stamp z) s none.0)
        | inr f ↦ above_first n i x xs ys none.1 (rw f.0 at e)
      ]

  later_first : (e x : E) (i : ℕ) (xs ys : List E) → AllLater image stamp e ys → of image i ys ≡ x ∷ xs → Earlier image stamp e x
  later_first e x i xs [] all h = absurd (cc)
  later_first e x i xs (y ∷ ys) all h =
      elim (eqb_tells (image y) i) [
        | inl t ↦ (let k = rw t.0 at h in let s : y ≡ x = cc in subst (λ z. Earlier image stamp e z) s all.0)
        | inr f ↦ later_first e x i xs ys all.1 (rw f.0 at h)
      ]

  pub same_order : (xs ys : List E) → Rises stamp xs → NeverFalls stamp ys → ((i : ℕ) → of image i xs ≡ of image i ys) → xs ≡ ys
  same_order [] [] up weak same = refl
  same_order [] (y ∷ ys) up weak same = absurd (let h = same (image y) ∙ of_first image y ys in cc)
  same_order (x ∷ xs) [] up weak same = absurd (let h = sym (same (image x)) ∙ of_first image x xs in cc)
  same_order (x ∷ xs) (y ∷ ys) up weak same =
      elim (eqb_tells (image y) (image x)) [
        | inl t ↦ (
            let h = sym (of_first image x xs) ∙ same (image x) in
            let g = rw t.0 at h in
            let heads : x ≡ y = cc in
            let tails : (i : ℕ) → of image i xs ≡ of image i ys =
            λ i. cond_tails (nat_eq (image x) i) x y (of image i xs) (of image i ys) (same i ∙ ap (λ k. cond (nat_eq k i) (y ∷ of image i ys) (of image i ys)) t.1) in
            ap (λ z. z ∷ xs) heads ∙ ap (λ zs. y ∷ zs) (same_order xs ys up.1 weak.1 tails))
        | inr f ↦ (
            let h = sym (of_first image x xs) ∙ same (image x) in
            let x_later = bound_first (stamp y) (image x) x (of image (image x) xs) ys weak.0 (sym (rw f.0 at h)) in
            let g = same (image y) ∙ of_first image y ys in
            let other : nat_eq (image x) (image y) ≡ false = elim (eqb_tells (image x) (image y)) [ inl t ↦ absurd (f.1 (sym t.1)) | inr t ↦ t.0 ] in
            let y_later = above_first (stamp x) (image y) y (of image (image y) ys) xs up.0 (rw other at g) in
            absurd (omega arith))
      ]

  pub one_trace : (xs ys : List E) → IsTraceOrder image stamp xs → IsTraceOrder image stamp ys → ((i : ℕ) → of image i xs ≡ of image i ys) → xs ≡ ys
  one_trace [] [] up down same = refl
  one_trace [] (y ∷ ys) up down same = absurd (let h = same (image y) ∙ of_first image y ys in cc)
  one_trace (x ∷ xs) [] up down same = absurd (let h = sym (same (image x)) ∙ of_first image x xs in cc)
  one_trace (x ∷ xs) (y ∷ ys) up down same =
      elim (eqb_tells (image y) (image x)) [
        | inl t ↦ (
            let h = sym (of_first image x xs) ∙ same (image x) in
            let g = rw t.0 at h in
            let heads : x ≡ y = cc in
            let tails : (i : ℕ) → of image i xs ≡ of image i ys =
            λ i. cond_tails (nat_eq (image x) i) x y (of image i xs) (of image i ys) (same i ∙ ap (λ k. cond (nat_eq k i) (y ∷ of image i ys) (of image i ys)) t.1) in
            ap (λ z. z ∷ xs) heads ∙ ap (λ zs. y ∷ zs) (one_trace xs ys up.1 down.1 tails))
        | inr f ↦ (
            let h = sym (of_first image x xs) ∙ same (image x) in
            let x_later = later_first y x (image x) (of image (image x) xs) ys down.0 (sym (rw f.0 at h)) in
            let g = same (image y) ∙ of_first image y ys in
            let other : nat_eq (image x) (image y) ≡ false = elim (eqb_tells (image x) (image y)) [ inl t ↦ absurd (f.1 (sym t.1)) | inr t ↦ t.0 ] in
            let y_later = later_first x y (image y) (of image (image y) ys) xs up.0 (rw other at g) in
            absurd (one_way (stamp x) (stamp y) (image x) (image y) y_later x_later))
      ]

  later_above : (e : E) (es : List E) → AllLater image stamp e es → NoneBelow stamp (stamp e) es
  later_above e [] h = tt
  later_above e (f ∷ fs) h =
      ((elim (h.0) [ inl a ↦ omega arith | inr b ↦ (let k = b.0 in omega arith) ]), later_above e fs h.1)

  -- in the order of a trace no stamp falls
  pub never_falls : (es : List E) → IsTraceOrder image stamp es → NeverFalls stamp es
  never_falls [] h = tt
  never_falls (e ∷ es) h = (later_above e es h.0, never_falls es h.1)

  none_below_filter : (n : ℕ) (p : E → Bool) (es : List E) → NoneBelow stamp n es → NoneBelow stamp n (filter p es)
  none_below_filter n p [] h = tt
  none_below_filter n p (e ∷ es) h =
      elim (cases_Bool (p e)) [
        | inl a ↦ rw a (h.0, none_below_filter n p es h.1)
        | inr a ↦ rw a (none_below_filter n p es h.1)
      ]

  -- a part of a list in which no stamp falls is one too
  pub never_falls_filter : (p : E → Bool) (es : List E) → NeverFalls stamp es → NeverFalls stamp (filter p es)
  never_falls_filter p [] h = tt
  never_falls_filter p (e ∷ es) h =
      elim (cases_Bool (p e)) [
        | inl a ↦ rw a (none_below_filter (stamp e) p es h.0, never_falls_filter p es h.1)
        | inr a ↦ rw a (never_falls_filter p es h.1)
      ]
