-- The entries of one key in a list.
use Rattle.std.proofs.Common.{◌≡◌, ℕ, Bool, true, false, nat_eq, cond, List, [], ◌∷◌, ◌++◌, inl, inr, refl, ap, ◌∙◌}
use Rattle.std.proofs.lemmas.List.{append-nil}
use Rattle.std.proofs.lemmas.Bool.{eq-eqb, cases_Bool}
use Rattle.std.proofs.lemmas.Bool.Decides.{eqb_tells}
use Rattle.std.specs.List.{filter}
use Rattle.trace_theory.specs.Entries.{of, Each}

-- what is behind the first entry, where both lists begin with one or neither does
pub cond_tails : {E : Type 0} (b : Bool) (x y : E) (xs ys : List E) → cond b (x ∷ xs) xs ≡ cond b (y ∷ ys) ys → xs ≡ ys
cond_tails true x y xs ys e = cc
cond_tails false x y xs ys e = e

module _ {E : Type 0} where
  -- the order of two filters does not matter
  pub filters_swap : (p q : E → Bool) (es : List E) → filter p (filter q es) ≡ filter q (filter p es)
  filters_swap p q [] = refl
  filters_swap p q (e ∷ es) =
      elim (cases_Bool (p e)) [
        | inl a ↦ elim (cases_Bool (q e)) [ inl b ↦ simp (a, b) (ap (λ xs. e ∷ xs) (filters_swap p q es)) | inr b ↦ simp (a, b) (filters_swap p q es) ]
        | inr a ↦ elim (cases_Bool (q e)) [ inl b ↦ simp (a, b) (filters_swap p q es) | inr b ↦ simp (a, b) (filters_swap p q es) ]
      ]

  -- what holds of each entry of a list holds of each that a filter keeps
  pub each_filter : (P : E → Type 0) (p : E → Bool) (xs : List E) → Each P xs → Each P (filter p xs)
  each_filter P p [] h = tt
  each_filter P p (x ∷ xs) h = elim (cases_Bool (p x)) [
    | inl t ↦ rw t (h.0, each_filter P p xs h.1)
    | inr f ↦ rw f (each_filter P p xs h.1)
  ]

  -- a filter goes over the parts of a list
  pub filter_append : (p : E → Bool) (xs ys : List E) → filter p (xs ++ ys) ≡ filter p xs ++ filter p ys
  filter_append p [] ys = refl
  filter_append p (x ∷ xs) ys =
      elim (cases_Bool (p x)) [
        | inl a ↦ simp a (ap (λ zs. x ∷ zs) (filter_append p xs ys))
        | inr a ↦ simp a (filter_append p xs ys)
      ]

  -- the first entry is one of its key
  pub of_first : (key : E → ℕ) (x : E) (xs : List E) → of key (key x) (x ∷ xs) ≡ x ∷ of key (key x) xs
  of_first key x xs = rw (eq-eqb (key x) (key x) refl)

  -- an entry inside a list is one of its key
  pub of_inside : (key : E → ℕ) (before after : List E) (e : E) → of key (key e) (before ++ e ∷ after) ≡ of key (key e) before ++ e ∷ of key (key e) after
  of_inside key before after e = filter_append (λ x. nat_eq (key x) (key e)) before (e ∷ after) ∙ ap (λ xs. of key (key e) before ++ xs) (of_first key e after)

  -- one more entry at the end, of this key
  pub of_last : (key : E → ℕ) (i : ℕ) (xs : List E) (e : E) → key e ≡ i → of key i (xs ++ e ∷ []) ≡ of key i xs ++ e ∷ []
  of_last key i xs e h = filter_append (λ x. nat_eq (key x) i) xs (e ∷ []) ∙ ap (λ b. of key i xs ++ cond b (e ∷ []) []) (eq-eqb (key e) i h)

  -- one more entry at the end, of another key
  pub of_other : (key : E → ℕ) (i : ℕ) (xs : List E) (e : E) → (key e ≡ i → ⊥) → of key i (xs ++ e ∷ []) ≡ of key i xs
  of_other key i xs e h =
      filter_append (λ x. nat_eq (key x) i) xs (e ∷ [])
      ∙ (elim (eqb_tells (key e) i) [ inl t ↦ absurd (h t.1) | inr f ↦ rw (f.0, append-nil) ])
