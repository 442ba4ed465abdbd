-- Lists with one more entry at the end.
use Rattle.std.proofs.Common.{◌≡◌, ℕ, ◌<◌, ◌≤◌, List, [], ◌∷◌, ◌++◌, ◌⊎◌, inl, inr, refl, ap, subst, arith}
use Rattle.trace_theory.specs.Entries.{Each, last_or, Above, Rises}

module _ {E : Type 0} where
  -- x is the entry that came last
  pub record AtEnd (xs g g' : List E) (e x : E) : Type 0 where
    pub all : g ≡ xs
    pub last : x ≡ e

  -- x was there before
  pub record Before (xs g g' : List E) (e x : E) : Type 0 where
    pub rest : List E
    pub split : xs ≡ g ++ x ∷ rest

  -- the same in a longer list
  cons_split : (y : E) (xs g g' : List E) (e x : E) → AtEnd xs g g' e x ⊎ Before xs g g' e x → AtEnd (y ∷ xs) (y ∷ g) g' e x ⊎ Before (y ∷ xs) (y ∷ g) g' e x
  -- the same in a longer list
  cons_split y xs g g' e x (inl a) = inl (record { all = ap (λ zs. y ∷ zs) a.all; last = a.last })
  -- the same in a longer list
  cons_split y xs g g' e x (inr b) = inr (record { rest = b.rest; split = ap (λ zs. y ∷ zs) b.split })

  -- where an entry stands in a list with one more at its end
  pub split_last : (xs g g' : List E) (e x : E) → xs ++ e ∷ [] ≡ g ++ x ∷ g' → AtEnd xs g g' e x ⊎ Before xs g g' e x
  split_last [] [] g' e x h = inl (record { all = refl; last = cc })
  split_last [] (z ∷ []) g' e x h = absurd (cc)
  split_last [] (z ∷ y ∷ g) g' e x h = absurd (cc)
  split_last (y ∷ xs) [] g' e x h = inr (record { rest = xs; split = (let k : y ≡ x = cc in ap (λ z. z ∷ xs) k) })
  split_last (y ∷ xs) (z ∷ g) g' e x h =
      let k : y ≡ z = cc in
      let t : xs ++ e ∷ [] ≡ g ++ x ∷ g' = cc in
      subst (λ w. AtEnd (y ∷ xs) (w ∷ g) g' e x ⊎ Before (y ∷ xs) (w ∷ g) g' e x) k (cons_split y xs g g' e x (split_last xs g g' e x t))

  -- what is true of each is true of one inside
  pub each_at : (P : E → Type 0) (g g' : List E) (x : E) → Each P (g ++ x ∷ g') → P x
  each_at P [] g' x h = h.0
  each_at P (y ∷ g) g' x h = each_at P g g' x h.1

  -- and of one more
  pub each_last : (P : E → Type 0) (xs : List E) (e : E) → Each P xs → P e → Each P (xs ++ e ∷ [])
  each_last P [] e h p = (p, tt)
  each_last P (x ∷ xs) e h p = (h.0, each_last P xs e h.1 p)

  -- no stamp that is bounded so is above the last
  above_last : (stamp : E → ℕ) (n : ℕ) (xs : List E) → Above stamp n xs → Rises stamp xs → n ≤ last_or stamp n xs
  above_last stamp n [] h up = omega arith
  above_last stamp n (x ∷ xs) h up = let k = above_last stamp (stamp x) xs up.0 up.1 in omega arith

  -- no stamp of a list is above its last
  pub at_most_last : (stamp : E → ℕ) (n : ℕ) (g g' : List E) (x : E) → Rises stamp (g ++ x ∷ g') → stamp x ≤ last_or stamp n (g ++ x ∷ g')
  at_most_last stamp n [] g' x up = above_last stamp (stamp x) g' up.0 up.1
  at_most_last stamp n (y ∷ g) g' x up = at_most_last stamp (stamp y) g g' x up.1

  -- a greater stamp at the end keeps the bound
  above_more : (stamp : E → ℕ) (n m : ℕ) (xs : List E) (e : E) → Above stamp n xs → n < stamp e → Above stamp n (xs ++ e ∷ [])
  -- a greater stamp at the end keeps the bound
  above_more stamp n m [] e h k = (k, tt)
  -- a greater stamp at the end keeps the bound
  above_more stamp n m (x ∷ xs) e h k = (h.0, above_more stamp n m xs e h.1 k)

  -- a greater stamp at the end keeps the rise
  pub rises_more : (stamp : E → ℕ) (n : ℕ) (xs : List E) (e : E) → Rises stamp xs → last_or stamp n xs < stamp e → Rises stamp (xs ++ e ∷ [])
  rises_more stamp n [] e up h = (tt, tt)
  rises_more stamp n (x ∷ xs) e up h =
      let k = above_last stamp (stamp x) xs up.0 up.1 in
      (above_more stamp (stamp x) n xs e up.0 (omega arith), rises_more stamp (stamp x) xs e up.1 h)
