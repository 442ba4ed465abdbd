-- From what each image's own list says: an image that paused or failed acts no more.
use Rattle.std.proofs.Common.{◌≡◌, ℕ, ◌<◌, ◌≤◌, Bool, true, false, nat_eq, cond, List, [], ◌∷◌, ◌++◌, length, inl, inr, refl, ap, sym, ◌∙◌, subst, arith, append_assoc, length-append}
use Rattle.std.proofs.lemmas.Bool.{eq-eqb, cases_lt, cases_Bool, both_ways}
use Rattle.std.proofs.lemmas.Bool.Decides.{eqb_tells}
use Rattle.std.specs.List.{filter}
use Rattle.order_theory.specs.Order.{Within, done, segment_of}
use Rattle.order_theory.specs.Acts.{View, entries, pausing, completing}
use Rattle.order_theory.specs.Facts.{own_list, NoneActs, Settles, OwnFacts, Pauses}
use Rattle.order_theory.proofs.Splits.{fronts_at, done_append}

module _ (E : Type 0) (v : View E) (acts : E → Bool) where
  -- a test picks from two lists put together what it picks from each
  filter_splits : (p : E → Bool) (xs ys : List E) → filter p (xs ++ ys) ≡ filter p xs ++ filter p ys
  filter_splits p [] ys = refl
  filter_splits p (x ∷ xs) ys =
      elim (cases_Bool (p x)) [
        | inl a ↦ simp a (ap (λ zs. x ∷ zs) (filter_splits p xs ys))
        | inr a ↦ simp a (filter_splits p xs ys)
      ]

  -- an image's list at one of its entries
  with_own : (i : ℕ) (k h : List E) (f : E) → v.image f ≡ i → own_list v i (k ++ f ∷ h) ≡ own_list v i k ++ f ∷ own_list v i h
  with_own i k h f e = filter_splits (λ x. nat_eq (v.image x) i) k (f ∷ h) ∙ ap (λ b. own_list v i k ++ cond b (f ∷ own_list v i h) (own_list v i h)) (eq-eqb (v.image f) i e)

  -- none of these entries acts, and so this one does not
  none_at : (k h : List E) (f : E) → NoneActs v acts (k ++ f ∷ h) → acts f ≡ false
  none_at [] h f n = n.0
  none_at (x ∷ k) h f n = none_at k h f n.1

  -- an image's completing entry counts
  counted : (i : ℕ) (k : List E) (y : E) (ys : List E) → own_list v i k ≡ y ∷ ys → completing (v.act y) ≡ true → 0 < done (entries v) i k
  counted i [] y ys e c = absurd (cc)
  counted i (x ∷ k) y ys e c =
      elim (eqb_tells (v.image x) i) [
        | inl t ↦ (
            let e' = rw t.0 at e in
            let same : x ≡ y = cc in
            let cx : completing (v.act x) ≡ true = subst (λ z. completing (v.act z) ≡ true) (sym same) c in
            rw (t.0, cx) (omega arith))
        | inr n ↦ (let l = counted i k y ys (rw n.0 at e) c in rw n.0 (omega arith))
      ]

  -- before an entry that acts, after a pause, a segment is completed
  settled_at : (i : ℕ) (k h : List E) (f : E) (l : List E) → own_list v i k ≡ l → acts f ≡ true → Settles v acts (l ++ f ∷ own_list v i h) → 0 < done (entries v) i k
  settled_at i k h f [] e act (inl s) = absurd (both_ways (acts f) s.1 act)
  settled_at i k h f [] e act (inr s) = absurd (both_ways (acts f) s.0 act)
  settled_at i k h f (y ∷ ys) e act (inl s) = counted i k y ys e s.0
  settled_at i k h f (y ∷ ys) e act (inr s) = absurd (both_ways (acts f) (none_at (y ∷ ys) (own_list v i h) f s) act)

  module _ (fails : E → Bool) (t : List E) (facts : OwnFacts v acts fails t) where
    -- an image that paused acts no more in that segment
    pauses : (g h g' h' : List E) (x f : E) → t ≡ g ++ x ∷ h → t ≡ g' ++ f ∷ h' → pausing (v.act x) ≡ true → acts f ≡ true → segment_of (entries v) g x ≡ segment_of (entries v) g' f → length g' ≤ length g
    pauses g h g' h' x f s s' p act same =
        elim (cases_lt (length g) (length g')) [
          | inr l ↦ l
          | inl l ↦ (
              let fr = fronts_at E g h g' (f ∷ h') x (sym s ∙ s') l in
              let k = fr.0 in
              let i = ap (λ z. z.image) same in
              let st = subst (Settles v acts) (ap (own_list v (v.image x)) fr.2 ∙ with_own (v.image x) k h' f (sym i)) (facts.settles g h x s p) in
              let c = settled_at (v.image x) k h' f (own_list v (v.image x) k) refl act st in
              let d = ap (done (entries v) (v.image x)) fr.1 ∙ done_append E (entries v) (v.image x) g (x ∷ k) in
              let n = ap (λ z. z.number) same in
              let m : done (entries v) (v.image f) g' ≡ done (entries v) (v.image x) g' = ap (λ z. done (entries v) z g') (sym i) in
              absurd (omega arith))
        ]

    -- and one that an entry speaks of acts no more at all
    silent : (g h g' h' : List E) (x f : E) → t ≡ g ++ x ∷ h → t ≡ g' ++ f ∷ h' → Within (v.image f) (v.speaks g x) → acts f ≡ true → length g' ≤ length g
    silent g h g' h' x f s s' w act =
        elim (cases_lt (length g) (length g')) [
          | inr l ↦ l
          | inl l ↦ (
              let z = facts.spoken_failed g h x (v.image f) s w in
              let split : t ≡ z.0 ++ z.1 ∷ (z.2 ++ x ∷ h) = s ∙ ap (λ y. y ++ x ∷ h) z.3 ∙ append_assoc z.0 (z.1 ∷ z.2) (x ∷ h) in
              let size = ap length z.3 ∙ length-append z.0 (z.1 ∷ z.2) in
              let fr = fronts_at E z.0 (z.2 ++ x ∷ h) g' (f ∷ h') z.1 (sym split ∙ s') (omega arith) in
              let q = subst (NoneActs v acts) (ap (own_list v (v.image z.1)) fr.2 ∙ with_own (v.image z.1) fr.0 h' f (sym z.4)) (facts.failed_quiet z.0 (z.2 ++ x ∷ h) z.1 split z.5) in
              absurd (both_ways (acts f) (none_at (own_list v (v.image z.1) fr.0) (own_list v (v.image z.1) h') f q) act))
        ]

    -- what each image's own list says suffices
    pub own_pauses : Pauses v (λ g e. acts e ≡ true) t
    own_pauses = record { pauses = pauses; silent = silent }
