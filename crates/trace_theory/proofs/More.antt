-- One more entry at the end of its image's list and of its object's history keeps the lists of one run.
use Rattle.std.proofs.Common.{◌≡◌, ℕ, suc, ◌<◌, ◌≤◌, max, List, [], ◌∷◌, ◌++◌, ◌⊎◌, inl, inr, refl, ap, sym, ◌∙◌, subst, arith}
use Rattle.std.proofs.lemmas.Bool.{cases_eq}
use Rattle.trace_theory.specs.Entries.{of, Each, last_or, Rises}
use Rattle.trace_theory.specs.Runs.{place_last, due, Woven, Adds}
use Rattle.trace_theory.proofs.Filters.{of_last, of_other}
use Rattle.trace_theory.proofs.Snocs.{AtEnd, Before, split_last, each_at, each_last, at_most_last, rises_more}

module _ (E : Type 0) where
  module _ (image place stamp : E → ℕ) (own : E → ℕ → ℕ) (events histories events' histories' : ℕ → List E) (e : E) (w : Woven image place stamp own events histories) (m : Adds image place stamp own events histories events' histories' e) where
    more_at : (i : ℕ) → image e ≡ i → events' i ≡ events i ++ e ∷ []
    more_at i p = subst (λ k. events' k ≡ events k ++ e ∷ []) p m.image_more

    object_above : (o : ℕ) → place e ≡ suc o → last_or stamp 0 (histories (suc o)) < stamp e
    object_above o p = let s = subst (λ k. stamp e ≡ due own k e (last_or stamp 0 (events (image e))) (place_last stamp k (histories k))) p m.stamped in omega arith

    image_above : last_or stamp 0 (events (image e)) < stamp e
    image_above = m.above

    new_mine : (i : ℕ) → Each (λ x. image x ≡ i) (events' i)
    new_mine i = elim (cases_eq (image e) i) [
      | inl p ↦ subst (λ k. Each (λ x. image x ≡ k) (events' k)) p (rw m.image_more (each_last (λ x. image x ≡ image e) (events (image e)) e (w.mine (image e)) refl))
      | inr n ↦ rw (m.image_same i n) (w.mine i)
    ]

    new_there : (o : ℕ) → Each (λ x. place x ≡ suc o) (histories' (suc o))
    new_there o = elim (cases_eq (place e) (suc o)) [
      | inl p ↦ rw (m.object_more o p) (each_last (λ x. place x ≡ suc o) (histories (suc o)) e (w.there o) p)
      | inr n ↦ rw (m.object_same o n) (w.there o)
    ]

    new_image_rises : (i : ℕ) → Rises stamp (events' i)
    new_image_rises i = elim (cases_eq (image e) i) [
      | inl p ↦ subst (λ k. Rises stamp (events' k)) p (rw m.image_more (rises_more stamp 0 (events (image e)) e (w.image_rises (image e)) image_above))
      | inr n ↦ rw (m.image_same i n) (w.image_rises i)
    ]

    new_object_rises : (o : ℕ) → Rises stamp (histories' (suc o))
    new_object_rises o = elim (cases_eq (place e) (suc o)) [
      | inl p ↦ rw (m.object_more o p) (rises_more stamp 0 (histories (suc o)) e (w.object_rises o) (object_above o p))
      | inr n ↦ rw (m.object_same o n) (w.object_rises o)
    ]

    new_agree : (i o : ℕ) → of image i (histories' (suc o)) ≡ of place (suc o) (events' i)
    new_agree i o = elim (cases_eq (image e) i) [
      | inl p ↦ elim (cases_eq (place e) (suc o)) [
        | inl q ↦ ap (of image i) (m.object_more o q) ∙ of_last image i (histories (suc o)) e p ∙ ap (λ zs. zs ++ e ∷ []) (w.agree i o) ∙ sym (ap (of place (suc o)) (more_at i p) ∙ of_last place (suc o) (events i) e q)
        | inr n ↦ ap (of image i) (m.object_same o n) ∙ w.agree i o ∙ sym (ap (of place (suc o)) (more_at i p) ∙ of_other place (suc o) (events i) e n)
      ]
      | inr k ↦ elim (cases_eq (place e) (suc o)) [
        | inl q ↦ ap (of image i) (m.object_more o q) ∙ of_other image i (histories (suc o)) e k ∙ w.agree i o ∙ ap (of place (suc o)) (sym (m.image_same i k))
        | inr n ↦ ap (of image i) (m.object_same o n) ∙ w.agree i o ∙ ap (of place (suc o)) (sym (m.image_same i k))
      ]
    ]

    -- an entry of the old lists isn't the new one
    not_old_image : (g g' : List E) (x : E) (i : ℕ) → image e ≡ i → events i ≡ g ++ x ∷ g' → x ≡ e → ⊥
    not_old_image g g' x i p a h =
        let b = at_most_last stamp 0 g g' x (subst (Rises stamp) a (w.image_rises i)) in
        let c : stamp x ≤ last_or stamp 0 (events i) = subst (λ zs. stamp x ≤ last_or stamp 0 zs) (sym a) b in
        let d : last_or stamp 0 (events i) < stamp e = subst (λ k. last_or stamp 0 (events k) < stamp e) p image_above in
        let f = ap stamp h in
        omega arith

    not_old_object : (g g' : List E) (x : E) (o : ℕ) → place e ≡ suc o → histories (suc o) ≡ g ++ x ∷ g' → x ≡ e → ⊥
    not_old_object g g' x o p a h =
        let b = at_most_last stamp 0 g g' x (subst (Rises stamp) a (w.object_rises o)) in
        let c : stamp x ≤ last_or stamp 0 (histories (suc o)) = subst (λ zs. stamp x ≤ last_or stamp 0 zs) (sym a) b in
        let d : last_or stamp 0 (histories (suc o)) < stamp e = object_above o p in
        let f = ap stamp h in
        omega arith

    stamp_here : (i o : ℕ) → image e ≡ i → place e ≡ suc o → stamp e ≡ suc (max (last_or stamp 0 (events i)) (last_or stamp 0 (histories (suc o))))
    stamp_here i o p q =
        let s = subst (λ k. stamp e ≡ due own k e (last_or stamp 0 (events (image e))) (place_last stamp k (histories k))) q m.stamped in
        subst (λ k. stamp e ≡ suc (max (last_or stamp 0 (events k)) (last_or stamp 0 (histories (suc o))))) p s

    both : (i o : ℕ) (g g' h h' : List E) (x : E) → image e ≡ i → place e ≡ suc o → AtEnd (events i) g g' e x ⊎ Before (events i) g g' e x → AtEnd (histories (suc o)) h h' e x ⊎ Before (histories (suc o)) h h' e x → stamp x ≡ suc (max (last_or stamp 0 g) (last_or stamp 0 h))
    both i o g g' h h' x p q (inl a) (inl b) = rw (a.all, b.all, a.last) (stamp_here i o p q)
    both i o g g' h h' x p q (inl a) (inr b) = absurd (not_old_object h b.rest x o q b.split a.last)
    both i o g g' h h' x p q (inr a) (inl b) = absurd (not_old_image g a.rest x i p a.split b.last)
    both i o g g' h h' x p q (inr a) (inr b) = w.fits i o g a.rest h b.rest x a.split b.split

    image_alone : (i o : ℕ) (g g' h h' : List E) (x : E) → (place e ≡ suc o → ⊥) → histories (suc o) ≡ h ++ x ∷ h' → AtEnd (events i) g g' e x ⊎ Before (events i) g g' e x → stamp x ≡ suc (max (last_or stamp 0 g) (last_or stamp 0 h))
    image_alone i o g g' h h' x n b (inl a) = absurd (n (ap place (sym a.last) ∙ each_at (λ y. place y ≡ suc o) h h' x (subst (Each (λ y. place y ≡ suc o)) b (w.there o))))
    image_alone i o g g' h h' x n b (inr a) = w.fits i o g a.rest h h' x a.split b

    object_alone : (i o : ℕ) (g g' h h' : List E) (x : E) → (image e ≡ i → ⊥) → events i ≡ g ++ x ∷ g' → AtEnd (histories (suc o)) h h' e x ⊎ Before (histories (suc o)) h h' e x → stamp x ≡ suc (max (last_or stamp 0 g) (last_or stamp 0 h))
    object_alone i o g g' h h' x n b (inl a) = absurd (n (ap image (sym a.last) ∙ each_at (λ y. image y ≡ i) g g' x (subst (Each (λ y. image y ≡ i)) b (w.mine i))))
    object_alone i o g g' h h' x n b (inr a) = w.fits i o g g' h a.rest x b a.split

    new_fits : (i o : ℕ) (g g' h h' : List E) (x : E) → events' i ≡ g ++ x ∷ g' → histories' (suc o) ≡ h ++ x ∷ h' → stamp x ≡ suc (max (last_or stamp 0 g) (last_or stamp 0 h))
    new_fits i o g g' h h' x a b = elim (cases_eq (image e) i) [
      | inl p ↦ elim (cases_eq (place e) (suc o)) [
        | inl q ↦ both i o g g' h h' x p q (split_last (events i) g g' e x (sym (more_at i p) ∙ a)) (split_last (histories (suc o)) h h' e x (sym (m.object_more o q) ∙ b))
        | inr n ↦ image_alone i o g g' h h' x n (sym (m.object_same o n) ∙ b) (split_last (events i) g g' e x (sym (more_at i p) ∙ a))
      ]
      | inr k ↦ elim (cases_eq (place e) (suc o)) [
        | inl q ↦ object_alone i o g g' h h' x k (sym (m.image_same i k) ∙ a) (split_last (histories (suc o)) h h' e x (sym (m.object_more o q) ∙ b))
        | inr n ↦ w.fits i o g g' h h' x (sym (m.image_same i k) ∙ a) (sym (m.object_same o n) ∙ b)
      ]
    ]

    own_case : (i : ℕ) (g g' : List E) (x : E) → image e ≡ i → place x ≡ 0 → AtEnd (events i) g g' e x ⊎ Before (events i) g g' e x → stamp x ≡ own x (last_or stamp 0 g)
    own_case i g g' x p q (inl a) =
        let z : place e ≡ 0 = ap place (sym a.last) ∙ q in
        let s = subst (λ k. stamp e ≡ due own k e (last_or stamp 0 (events (image e))) (place_last stamp k (histories k))) z m.stamped in
        let r = subst (λ k. stamp e ≡ own e (last_or stamp 0 (events k))) p s in
        rw (a.all, a.last) r
    own_case i g g' x p q (inr a) = w.own_fits i g a.rest x q a.split

    new_own_fits : (i : ℕ) (g g' : List E) (x : E) → place x ≡ 0 → events' i ≡ g ++ x ∷ g' → stamp x ≡ own x (last_or stamp 0 g)
    new_own_fits i g g' x p a = elim (cases_eq (image e) i) [
      | inl q ↦ own_case i g g' x q p (split_last (events i) g g' e x (sym (more_at i q) ∙ a))
      | inr k ↦ w.own_fits i g g' x p (sym (m.image_same i k) ∙ a)
    ]

    pub woven_more : Woven image place stamp own events' histories'
    woven_more = record { mine = new_mine; there = new_there; image_rises = new_image_rises; object_rises = new_object_rises; agree = new_agree; fits = new_fits; own_fits = new_own_fits }
