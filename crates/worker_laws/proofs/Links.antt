-- Each step keeps the links, and at the end they make a woven run.
use Rattle.std.proofs.Common.{◌≡◌, ℕ, suc, ◌<◌, ◌≤◌, max, nat_eq, List, [], ◌∷◌, ◌++◌, ◌⊎◌, inl, inr, refl, ap, sym, ◌∙◌, subst, arith}
use Rattle.std.proofs.lemmas.Bool.{cases_lt}
use Rattle.std.proofs.lemmas.Bool.Decides.{eqb_tells}
use Rattle.trace_theory.specs.Entries.{of, Each, last_or, Above, Rises}
use Rattle.trace_theory.specs.Runs.{Woven}
use Rattle.trace_theory.proofs.Filters.{filter_append, each_filter, of_first, of_inside, of_last, of_other}
use Rattle.trace_theory.proofs.Snocs.{split_last, each_at, each_last, rises_more}
use Rattle.worker_laws.specs.Links.{OfImage, Linked, AllClosed}

module _ {E : Type 0} where
  -- an entry of two lists put together stands in the first or in the second
  pub record InFirst (xs p : List E) (x : E) : Type 0 where
    pub after : List E
    pub split : xs ≡ p ++ x ∷ after

  pub record InSecond (ys p' : List E) (x : E) : Type 0 where
    pub front : List E
    pub split : ys ≡ front ++ x ∷ p'

  in_first_more : (y : E) (xs ys p p' : List E) (x : E) → InFirst xs p x ⊎ InSecond ys p' x → InFirst (y ∷ xs) (y ∷ p) x ⊎ InSecond ys p' x
  in_first_more y xs ys p p' x (inl a) = inl (record { after = a.after; split = ap (λ zs. y ∷ zs) a.split })
  in_first_more y xs ys p p' x (inr b) = inr b

  pub split_two : (xs ys p p' : List E) (x : E) → xs ++ ys ≡ p ++ x ∷ p' → InFirst xs p x ⊎ InSecond ys p' x
  split_two [] ys p p' x h = inr (record { front = p; split = h })
  split_two (y ∷ xs) ys [] p' x h = inl (record { after = xs; split = (let k : y ≡ x = cc in ap (λ z. z ∷ xs) k) })
  split_two (y ∷ xs) ys (z ∷ p) p' x h =
      let k : y ≡ z = cc in
      let t : xs ++ ys ≡ p ++ x ∷ p' = cc in
      subst (λ w. InFirst (y ∷ xs) (w ∷ p) x ⊎ InSecond ys p' x) k (in_first_more y xs ys p p' x (split_two xs ys p p' x t))

  of_keys : (key : E → ℕ) (k : ℕ) (xs : List E) → Each (λ x. key x ≡ k) (of key k xs)
  of_keys key k [] = tt
  of_keys key k (x ∷ xs) = elim (eqb_tells (key x) k) [ inl t ↦ rw (t.0) (t.1, of_keys key k xs) | inr f ↦ rw (f.0) (of_keys key k xs) ]

  -- where an entry of an image stands in a list, it stands among the image's
  of_at : (key : E → ℕ) (k : ℕ) (g g' : List E) (x : E) → key x ≡ k → of key k (g ++ x ∷ g') ≡ of key k g ++ x ∷ of key k g'
  of_at key k g g' x e = subst (λ j. of key j (g ++ x ∷ g') ≡ of key j g ++ x ∷ of key j g') e (of_inside key g g' x)

  -- what holds of each of an image's entries holds of that one
  pub at_own : (P : E → Type 0) (key : E → ℕ) (k : ℕ) (xs own g g' : List E) (x : E) → key x ≡ k → xs ≡ g ++ x ∷ g' → of key k xs ≡ own → Each P own → P x
  at_own P key k xs own g g' x e at is all = each_at P (of key k g) (of key k g') x (subst (Each P) (sym is ∙ ap (of key k) at ∙ of_at key k g g' x e) all)

  above_least : (stamp : E → ℕ) (n : ℕ) (xs : List E) → Above stamp n xs → Rises stamp xs → n ≤ last_or stamp n xs
  above_least stamp n [] h up = omega arith
  above_least stamp n (x ∷ xs) h up = let k = above_least stamp (stamp x) xs up.0 up.1 in let a = h.0 in omega arith

  rises_each : (stamp : E → ℕ) (n : ℕ) (xs : List E) → Rises stamp xs → Each (λ y. stamp y ≤ last_or stamp n xs) xs
  rises_each stamp n [] h = tt
  rises_each stamp n (x ∷ xs) h = (above_least stamp (stamp x) xs h.0 h.1, rises_each stamp (stamp x) xs h.1)

  pub no_split : (g g' : List E) (e : E) → [] ≡ g ++ e ∷ g' → ⊥
  no_split [] g' e h = absurd (cc)
  no_split (x ∷ g) g' e h = absurd (cc)

  append_same : (xs ys : List E) → xs ++ ys ≡ xs → ys ≡ []
  append_same [] ys h = h
  append_same (x ∷ xs) ys h = append_same xs ys (cc)

module _ (E : Type 0) (image place stamp : E → ℕ) where
  -- an image's entry that stands in what came later, stands in what was seen
  pub still_seen : (i : ℕ) (seen rest own later p p' : List E) (x : E) → later ≡ seen ++ rest → of image i seen ≡ own → of image i later ≡ own → image x ≡ i → later ≡ p ++ x ∷ p' → InFirst seen p x
  still_seen i seen rest own later p p' x longer before after is at =
      let none : of image i rest ≡ [] = append_same (of image i seen) (of image i rest) (sym (filter_append (λ y. nat_eq (image y) i) seen rest) ∙ ap (of image i) (sym longer) ∙ after ∙ sym before) in
      elim (split_two seen rest p p' x (sym longer ∙ at)) [
        | inl a ↦ a
        | inr b ↦ absurd (at_own (λ y. ⊥) image i rest [] b.front p' x is b.split none tt)
      ]

  -- more of the object was seen
  pub looks_more : (i o : ℕ) (events seen own rest : List E) → Each (λ e. image e ≡ i) events → of image i (seen ++ rest) ≡ own → Linked image place stamp i o events seen own → Linked image place stamp i o events (seen ++ rest) own
  looks_more i o events seen own rest all mine l = record {
    agree = l.agree;
    mine = mine;
    fits = λ g g' h h' e at there.
        let is : image e ≡ i = each_at (λ y. image y ≡ i) g g' e (subst (Each (λ y. image y ≡ i)) at all) in
        let a = still_seen i seen rest own (seen ++ rest) h h' e refl l.mine mine is there in
        l.fits g g' h a.after e at a.split;
  }

  -- one more event at the object o, after more of it was seen
  pub made_here : (i o : ℕ) (events seen own rest : List E) (e : E) → Each (λ x. image x ≡ i) events → Rises stamp events → image e ≡ i → place e ≡ suc o
      → of image i (seen ++ rest) ≡ own → stamp e ≡ suc (max (last_or stamp 0 events) (last_or stamp 0 (seen ++ rest)))
      → Linked image place stamp i o events seen own → Linked image place stamp i o (events ++ e ∷ []) ((seen ++ rest) ++ e ∷ []) (own ++ e ∷ [])
  made_here i o events seen own rest e all up is there_at mine due l =
      let more = looks_more i o events seen own rest all mine l in
      let below : Each (λ y. stamp y ≤ last_or stamp 0 events) events = rises_each stamp 0 events up in
      let own_below : Each (λ y. stamp y ≤ last_or stamp 0 events) own = subst (Each (λ y. stamp y ≤ last_or stamp 0 events)) (sym l.agree) (each_filter (λ y. stamp y ≤ last_or stamp 0 events) (λ y. nat_eq (place y) (suc o)) events below) in
      record {
        agree = ap (λ xs. xs ++ e ∷ []) l.agree ∙ sym (of_last place (suc o) events e there_at);
        mine = of_last image i (seen ++ rest) e is ∙ ap (λ xs. xs ++ e ∷ []) mine;
        fits = λ g g' h h' x at there. elim (split_last events g g' e x at) [
          | inl a ↦ elim (split_last (seen ++ rest) h h' e x there) [
            | inl b ↦ subst (λ (z : List E × List E × E). stamp z.2 ≡ suc (max (last_or stamp 0 z.0) (last_or stamp 0 z.1))) (λ k. (sym a.all k, sym b.all k, sym a.last k)) due
            | inr b ↦
                let ex : image x ≡ i = ap image a.last ∙ is in
                let low = at_own (λ y. stamp y ≤ last_or stamp 0 events) image i (seen ++ rest) own h b.rest x ex b.split mine own_below in
                let s = ap stamp a.last in absurd (omega arith)
          ]
          | inr a ↦ elim (split_last (seen ++ rest) h h' e x there) [
            | inl b ↦
                let low = each_at (λ y. stamp y ≤ last_or stamp 0 events) g a.rest x (subst (Each (λ y. stamp y ≤ last_or stamp 0 events)) a.split below) in
                let s = ap stamp b.last in absurd (omega arith)
            | inr b ↦ more.fits g a.rest h b.rest x a.split b.split
          ]
        ];
      }

  -- one more event elsewhere
  pub made_elsewhere : (i o : ℕ) (events seen own : List E) (e : E) → image e ≡ i → (place e ≡ suc o → ⊥) → Linked image place stamp i o events seen own → Linked image place stamp i o (events ++ e ∷ []) seen own
  made_elsewhere i o events seen own e is elsewhere l = record {
    agree = l.agree ∙ sym (of_other place (suc o) events e elsewhere);
    mine = l.mine;
    fits = λ g g' h h' x at there. elim (split_last events g g' e x at) [
      | inl a ↦ absurd (elsewhere (ap place (sym a.last) ∙ at_own (λ y. place y ≡ suc o) image i seen own h h' x (ap image a.last ∙ is) there l.mine (subst (Each (λ y. place y ≡ suc o)) (sym l.agree) (of_keys place (suc o) events))))
      | inr a ↦ l.fits g a.rest h h' x a.split there
    ];
  }

  -- one more event of an image by itself
  pub image_more : (i count : ℕ) (events : List E) (e : E) → image e ≡ i → place e ≤ count → last_or stamp 0 events < stamp e → (place e ≡ 0 → stamp e ≡ suc (last_or stamp 0 events)) → OfImage image place stamp i count events → OfImage image place stamp i count (events ++ e ∷ [])
  image_more i count events e is there above due o = record {
    each = each_last (λ x. image x ≡ i) events e o.each is;
    rises = rises_more stamp 0 events e o.rises above;
    places = each_last (λ x. place x ≤ count) events e o.places there;
    own_fits = λ g g' x zero_key at. elim (split_last events g g' e x at) [
      | inl a ↦ subst (λ (z : List E × E). stamp z.1 ≡ suc (last_or stamp 0 z.0)) (λ k. (sym a.all k, sym a.last k)) (due (ap place (sym a.last) ∙ zero_key))
      | inr a ↦ o.own_fits g a.rest x zero_key a.split
    ];
  }

  -- what an image without events has to do with an object
  pub linked_none : (i o : ℕ) → Linked image place stamp i o [] [] []
  linked_none i o = record { agree = refl; mine = refl; fits = λ g g' h h' e at there. absurd (no_split g g' e at) }

  pub image_none : (i count : ℕ) → OfImage image place stamp i count []
  image_none i count = record { each = tt; rises = tt; places = tt; own_fits = λ g g' e z at. absurd (no_split g g' e at) }

  of_no : (k count : ℕ) (xs : List E) → Each (λ x. place x ≤ count) xs → count < k → of place k xs ≡ []
  of_no k count [] h lt = refl
  of_no k count (x ∷ xs) h lt = elim (eqb_tells (place x) k) [ inl t ↦ absurd (let a = h.0 in let b = t.1 in omega arith) | inr f ↦ rw (f.0) (of_no k count xs h.1 lt) ]

  each_all_images : (P : E → Type 0) (xs : List E) → ((i : ℕ) → Each P (of image i xs)) → Each P xs
  each_all_images P [] h = tt
  each_all_images P (x ∷ xs) h =
      let here : Each P (x ∷ of image (image x) xs) = subst (Each P) (of_first image x xs) (h (image x)) in
      (here.0, each_all_images P xs (λ i. elim (eqb_tells (image x) i) [ inl t ↦ (rw (t.0) at (h i)).1 | inr f ↦ rw (f.0) at (h i) ]))

  -- an image and an object have the same entries of one another
  pub agree_by : (count : ℕ) (events histories : ℕ → List E) → AllClosed image place stamp count events histories → (i o : ℕ) → of image i (histories (suc o)) ≡ of place (suc o) (events i)
  agree_by count events histories a i o = elim (cases_lt o count) [
    | inl lt ↦ let c = a.seen i o lt in c.closed.mine ∙ c.linked.agree
    | inr le ↦ ap (of image i) (a.none_else o le) ∙ sym (of_no (suc o) count (events i) (a.images i).places (omega arith))
  ]

  -- the lists of images, and the objects' histories at the end, are of one run
  pub woven : (own : E → ℕ → ℕ) (count : ℕ) (events histories : ℕ → List E) → AllClosed image place stamp count events histories → ((i : ℕ) → Each (λ e. (n : ℕ) → own e n ≡ suc n) (events i)) → Woven image place stamp own events histories
  woven own count events histories a plain = record {
    mine = λ i. (a.images i).each;
    there = λ o. elim (cases_lt o count) [
      | inl lt ↦ each_all_images (λ e. place e ≡ suc o) (histories (suc o)) (λ i. let c = a.seen i o lt in subst (Each (λ e. place e ≡ suc o)) (sym (c.closed.mine ∙ c.linked.agree)) (of_keys place (suc o) (events i)))
      | inr le ↦ subst (Each (λ e. place e ≡ suc o)) (sym (a.none_else o le)) tt
    ];
    image_rises = λ i. (a.images i).rises;
    object_rises = a.rises;
    agree = agree_by count events histories a;
    fits = λ i o g g' h h' e at there. elim (cases_lt o count) [
      | inl lt ↦
          let c = a.seen i o lt in
          let is : image e ≡ i = each_at (λ y. image y ≡ i) g g' e (subst (Each (λ y. image y ≡ i)) at (a.images i).each) in
          let s = still_seen i c.seen c.closed.longer.0 c.own (histories (suc o)) h h' e c.closed.longer.1 c.linked.mine c.closed.mine is there in
          c.linked.fits g g' h s.after e at s.split
      | inr le ↦ absurd (no_split h h' e (sym (a.none_else o le) ∙ there))
    ];
    own_fits = λ i g g' e z at. (a.images i).own_fits g g' e z at ∙ sym (each_at (λ y. (n : ℕ) → own y n ≡ suc n) g g' e (subst (Each (λ y. (n : ℕ) → own y n ≡ suc n)) at (plain i)) (last_or stamp 0 g));
  }
