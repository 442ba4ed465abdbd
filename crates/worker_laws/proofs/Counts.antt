-- No stamp of a run is above the number of its events: below each stamp that an event has, another event has the one
-- before.
use Rattle.std.proofs.Common.{◌≡◌, ℕ, zero, suc, ◌+◌, ◌<◌, ◌≤◌, max, Bool, List, [], ◌∷◌, ◌++◌, ◌⊎◌, inl, inr, length, refl, ap, sym, ◌∙◌, subst, arith, append_assoc}
use Rattle.std.proofs.lemmas.Bool.{cases_Bool, cases_lt}
use Rattle.std.specs.List.{filter}
use Rattle.trace_theory.specs.Entries.{of, Each, last_or}
use Rattle.trace_theory.specs.Runs.{Woven}
use Rattle.trace_theory.proofs.Filters.{of_inside}
use Rattle.trace_theory.proofs.Snocs.{each_at}
use Rattle.worker_laws.specs.Counts.{events_of, NoneElse}
use Rattle.worker_laws.proofs.Links.{no_split}

-- 1 where the one is at most the other, else 0
abbrev up_to : ℕ → ℕ → ℕ
up_to zero s = 1
up_to (suc a) zero = 0
up_to (suc a) (suc s) = up_to a s

up_to_one : (a s : ℕ) → up_to a s ≤ 1
up_to_one zero s = omega arith
up_to_one (suc a) zero = omega arith
up_to_one (suc a) (suc s) = up_to_one a s

up_to_more : (a s : ℕ) → up_to a s ≤ up_to a (suc s)
up_to_more zero s = omega arith
up_to_more (suc a) zero = omega arith
up_to_more (suc a) (suc s) = up_to_more a s

up_to_now : (s : ℕ) → up_to (suc s) s + 1 ≤ up_to (suc s) (suc s)
up_to_now zero = omega arith
up_to_now (suc s) = up_to_now s

module _ {E : Type 0} where
  -- where an entry stands in a list
  pub record Inside (xs : List E) (x : E) : Type 0 where
    pub front : List E
    pub back : List E
    pub split : xs ≡ front ++ x ∷ back

  inside_more : (y : E) (xs : List E) (x : E) → Inside xs x → Inside (y ∷ xs) x
  inside_more y xs x i = record { front = y ∷ i.front; back = i.back; split = ap (λ zs. y ∷ zs) i.split }

  inside_head : (y : E) (xs ys : List E) (x : E) → (Inside ys x → Inside xs x) → (g g' : List E) → y ∷ ys ≡ g ++ x ∷ g' → Inside (y ∷ xs) x
  inside_head y xs ys x on [] g' h = let k : y ≡ x = cc in record { front = []; back = xs; split = ap (λ z. z ∷ xs) k }
  inside_head y xs ys x on (z ∷ g) g' h = let t : ys ≡ g ++ x ∷ g' = cc in inside_more y xs x (on (record { front = g; back = g'; split = t }))

  inside_tail : (y : E) (xs ys : List E) (x : E) → (Inside ys x → Inside xs x) → Inside (y ∷ ys) x → Inside (y ∷ xs) x
  inside_tail y xs ys x on i = inside_head y xs ys x on i.front i.back i.split

  -- an entry that a filter keeps stands in the list
  pub inside_filter : (p : E → Bool) (xs : List E) (x : E) → Inside (filter p xs) x → Inside xs x
  inside_filter p [] x i = absurd (no_split i.front i.back x i.split)
  inside_filter p (y ∷ xs) x i = elim (cases_Bool (p y)) [
    | inl t ↦ inside_tail y xs (filter p xs) x (inside_filter p xs x) (rw t at i)
    | inr f ↦ inside_more y xs x (inside_filter p xs x (rw f at i))
  ]

  -- what holds of each entry that stands in a list holds of all
  pub each_inside : (P : E → Type 0) (xs : List E) → ((x : E) → Inside xs x → P x) → Each P xs
  each_inside P [] h = tt
  each_inside P (y ∷ xs) h = (h y (record { front = []; back = xs; split = refl }), each_inside P xs (λ x i. h x (inside_more y xs x i)))

  -- what holds of all holds of each that stands in the list
  pub inside_each : (P : E → Type 0) (xs : List E) (x : E) → Each P xs → Inside xs x → P x
  inside_each P xs x all at = each_at P at.front at.back x (subst (Each P) at.split all)

  -- where two lists have the same entries of one another, an entry of the one that is the other's stands in the other
  pub inside_other : (image place : E → ℕ) (i o : ℕ) (es h : List E) (x : E) → of image i h ≡ of place o es → place x ≡ o → Inside es x → Inside h x
  inside_other image place i o es h x agree is at =
      let e : of place (place x) es ≡ of place (place x) at.front ++ x ∷ of place (place x) at.back = ap (of place (place x)) at.split ∙ of_inside place at.front at.back x in
      inside_filter _ h x (record { front = of place (place x) at.front; back = of place (place x) at.back; split = agree ∙ ap (λ k. of place k es) (sym is) ∙ e })

module _ {E : Type 0} (stamp : E → ℕ) where
  -- the last stamp is that of an entry, or the one that is taken where there is none
  pub record HasStamp (xs : List E) (n : ℕ) : Type 0 where
    pub entry : E
    pub at : Inside xs entry
    pub is : stamp entry ≡ n

  has_more : (y : E) (xs : List E) (n : ℕ) → HasStamp xs n → HasStamp (y ∷ xs) n
  has_more y xs n h = record { entry = h.entry; at = inside_more y xs h.entry h.at; is = h.is }

  last_is : (n : ℕ) (xs : List E) → HasStamp xs (last_or stamp n xs) ⊎ (last_or stamp n xs ≡ n)
  last_is n [] = inr refl
  last_is n (x ∷ xs) = elim (last_is (stamp x) xs) [
    | inl h ↦ inl (has_more x xs (last_or stamp (stamp x) xs) h)
    | inr e ↦ inl (record { entry = x; at = record { front = []; back = xs; split = refl }; is = sym e })
  ]

  -- a last stamp above 0 is that of an entry
  last_has : (xs : List E) (t : ℕ) → last_or stamp 0 xs ≡ suc t → HasStamp xs (suc t)
  last_has xs t e = elim (last_is 0 xs) [
    | inl h ↦ subst (HasStamp xs) e h
    | inr z ↦ absurd (let k : 0 ≡ suc t = sym z ∙ e in omega arith)
  ]

  -- how many entries have at most this stamp
  abbrev low : ℕ → List E → ℕ
  low s [] = 0
  low s (x ∷ xs) = up_to (stamp x) s + low s xs

  low_all : (s : ℕ) (xs : List E) → low s xs ≤ length xs
  low_all s [] = omega arith
  low_all s (x ∷ xs) = let r = low_all s xs in let o = up_to_one (stamp x) s in omega arith

  one_low : (s : ℕ) (x : E) → up_to (stamp x) s ≤ up_to (stamp x) (suc s)
  one_low s x = up_to_more (stamp x) s

  one_now : (s : ℕ) (x : E) → stamp x ≡ suc s → up_to (stamp x) s + 1 ≤ up_to (stamp x) (suc s)
  one_now s x e = subst (λ a. up_to a s + 1 ≤ up_to a (suc s)) (sym e) (up_to_now s)

  low_more : (s : ℕ) (xs : List E) → low s xs ≤ low (suc s) xs
  low_more s [] = omega arith
  low_more s (x ∷ xs) = let r = low_more s xs in let o = one_low s x in omega arith

  low_at : (s : ℕ) (g g' : List E) (x : E) → stamp x ≡ suc s → low s (g ++ x ∷ g') + 1 ≤ low (suc s) (g ++ x ∷ g')
  low_at s [] g' x e = let r = low_more s g' in let o = one_now s x e in omega arith
  low_at s (y ∷ g) g' x e = let r = low_at s g g' x e in let o = one_low s y in omega arith

module _ (E : Type 0) (image place stamp : E → ℕ) (own : E → ℕ → ℕ) (n : ℕ) (events histories : ℕ → List E) (w : Woven image place stamp own events histories) (none : NoneElse events n) (plain : (i : ℕ) → Each (λ e. (k : ℕ) → own e k ≡ suc k) (events i)) where
  -- how many events of images 1 to m have at most this stamp
  abbrev lows : ℕ → ℕ → ℕ
  lows s zero = 0
  lows s (suc m) = lows s m + low stamp s (events (suc m))

  lows_all : (s m : ℕ) → lows s m ≤ events_of events m
  lows_all s zero = omega arith
  lows_all s (suc m) = let a = lows_all s m in let b = low_all stamp s (events (suc m)) in omega arith

  lows_more : (s m : ℕ) → lows s m ≤ lows (suc s) m
  lows_more s zero = omega arith
  lows_more s (suc m) = let a = lows_more s m in let b = low_more stamp s (events (suc m)) in omega arith

  -- one more has the next stamp, where an event of one of these images has it
  lows_at : (s m i : ℕ) (x : E) → 0 < i → i ≤ m → Inside (events i) x → stamp x ≡ suc s → lows s m + 1 ≤ lows (suc s) m
  lows_at s zero i x pos le at e = absurd (omega arith)
  lows_at s (suc m) i x pos le at e = elim (cases_lt m i) [
    | inl lt ↦
        let q : i ≡ suc m = omega arith in
        let a = lows_more s m in
        let b : low stamp s (events (suc m)) + 1 ≤ low stamp (suc s) (events (suc m)) =
        subst (λ xs. low stamp s xs + 1 ≤ low stamp (suc s) xs) (sym at.split ∙ ap events q) (low_at stamp s at.front at.back x e) in
        omega arith
    | inr ge ↦ let a = lows_at s m i x pos ge at e in let b = low_more stamp s (events (suc m)) in omega arith
  ]

  -- an image with an event is one of the run
  pub in_run : (i : ℕ) (x : E) → Inside (events i) x → (0 < i) × (i ≤ n)
  in_run zero x at = absurd (no_split at.front at.back x (sym (none zero (inl refl)) ∙ at.split))
  in_run (suc i) x at = elim (cases_lt n (suc i)) [
    | inl lt ↦ absurd (no_split at.front at.back x (sym (none (suc i) (inr lt)) ∙ at.split))
    | inr ge ↦ (omega arith, ge)
  ]

  -- an entry of an object's history is an event of its image
  event_of : (o : ℕ) (x : E) → Inside (histories (suc o)) x → Inside (events (image x)) x
  event_of o x at = inside_other place image (suc o) (image x) (histories (suc o)) (events (image x)) x (sym (w.agree (image x) o)) refl at

  -- and an event at an object is an entry of its history
  entry_of : (i o : ℕ) (x : E) → place x ≡ suc o → Inside (events i) x → Inside (histories (suc o)) x
  entry_of i o x is at = inside_other image place i (suc o) (events i) (histories (suc o)) x (w.agree i o) is at

  inside_front : (xs g g' : List E) (e x : E) → xs ≡ g ++ e ∷ g' → Inside g x → Inside xs x
  inside_front xs g g' e x at i = record { front = i.front; back = i.back ++ e ∷ g'; split = at ∙ ap (λ ys. ys ++ e ∷ g') i.split ∙ append_assoc i.front (x ∷ i.back) (e ∷ g') }

  -- an event of one of the images with the stamp
  pub record AnEvent (s : ℕ) : Type 0 where
    pub i : ℕ
    pub entry : E
    pub at : Inside (events i) entry
    pub is : stamp entry ≡ s

  max_is : (a b t : ℕ) → max a b ≡ suc t → (a ≡ suc t) ⊎ (b ≡ suc t)
  max_is a b t e = elim (cases_lt a b) [ inl lt ↦ inr (omega arith) | inr ge ↦ inl (omega arith) ]

  -- before an event with a stamp above 1 another one has the stamp below it
  before : (t : ℕ) (p : ℕ) (s : AnEvent (suc (suc t))) → place s.entry ≡ p → AnEvent (suc t)
  before t zero s is =
      let d = w.own_fits s.i s.at.front s.at.back s.entry is s.at.split in
      let u : own s.entry (last_or stamp 0 s.at.front) ≡ suc (last_or stamp 0 s.at.front) = each_at (λ y. (k : ℕ) → own y k ≡ suc k) s.at.front s.at.back s.entry (subst (Each (λ y. (k : ℕ) → own y k ≡ suc k)) s.at.split (plain s.i)) (last_or stamp 0 s.at.front) in
      let z = s.is in
      let l = last_has stamp s.at.front t (omega arith) in
      record { i = s.i; entry = l.entry; at = inside_front (events s.i) s.at.front s.at.back s.entry l.entry s.at.split l.at; is = l.is }
  before t (suc o) s is =
      let there = entry_of s.i o s.entry is s.at in
      let d = w.fits s.i o s.at.front s.at.back there.front there.back s.entry s.at.split there.split in
      let z = s.is in
      elim (max_is (last_or stamp 0 s.at.front) (last_or stamp 0 there.front) t (omega arith)) [
        | inl a ↦ let l = last_has stamp s.at.front t a in record { i = s.i; entry = l.entry; at = inside_front (events s.i) s.at.front s.at.back s.entry l.entry s.at.split l.at; is = l.is }
        | inr b ↦ let l = last_has stamp there.front t b in record { i = image l.entry; entry = l.entry; at = event_of o l.entry (inside_front (histories (suc o)) there.front there.back s.entry l.entry there.split l.at); is = l.is }
      ]

  -- as many events as a stamp says have at most this stamp, where one has it
  reached : (s : ℕ) → AnEvent s → s ≤ lows s n
  reached zero e = omega arith
  reached (suc zero) e = let r = in_run e.i e.entry e.at in let m = lows_at zero n e.i e.entry r.0 r.1 e.at e.is in omega arith
  reached (suc (suc t)) e =
      let r = in_run e.i e.entry e.at in
      let m = lows_at (suc t) n e.i e.entry r.0 r.1 e.at e.is in
      let b = reached (suc t) (before t (place e.entry) e refl) in
      omega arith

  few : (i : ℕ) (x : E) → Inside (events i) x → stamp x ≤ events_of events n
  few i x at =
      let a = reached (stamp x) (record { i = i; entry = x; at = at; is = refl }) in
      let b = lows_all (stamp x) n in
      omega arith

  pub stamps_few : (i : ℕ) → Each (λ e. stamp e ≤ events_of events n) (events i)
  stamps_few i = each_inside (λ e. stamp e ≤ events_of events n) (events i) (few i)

  pub object_stamps_few : (o : ℕ) → Each (λ e. stamp e ≤ events_of events n) (histories (suc o))
  object_stamps_few o = each_inside (λ e. stamp e ≤ events_of events n) (histories (suc o)) (λ x at. few (image x) x (event_of o x at))
