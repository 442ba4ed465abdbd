-- The rounds of a team as a history grows: what has closed stays closed, and what opened a round stays.
use Rattle.std.proofs.Common.{◌≡◌, ℕ, ◌+◌, Bool, true, false, ◌||◌, cond, List, [], ◌∷◌, ◌++◌, inl, inr, refl, ap, sym, ◌∙◌, subst, arith, append_assoc}
use Rattle.std.specs.Prelude.{Option, Some, None}
use Rattle.std.specs.List.{list_any, list_all}
use Rattle.std.proofs.lemmas.List.Elements.{filter_map-append}
use Rattle.std.proofs.lemmas.List.Folds.{list_any-append}
use Rattle.std.proofs.lemmas.Bool.{cases_Bool, and_parts, and_from, or_left, or_right, le-leb, leb-true}
use Rattle.caf_events.specs.declared.event.Entry.{Entry}
use Rattle.object_rules.specs.Scans.{or_else, front_where, first_front_from, first_front}
use Rattle.object_rules.specs.Happenings.{Happening, Class, happened, is_stop, is_failure, has_stopped, has_failed, has_ended}
use Rattle.object_rules.specs.TeamRounds.{arrivals, has_arrived, has_closed, Opening, joins_round, opening_of}
use Rattle.object_rules.specs.BoardTeams.{closing}
use Rattle.object_rules.proofs.Growing.{opening_more, first_front_more}
use Rattle.team_laws.proofs.Lists.{grown, any_by, all_by}

pub happened_append : (class : Class) (h g : List Entry) → happened class (h ++ g) ≡ happened class h ++ happened class g
happened_append class h g = filter_map-append _ h g

arrivals_append : (t i : ℕ) (xs ys : List Happening) → arrivals t i (xs ++ ys) ≡ arrivals t i xs + arrivals t i ys
arrivals_append t i [] ys = omega arith
arrivals_append t i (x ∷ xs) ys = let r = arrivals_append t i xs ys in omega arith

or_by : (a b c d : Bool) → (a ≡ true → c ≡ true) → (b ≡ true → d ≡ true) → (a || b) ≡ true → (c || d) ≡ true
or_by true b c d f g h = or_left c d (f refl)
or_by false b c d f g h = or_right c d (g h)

any_front : {A : Type 0} (p : A → Bool) (xs ys : List A) → list_any p xs ≡ true → list_any p (xs ++ ys) ≡ true
any_front p xs ys h = list_any-append p xs ys ∙ or_left (list_any p xs) (list_any p ys) h

module _ (hs more : List Happening) where
  arrived_stays : (t r m : ℕ) → has_arrived t r m hs ≡ true → has_arrived t r m (hs ++ more) ≡ true
  arrived_stays t r m h =
      let a = leb-true r (arrivals t m hs) h in
      let b = arrivals_append t m hs more in
      le-leb r (arrivals t m (hs ++ more)) (omega arith)

  ended_stays : (m : ℕ) → has_ended m hs ≡ true → has_ended m (hs ++ more) ≡ true
  ended_stays m h = or_by (has_stopped m hs) (has_failed m hs) (has_stopped m (hs ++ more)) (has_failed m (hs ++ more)) (any_front (is_stop m) hs more) (any_front (is_failure m) hs more) h

  -- a round that has closed stays closed
  closed_on : (ms : List ℕ) (t r : ℕ) → has_closed ms t r hs ≡ true → has_closed ms t r (hs ++ more) ≡ true
  closed_on ms t r h =
      let p = and_parts (list_any (λ m. has_arrived t r m hs) ms) (list_all (λ m. has_arrived t r m hs || has_ended m hs) ms) h in
      and_from (list_any (λ m. has_arrived t r m (hs ++ more)) ms) (list_all (λ m. has_arrived t r m (hs ++ more) || has_ended m (hs ++ more)) ms)
      (any_by (λ m. has_arrived t r m hs) (λ m. has_arrived t r m (hs ++ more)) (λ m. arrived_stays t r m) ms p.0)
      (all_by (λ m. has_arrived t r m hs || has_ended m hs) (λ m. has_arrived t r m (hs ++ more) || has_ended m (hs ++ more))
      (λ m. or_by (has_arrived t r m hs) (has_ended m hs) (has_arrived t r m (hs ++ more)) (has_ended m (hs ++ more)) (arrived_stays t r m) (ended_stays m)) ms p.1)

  -- the first arrival of a round stays its first one
  pub opening_stays : (t r : ℕ) (o : Opening) → opening_of t r hs ≡ Some o → opening_of t r (hs ++ more) ≡ Some o
  opening_stays t r o h = grown (λ xs. opening_of t r xs ≡ Some o) (λ xs x e. opening_more t r xs x ∙ ap (λ z. or_else z (joins_round t r xs x)) e) hs more h

module _ {E : Type 0} (test : List E → Bool) where
  some_front : (b : Bool) (f g : List E) → cond b (Some f) None ≡ Some g → (b ≡ true) × (f ≡ g)
  some_front true f g h = (refl, cc)
  some_front false f g h = absurd (cc)

  front_from : (before es f : List E) → first_front_from test before es ≡ Some f → (g : List E) × (before ++ es ≡ f ++ g) × (test f ≡ true)
  front_from before [] f h =
      let r = some_front (test before) before f h in
      ([], ap (λ z. z ++ []) r.1, ap test (sym r.1) ∙ r.0)
  front_from before (e ∷ es) f h = elim (cases_Bool (test before)) [
    | inl t ↦ (
        let q : or_else (Some before) (first_front_from test (before ++ e ∷ []) es) ≡ Some f = rw t at h in
        let w : before ≡ f = cc in
        (e ∷ es, ap (λ z. z ++ e ∷ es) w, ap test (sym w) ∙ t))
    | inr n ↦ (
        let r = front_from (before ++ e ∷ []) es f (rw n at h) in
        (r.0, sym (append_assoc before (e ∷ []) es) ∙ r.1, r.2))
  ]

  -- the shortest front of which a test holds is a front, and the test holds of it
  front_is : (h f : List E) → first_front test h ≡ Some f → (g : List E) × (h ≡ f ++ g) × (test f ≡ true)
  front_is h f e = front_from [] h f e

-- the close of a round
module _ (class : Class) (t r : ℕ) (ms : List ℕ) where
  -- the round has closed by then, and is closed now
  pub closing_is : (h f : List Entry) → closing class t r ms h ≡ Some f → (g : List Entry) × (h ≡ f ++ g) × (has_closed ms t r (happened class f) ≡ true)
  closing_is h f e = front_is (λ x. has_closed ms t r (happened class x)) h f e

  pub closed_now : (h f : List Entry) → closing class t r ms h ≡ Some f → has_closed ms t r (happened class h) ≡ true
  closed_now h f e =
      let c = closing_is h f e in
      let q : happened class h ≡ happened class f ++ happened class c.0 = ap (happened class) c.1 ∙ happened_append class f c.0 in
      subst (λ z. has_closed ms t r z ≡ true) (sym q) (closed_on (happened class f) (happened class c.0) ms t r c.2)

  -- it stays the same place
  pub closing_stays : (h f : List Entry) (e : Entry) → closing class t r ms h ≡ Some f → closing class t r ms (h ++ e ∷ []) ≡ Some f
  closing_stays h f e c =
      first_front_more (λ x. has_closed ms t r (happened class x)) h e ∙ ap (λ z. or_else z (front_where (λ x. has_closed ms t r (happened class x)) (h ++ e ∷ []))) c

  -- where it hasn't closed before an entry and has after it, it closes there
  pub closing_here : (h : List Entry) (e : Entry) → has_closed ms t r (happened class h) ≡ false → has_closed ms t r (happened class (h ++ e ∷ [])) ≡ true → closing class t r ms (h ++ e ∷ []) ≡ Some (h ++ e ∷ [])
  closing_here h e before now = first_front_more (λ x. has_closed ms t r (happened class x)) h e ∙ by (closing class t r ms h) refl
    where
      by : (o : Option (List Entry)) → closing class t r ms h ≡ o → or_else o (front_where (λ x. has_closed ms t r (happened class x)) (h ++ e ∷ [])) ≡ Some (h ++ e ∷ [])
      by None q = rw now refl
      by (Some f) q = absurd (let w : false ≡ true = sym before ∙ closed_now h f q in cc)
