-- The rounds of a team come in turn: where an image comes to a round, none has arrived at one behind the next.
use Rattle.std.proofs.Common.{◌≡◌, ℕ, ◌+◌, ◌-◌, ◌<◌, ◌≤◌, Bool, true, nat_le, List, [], ◌∷◌, ◌++◌, inl, inr, ap, sym, ◌∙◌, subst, arith, append_assoc}
use Rattle.std.specs.List.{list_any}
use Rattle.std.proofs.lemmas.List.Elements.{filter_map-append}
use Rattle.std.proofs.lemmas.List.Folds.{list_any-append}
use Rattle.std.proofs.lemmas.Bool.{cases_lt, or_cases, or_left, or_right, both_ways, leb-true}
use Rattle.caf_events.specs.declared.event.Entry.{Entry}
use Rattle.object_rules.specs.Happenings.{Happening, control, happens, happened, is_stop, is_failure, has_stopped, has_failed, has_ended}
use Rattle.object_rules.specs.TeamRounds.{arrivals}
use Rattle.order_axioms.specs.Closes.{joined_by, is_over, round_closed}
use Rattle.order_axioms.specs.Turns.{ComesTo, HasArrived, InRounds}

arrivals_append : (t i : ℕ) (xs ys : List Happening) → arrivals t i (xs ++ ys) ≡ arrivals t i xs + arrivals t i ys
arrivals_append t i [] ys = omega arith
arrivals_append t i (x ∷ xs) ys = let e = arrivals_append t i xs ys in omega arith

happened_append : (g h : List Entry) → happened control (g ++ h) ≡ happened control g ++ happened control h
happened_append g h = filter_map-append (λ (e : Entry). happens control e.image.0 e.event.line e.event.ask e.event.reply) g h

joined_append : (u i : ℕ) (g h : List Entry) → joined_by u i (g ++ h) ≡ joined_by u i g + joined_by u i h
joined_append u i g h = ap (arrivals u i) (happened_append g h) ∙ arrivals_append u i (happened control g) (happened control h)

any_stays : (p : Happening → Bool) (xs ys : List Happening) → list_any p xs ≡ true → list_any p (xs ++ ys) ≡ true
any_stays p xs ys h = list_any-append p xs ys ∙ or_left (list_any p xs) (list_any p ys) h

ended_stays : (i : ℕ) (xs ys : List Happening) → has_ended i xs ≡ true → has_ended i (xs ++ ys) ≡ true
ended_stays i xs ys o = elim (or_cases (has_stopped i xs) (has_failed i xs) o) [
  | inl a ↦ or_left (has_stopped i (xs ++ ys)) (has_failed i (xs ++ ys)) (any_stays (is_stop i) xs ys a)
  | inr b ↦ or_right (has_stopped i (xs ++ ys)) (has_failed i (xs ++ ys)) (any_stays (is_failure i) xs ys b)
]

over_append : (i : ℕ) (g h : List Entry) → is_over i g ≡ true → is_over i (g ++ h) ≡ true
over_append i g h o = subst (λ z. has_ended i z ≡ true) (sym (happened_append g h)) (ended_stays i (happened control g) (happened control h) o)

module _ (n : ℕ) (t : List Entry) (rounds : InRounds n t) where
  -- an image that comes to a round has joined no more than that one, and an arrival joins it as the next
  joined : (g h : List Entry) (e : Entry) (u k : ℕ) → t ≡ g ++ e ∷ h → ComesTo e u k → joined_by u e.image.0 g ≤ k
  joined g h e u k s (inl a) = let z = rounds.numbered g h e u k s a in omega arith
  joined g h e u k s (inr (w, l)) = let z = (rounds.departs g h e u k w s l).0 in omega arith

  joined_less : (g h : List Entry) (e : Entry) (u k : ℕ) → t ≡ g ++ e ∷ h → ComesTo e u k → joined_by u e.image.0 g < k + 1
  joined_less g h e u k s c = let z = joined g h e u k s c in omega arith

  -- by the departure from a round each image that comes to the team's rounds had arrived in it
  pub arrived_by : (g h : List Entry) (e : Entry) (u k m : ℕ) (b r : List Entry) → t ≡ g ++ e ∷ h → ComesTo e u k → g ≡ b ++ r → round_closed n u m b ≡ true → m ≤ joined_by u e.image.0 g
  arrived_by g h e u k m b r s c split closed =
      elim (or_cases (nat_le m (joined_by u e.image.0 b)) (is_over e.image.0 b) (rounds.waited g h e u k m b r s c split closed)) [
        | inl l ↦ (
            let z = leb-true m (joined_by u e.image.0 b) l in
            let y = ap (joined_by u e.image.0) split ∙ joined_append u e.image.0 b r in
            omega arith)
        | inr o ↦ absurd (both_ways (is_over e.image.0 g) (rounds.goes_on g h e s) (subst (λ z. is_over e.image.0 z ≡ true) (sym split) (over_append e.image.0 b r o)))
      ]

  -- Where an image comes to round k, each arrival so far is at round k + 1 or an earlier one.
  pub in_turn : (g h : List Entry) (e : Entry) (u k : ℕ) → t ≡ g ++ e ∷ h → ComesTo e u k → (m : ℕ) → HasArrived g u m → m ≤ k + 1
  in_turn g h e u k s c m (b, x, r, split, act) =
      elim (cases_lt (k + 1) m) [
        | inr l ↦ l
        | inl l ↦ (
            let there : t ≡ b ++ x ∷ (r ++ e ∷ h) = s ∙ ap (λ z. z ++ e ∷ h) split ∙ append_assoc b (x ∷ r) (e ∷ h) in
            let y = rounds.left b (r ++ e ∷ h) x u m there act (omega arith) in
            let before : t ≡ y.0 ++ y.1 ∷ (y.2 ++ x ∷ (r ++ e ∷ h)) = there ∙ ap (λ z. z ++ x ∷ (r ++ e ∷ h)) y.3 ∙ append_assoc y.0 (y.1 ∷ y.2) (x ∷ (r ++ e ∷ h)) in
            let closed = (rounds.departs y.0 (y.2 ++ x ∷ (r ++ e ∷ h)) y.1 u (m - 1) y.4.0 before y.4.1).1 in
            let front : g ≡ y.0 ++ (y.1 ∷ y.2 ++ x ∷ r) = split ∙ ap (λ z. z ++ x ∷ r) y.3 ∙ append_assoc y.0 (y.1 ∷ y.2) (x ∷ r) in
            let many = arrived_by g h e u k (m - 1) y.0 (y.1 ∷ y.2 ++ x ∷ r) s c front closed in
            let few = joined_less g h e u k s c in
            absurd (omega arith))
      ]
