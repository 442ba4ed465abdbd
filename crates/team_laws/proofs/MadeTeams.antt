-- Which teams a round has made: those of its close, and no others.
use Rattle.std.proofs.Common.{◌≡◌, ℕ, zero, suc, ◌+◌, ◌<◌, ◌≤◌, Bool, true, false, ◌&&◌, cond, List, [], ◌∷◌, ◌++◌, ◌⊎◌, inl, inr, refl, ap, sym, ◌∙◌, subst, arith}
use Rattle.std.specs.Prelude.{nat_eq, not, map, Some, slice_get}
use Rattle.std.specs.List.{filter, range_with_len}
use Rattle.std.proofs.lemmas.List.{append-nil}
use Rattle.std.proofs.lemmas.Bool.{cases_Bool, and_parts, and_from, and_left, and_right, eq-eqb, ne_eqb}
use Rattle.std.proofs.lemmas.Bool.Decides.{eqb_tells}
use Rattle.caf_events.specs.declared.event.Entry.{Entry}
use Rattle.trace_theory.proofs.Filters.{filter_append}
use Rattle.object_rules.specs.Happenings.{control, happened}
use Rattle.object_rules.specs.TeamRounds.{has_closed, opening_of, missed_by}
use Rattle.object_rules.specs.FormedTeams.{Members, formed}
use Rattle.object_rules.specs.BoardTeams.{Team, round_of, form_args, closing, is_form, teams_made, most_joined, closes_now, made_in_rounds, made_in_team, made_by, teams_after}
use Rattle.team_laws.proofs.Lists.{grown, get_front, filter_mapped, filter_unmapped}
use Rattle.team_laws.proofs.Teams.{teams_more}
use Rattle.team_laws.proofs.Rounds.{closed_now, closing_stays, closing_here}

-- the team is one that this round made
abbrev pub is_of_round : ℕ → ℕ → Team → Bool
is_of_round team round x = nat_eq x.parent team && nat_eq x.round round

-- those of a list that this round made
abbrev pub of_round : ℕ → ℕ → List Team → List Team
of_round team round ts = filter (is_of_round team round) ts

module _ (team round : ℕ) where
  of_round_append : (xs ys : List Team) → of_round team round (xs ++ ys) ≡ of_round team round xs ++ of_round team round ys
  of_round_append xs ys = filter_append (is_of_round team round) xs ys

  abbrev as_team : ℕ → ℕ → Members → Team
  as_team t r x = record { parent = t; round = r; number = x.number; members = x.images }

  module _ (ms : List ℕ) (f : List Entry) where
    abbrev formed_there : ℕ → ℕ → List Members
    formed_there t r = formed (missed_by ms (happened control f)).stopped (missed_by ms (happened control f)).failed (form_args (round_of control t r ms f))

    own_made : of_round team round (teams_made team round ms f) ≡ teams_made team round ms f
    own_made = elim (is_form (opening_of team round (happened control f))) as (λ b. of_round team round (cond b (map (as_team team round) (formed_there team round)) []) ≡ cond b (map (as_team team round) (formed_there team round)) []) [
      | true ↦ filter_mapped (is_of_round team round) (as_team team round) (λ x. and_from (nat_eq team team) (nat_eq round round) (eq-eqb team team refl) (eq-eqb round round refl)) (formed_there team round)
      | false ↦ refl
    ]

    other_made : (t r : ℕ) → (nat_eq t team && nat_eq r round) ≡ false → of_round team round (teams_made t r ms f) ≡ []
    other_made t r other = elim (is_form (opening_of t r (happened control f))) as (λ b. of_round team round (cond b (map (as_team t r) (formed_there t r)) []) ≡ []) [
      | true ↦ filter_unmapped (is_of_round team round) (as_team t r) (λ x. other) (formed_there t r)
      | false ↦ refl
    ]

    other_round : (r : ℕ) → (r ≡ round → ⊥) → of_round team round (teams_made team r ms f) ≡ []
    other_round r ne = other_made team r (and_right (nat_eq team team) (nat_eq r round) (ne_eqb r round ne))

    -- later rounds made none of them
    later_rounds : (p : ℕ → Bool) (k n : ℕ) → round < k → of_round team round (made_in_rounds team ms f (filter p (range_with_len k n))) ≡ []
    later_rounds p k zero lt = refl
    later_rounds p k (suc n) lt =
        let rest = later_rounds p (k + 1) n (omega arith) in
        elim (cases_Bool (p k)) [
          | inl t ↦ rw t (of_round_append (teams_made team k ms f) (made_in_rounds team ms f (filter p (range_with_len (k + 1) n))) ∙ ap (λ z. z ++ of_round team round (made_in_rounds team ms f (filter p (range_with_len (k + 1) n)))) (other_round k (λ e. absurd (omega arith))) ∙ rest)
          | inr g ↦ rw g rest
        ]

    these_rounds : (p : ℕ → Bool) (k n : ℕ) → (of_round team round (made_in_rounds team ms f (filter p (range_with_len k n))) ≡ []) ⊎ ((p round ≡ true) × (of_round team round (made_in_rounds team ms f (filter p (range_with_len k n))) ≡ teams_made team round ms f))
    these_rounds p k zero = inl refl
    these_rounds p k (suc n) = elim (cases_Bool (p k)) [
      | inl t ↦ (
          let rest = made_in_rounds team ms f (filter p (range_with_len (k + 1) n)) in
          let both = of_round_append (teams_made team k ms f) rest in
          elim (eqb_tells k round) [
            | inl y ↦ (
                let e = y.1 in
                let none = later_rounds p (k + 1) n (omega arith) in
                let own : of_round team round (teams_made team k ms f) ≡ teams_made team round ms f = subst (λ z. of_round team round (teams_made team z ms f) ≡ teams_made team round ms f) (sym y.1) own_made in
                inr (ap p (sym y.1) ∙ t, rw t (both ∙ ap (λ z. of_round team round (teams_made team k ms f) ++ z) none ∙ append-nil (of_round team round (teams_made team k ms f)) ∙ own)))
            | inr ne ↦ rw t (subst (λ z. (z ≡ []) ⊎ ((p round ≡ true) × (z ≡ teams_made team round ms f))) (sym (both ∙ ap (λ z. z ++ of_round team round rest) (other_round k ne.1))) (these_rounds p (k + 1) n))
          ])
      | inr g ↦ rw g (these_rounds p (k + 1) n)
    ]

    -- no other team made them
    other_rounds : (t : ℕ) → (t ≡ team → ⊥) → (rs : List ℕ) → of_round team round (made_in_rounds t ms f rs) ≡ []
    other_rounds t ne [] = refl
    other_rounds t ne (r ∷ rs) =
        of_round_append (teams_made t r ms f) (made_in_rounds t ms f rs)
        ∙ ap (λ z. z ++ of_round team round (made_in_rounds t ms f rs)) (other_made t r (and_left (nat_eq t team) (nat_eq r round) (ne_eqb t team ne)))
        ∙ other_rounds t ne rs

  module _ (before : List Entry) (e : Entry) where
    -- an entry closes the round: the teams of it that it makes, where the first of the list has the number t
    record Closes (t : ℕ) (xs : List Team) : Type 0 where
      place : ℕ
      number : t + place ≡ team
      parent : Team
      there : slice_get xs place ≡ Some parent
      open_before : has_closed parent.members team round (happened control before) ≡ false
      closed_now : has_closed parent.members team round (happened control (before ++ e ∷ [])) ≡ true
      made : of_round team round (made_by t xs before e) ≡ teams_made team round parent.members (before ++ e ∷ [])

    none_later : (t : ℕ) (xs : List Team) → team < t → of_round team round (made_by t xs before e) ≡ []
    none_later t [] lt = refl
    none_later t (x ∷ xs) lt =
        of_round_append (made_in_team t x.members before e) (made_by (suc t) xs before e)
        ∙ ap (λ z. z ++ of_round team round (made_by (suc t) xs before e)) (other_rounds x.members (before ++ e ∷ []) t (λ q. absurd (omega arith)) _)
        ∙ none_later (suc t) xs (omega arith)

    not_true : (b : Bool) → not b ≡ true → b ≡ false
    not_true true h = absurd (cc)
    not_true false h = refl

    made_by_entry : (t : ℕ) (xs : List Team) → (of_round team round (made_by t xs before e) ≡ []) ⊎ Closes t xs
    made_by_entry t [] = inl refl
    made_by_entry t (x ∷ xs) =
        let both = of_round_append (made_in_team t x.members before e) (made_by (suc t) xs before e) in
        let now = happened control (before ++ e ∷ []) in
        elim (eqb_tells t team) [
          | inl y ↦ (
              let q = y.1 in
              let none = none_later (suc t) xs (omega arith) in
              let all = both ∙ ap (λ z. of_round team round (made_in_team t x.members before e) ++ z) none ∙ append-nil (of_round team round (made_in_team t x.members before e)) ∙ ap (λ z. of_round team round (made_in_team z x.members before e)) y.1 in
              elim (these_rounds x.members (before ++ e ∷ []) (closes_now team x.members (happened control before) now) 1 (most_joined team x.members now)) [
                | inl nil ↦ inl (all ∙ nil)
                | inr here ↦ (
                    let c = and_parts (not (has_closed x.members team round (happened control before))) (has_closed x.members team round now) here.0 in
                    inr (record { place = 0; number = omega arith; parent = x; there = refl; open_before = not_true (has_closed x.members team round (happened control before)) c.0; closed_now = c.1; made = all ∙ here.1 }))
              ])
          | inr ne ↦ (
              let all = both ∙ ap (λ z. z ++ of_round team round (made_by (suc t) xs before e)) (other_rounds x.members (before ++ e ∷ []) t ne.1 _) in
              elim (made_by_entry (suc t) xs) [
                | inl nil ↦ inl (all ∙ nil)
                | inr c ↦ (let k = c.number in inr (record { place = suc c.place; number = omega arith; parent = c.parent; there = c.there; open_before = c.open_before; closed_now = c.closed_now; made = all ∙ c.made }))
              ])
        ]

  -- the teams that a round made, where it made any: those of its close
  pub record MadeAt (n : ℕ) (h : List Entry) : Type 0 where
    pub place : ℕ
    pub number : suc place ≡ team
    pub parent : Team
    pub there : slice_get (teams_after n h) place ≡ Some parent
    pub front : List Entry
    pub closed : closing control team round parent.members h ≡ Some front
    pub made : of_round team round (teams_after n h) ≡ teams_made team round parent.members front

  abbrev Made : ℕ → List Entry → Type 0
  Made n h = (of_round team round (teams_after n h) ≡ []) ⊎ MadeAt n h

  same_parent : (xs : List Team) (j k : ℕ) (x y : Team) → slice_get xs j ≡ Some x → slice_get xs k ≡ Some y → j ≡ k → x ≡ y
  same_parent xs j k x y p q e = let w : Some x ≡ Some y = sym p ∙ ap (slice_get xs) e ∙ q in cc

  more_made : (n : ℕ) (h : List Entry) (e : Entry) → Made n h → Made n (h ++ e ∷ [])
  more_made n h e old =
      let ts = teams_after n h in
      let new = made_by 1 ts h e in
      let all : of_round team round (teams_after n (h ++ e ∷ [])) ≡ of_round team round ts ++ of_round team round new = ap (of_round team round) (teams_more n h e) ∙ of_round_append ts new in
      elim (made_by_entry h e 1 ts) [
        | inl none ↦ (
            let same : of_round team round (teams_after n (h ++ e ∷ [])) ≡ of_round team round ts = all ∙ ap (λ z. of_round team round ts ++ z) none ∙ append-nil (of_round team round ts) in
            elim old [
              | inl nil ↦ inl (same ∙ nil)
              | inr m ↦ inr (record {
                place = m.place;
                number = m.number;
                parent = m.parent;
                there = ap (λ z. slice_get z m.place) (teams_more n h e) ∙ get_front ts new m.place m.parent m.there;
                front = m.front;
                closed = closing_stays control team round m.parent.members h m.front e m.closed;
                made = same ∙ m.made;
              })
            ])
        | inr c ↦ (
            let j = c.number in
            elim old [
              | inl nil ↦ inr (record {
                place = c.place;
                number = omega arith;
                parent = c.parent;
                there = ap (λ z. slice_get z c.place) (teams_more n h e) ∙ get_front ts new c.place c.parent c.there;
                front = h ++ e ∷ [];
                closed = closing_here control team round c.parent.members h e c.open_before c.closed_now;
                made = all ∙ ap (λ z. z ++ of_round team round new) nil ∙ c.made;
              })
              | inr m ↦ (
                  let i = m.number in
                  let q = same_parent ts m.place c.place m.parent c.parent m.there c.there (omega arith) in
                  let was : has_closed c.parent.members team round (happened control h) ≡ true = subst (λ (z : Team). has_closed z.members team round (happened control h) ≡ true) q (closed_now control team round m.parent.members h m.front m.closed) in
                  absurd (let w : false ≡ true = sym c.open_before ∙ was in cc))
            ])
      ]

  -- so after each history, for a team other than none
  pub made_after : (n : ℕ) (h : List Entry) → 1 ≤ team → (of_round team round (teams_after n h) ≡ []) ⊎ MadeAt n h
  made_after n h low =
      let away : nat_eq 0 team ≡ false = ne_eqb 0 team (λ e. absurd (omega arith)) in
      grown (Made n) (more_made n) [] h (inl (rw away refl))
