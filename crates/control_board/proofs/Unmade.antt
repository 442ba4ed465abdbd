-- A round that isn't one of FORM TEAM makes no team, and doesn't close with a bad argument.
use Rattle.std.proofs.Common.{◌≡◌, ℕ, suc, ◌<◌, Bool, true, false, ◌&&◌, ◌||◌, nat_eq, List, [], ◌∷◌, ◌++◌, inl, inr, refl, ap, sym, ◌∙◌, arith, append_assoc}
use Rattle.std.specs.Prelude.{Option, Some, None, map, filter}
use Rattle.std.specs.List.{list_any, range_with_len}
use Rattle.std.proofs.lemmas.Bool.{cases_Bool, ne_eqb, and_parts, eqb-true}
use Rattle.std.proofs.lemmas.List.Elements.{filter_map-append}
use Rattle.caf_events.specs.declared.event.Entry.{Entry}
use Rattle.object_rules.specs.Happenings.{control, happens, happened}
use Rattle.object_rules.specs.TeamRounds.{Opening, has_closed, joins_round, opening_of, missed_by}
use Rattle.object_rules.specs.FormedTeams.{Members, formed}
use Rattle.object_rules.specs.BoardTeams.{Team, is_form, closing, teams_made, closes_now, most_joined, form_args, round_of, made_in_rounds, made_in_team, made_by, teams_from, teams_after, made_teams}
use Rattle.control_board.specs.Boards.{team_with, was_bad}
use Rattle.control_board.proofs.Collecting.{told_stays}
use Rattle.control_board.proofs.Rounds.{front_holds}

-- the team was made by this round of this team
abbrev is_of : ℕ → ℕ → Team → Bool
is_of t r x = nat_eq x.parent t && nat_eq x.round r

neither : (a b : Bool) → (a || b) ≡ false → (a ≡ false) × (b ≡ false)
neither true b e = absurd (cc)
neither false b e = (refl, e)

none_append : (t r : ℕ) (xs ys : List Team) → list_any (is_of t r) xs ≡ false → list_any (is_of t r) ys ≡ false → list_any (is_of t r) (xs ++ ys) ≡ false
none_append t r [] ys a b = b
none_append t r (x ∷ xs) ys a b =
    let p = neither (is_of t r x) (list_any (is_of t r) xs) a in
    ap (λ c. c || list_any (is_of t r) (xs ++ ys)) p.0 ∙ none_append t r xs ys p.1 b

none_told : (t r k : ℕ) (xs : List Team) → list_any (is_of t r) xs ≡ false → made_teams t r k xs ≡ []
none_told t r k [] e = refl
none_told t r k (x ∷ xs) e =
    let p = neither (is_of t r x) (list_any (is_of t r) xs) e in
    let q : (nat_eq x.parent t && nat_eq x.round r) ≡ false = p.0 in
    rw q (none_told t r (suc k) xs p.1)

-- the teams of another round
others : (t r u v : ℕ) (xs : List Members) → (nat_eq u t && nat_eq v r) ≡ false → list_any (is_of t r) (map (team_with u v) xs) ≡ false
others t r u v [] n = refl
others t r u v (x ∷ xs) n = ap (λ c. c || list_any (is_of t r) (map (team_with u v) xs)) n ∙ others t r u v xs n

module _ (t r : ℕ) where
  -- the round isn't one of FORM TEAM by what these entries tell
  abbrev IsOther : List Entry → Type 0
  IsOther f = is_form (opening_of t r (happened control f)) ≡ false

  by_round : (u v : ℕ) (ms : List ℕ) (f : List Entry) → IsOther f → list_any (is_of t r) (teams_made u v ms f) ≡ false
  by_round u v ms f other = elim (cases_Bool (nat_eq u t && nat_eq v r)) [
    | inl y ↦ (
        let p = and_parts (nat_eq u t) (nat_eq v r) y in
        let q : is_form (opening_of u v (happened control f)) ≡ false =
        ap (λ a. is_form (opening_of a v (happened control f))) (eqb-true u t p.0) ∙ ap (λ b. is_form (opening_of t b (happened control f))) (eqb-true v r p.1) ∙ other in
        rw q refl)
    | inr n ↦ elim (cases_Bool (is_form (opening_of u v (happened control f)))) [
      | inl y ↦ rw y (others t r u v (formed (missed_by ms (happened control f)).stopped (missed_by ms (happened control f)).failed (form_args (round_of control u v ms f))) n)
      | inr w ↦ rw w refl
    ]
  ]

  by_rounds : (u : ℕ) (ms : List ℕ) (f : List Entry) (rs : List ℕ) → IsOther f → list_any (is_of t r) (made_in_rounds u ms f rs) ≡ false
  by_rounds u ms f [] other = refl
  by_rounds u ms f (v ∷ rs) other = none_append t r (teams_made u v ms f) (made_in_rounds u ms f rs) (by_round u v ms f other) (by_rounds u ms f rs other)

  by_entry : (k : ℕ) (ts : List Team) (h : List Entry) (e : Entry) → IsOther (h ++ e ∷ []) → list_any (is_of t r) (made_by k ts h e) ≡ false
  by_entry k [] h e other = refl
  by_entry k (x ∷ xs) h e other =
      none_append t r (made_in_team k x.members h e) (made_by (suc k) xs h e)
      (by_rounds k x.members (h ++ e ∷ []) (filter (closes_now k x.members (happened control h) (happened control (h ++ e ∷ []))) (range_with_len 1 (most_joined k x.members (happened control (h ++ e ∷ []))))) other)
      (by_entry (suc k) xs h e other)

  -- the kind of a round stays
  before_too : (f es : List Entry) → IsOther (f ++ es) → IsOther f
  before_too f es other = by (opening_of t r (happened control f)) refl
    where
      now : happened control (f ++ es) ≡ happened control f ++ happened control es
      now = filter_map-append (λ (y : Entry). happens control y.image.0 y.event.line y.event.ask y.event.reply) f es

      by : (o : Option Opening) → opening_of t r (happened control f) ≡ o → IsOther f
      by None q = ap is_form q
      by (Some o) q =
          let s : opening_of t r (happened control (f ++ es)) ≡ Some o = ap (opening_of t r) now ∙ told_stays (joins_round t r) [] (happened control f) (happened control es) o q in
          ap is_form (q ∙ sym s) ∙ other

  from_entries : (ts : List Team) (h es : List Entry) → list_any (is_of t r) ts ≡ false → IsOther (h ++ es) → list_any (is_of t r) (teams_from ts h es) ≡ false
  from_entries ts h [] none other = none
  from_entries ts h (e ∷ es) none other =
      let rest : IsOther ((h ++ e ∷ []) ++ es) = ap (λ f. is_form (opening_of t r (happened control f))) (append_assoc h (e ∷ []) es) ∙ other in
      from_entries (ts ++ made_by 1 ts h e) (h ++ e ∷ []) es (none_append t r ts (made_by 1 ts h e) none (by_entry 1 ts h e (before_too (h ++ e ∷ []) es rest))) rest

  -- no team of the run was made by it
  pub not_made : (n : ℕ) (h : List Entry) → 0 < t → IsOther h → [] ≡ made_teams t r 1 (teams_after n h)
  not_made n h low other =
      let z : nat_eq 0 t ≡ false = ne_eqb 0 t (λ q. absurd (omega arith)) in
      let first : ((nat_eq 0 t && nat_eq 0 r) || false) ≡ false = rw z refl in
      sym (none_told t r 1 (teams_after n h) (from_entries _ [] h first other))

  -- it didn't close with a bad argument
  pub not_bad : (ms : List ℕ) (h : List Entry) → IsOther h → was_bad t r ms (closing control t r ms h) ≡ false
  not_bad ms h other = by (closing control t r ms h) refl
    where
      by : (o : Option (List Entry)) → closing control t r ms h ≡ o → was_bad t r ms o ≡ false
      by None q = refl
      by (Some f) q =
          let c = front_holds (λ g. has_closed ms t r (happened control g)) [] h f q in
          let o : is_form (opening_of t r (happened control f)) ≡ false = before_too f c.1 (ap (λ g. is_form (opening_of t r (happened control g))) c.2 ∙ other) in
          rw o refl
