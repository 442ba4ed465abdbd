-- The teams of a run are the first ones of those of a run that is ahead of it.
use Rattle.std.proofs.Common.{◌≡◌, ℕ, zero, suc, ◌+◌, Bool, true, false, nat_eq, ◌&&◌, not, cond, List, [], ◌∷◌, ◌++◌, length, inl, inr, refl, ap, sym, ◌∙◌, arith}
use Rattle.std.specs.Prelude.{map}
use Rattle.std.specs.List.{filter, range_with_len}
use Rattle.std.proofs.lemmas.List.{append-nil}
use Rattle.std.proofs.lemmas.Bool.{cases_Bool, and_parts, eqb-true}
use Rattle.caf_events.specs.declared.event.Entry.{Entry}
use Rattle.object_rules.specs.Cells.{Declared}
use Rattle.object_rules.specs.FormedTeams.{Members}
use Rattle.object_rules.specs.Happenings.{control, happened}
use Rattle.object_rules.specs.ImagePairs.{names}
use Rattle.object_rules.specs.TeamRounds.{has_closed}
use Rattle.object_rules.specs.BoardTeams.{Team, told_team, teams_after, members_at, made_teams}
use Rattle.team_laws.proofs.Departures.{told_none}
use Rattle.team_laws.proofs.Lists.{filter_unmapped}
use Rattle.team_laws.proofs.MadeTeams.{is_of_round, of_round}
use Rattle.team_laws.proofs.Teams.{members_stay}
use Rattle.trace_theory.proofs.Filters.{filter_append}
use Rattle.core_runs.specs.CoreRuns.{at_board}
use Rattle.round_words.specs.RoundRuns.{IsAhead, IsRoundRun, team_members}
use Rattle.round_words.proofs.BoardWords.{happened_board}
use Rattle.round_words.proofs.Ahead.{same_ahead}
use Rattle.formed_teams.proofs.RoundLists.{filter_grows, closed_falls}
use Rattle.formed_teams.proofs.RoundTeams.{first_team, first_members, as_team, made_said, rounds_said, rounds_append}
use Rattle.formed_teams.proofs.TeamsTold.{most, closed, closed_more, teams_told}

module _ (team k : ℕ) where
  -- teams that other rounds made
  made_append : (i : ℕ) (xs ys : List Team) → made_teams team k i (xs ++ ys) ≡ made_teams team k i xs ++ made_teams team k (i + length xs) ys
  made_append i [] ys = let e : i + 0 ≡ i = omega arith in ap (λ z. made_teams team k z ys) (sym e)
  made_append i (x ∷ xs) ys =
      let e : suc i + length xs ≡ i + suc (length xs) = omega arith in
      elim (cases_Bool (nat_eq x.parent team && nat_eq x.round k)) [
        | inl y ↦ rw y (ap (λ z. told_team i x ∷ z) (made_append (suc i) xs ys ∙ ap (λ z. made_teams team k (suc i) xs ++ made_teams team k z ys) e))
        | inr f ↦ rw f (made_append (suc i) xs ys ∙ ap (λ z. made_teams team k (suc i) xs ++ made_teams team k z ys) e)
      ]

  made_front : (xs ys : List Team) → of_round team k ys ≡ [] → made_teams team k 1 (xs ++ ys) ≡ made_teams team k 1 xs
  made_front xs ys none = made_append 1 xs ys ∙ ap (λ z. made_teams team k 1 xs ++ z) (told_none team k (1 + length xs) ys none) ∙ append-nil (made_teams team k 1 xs)

  other_round : (r : ℕ) (b : Bool) (xs : List Members) → (nat_eq 1 team && nat_eq r k) ≡ false → of_round team k (cond b (map (as_team r) xs) []) ≡ []
  other_round r true xs other = filter_unmapped (is_of_round team k) (as_team r) (λ x. other) xs
  other_round r false xs other = refl

module _ (s : List Declared) (n : ℕ) (u w : List Entry) (run_u : IsRoundRun s n u) (run_w : IsRoundRun s n w) (ahead : IsAhead u w) where
  abbrev ms : List ℕ
  ms = range_with_len 1 n

  -- the rounds of the initial team that have closed in u alone
  abbrev newer : ℕ → Bool
  newer r = not (closed s n u run_u (at_board w) r) && closed s n u run_u (at_board u) r

  abbrev pub new_teams : List Team
  new_teams = rounds_said n u (filter newer (range_with_len 1 (most s n u run_u)))

  -- THE TEAMS OF BOTH
  pub teams_front : teams_after n (at_board u) ≡ teams_after n (at_board w) ++ new_teams
  teams_front =
      let old = filter (closed s n u run_u (at_board w)) (range_with_len 1 (most s n u run_u)) in
      let more = filter_grows (closed s n u run_u (at_board w)) (closed s n u run_u (at_board u)) (closed_falls ms 1 (happened control (at_board w))) (closed_more s n u run_u u w run_u run_w ahead) 1 (most s n u run_u) in
      teams_told s n u run_u u run_u (same_ahead u u refl)
      ∙ ap (λ z. first_team n ∷ rounds_said n u z) more
      ∙ ap (λ z. first_team n ∷ z) (rounds_append n u old (filter newer (range_with_len 1 (most s n u run_u))))
      ∙ ap (λ z. z ++ new_teams) (sym (teams_told s n u run_u w run_w ahead))

  -- a team that an image is a member of has the same members in both
  pub members_ahead : (i team : ℕ) → names i (team_members n w team) ≡ true → team_members n w team ≡ team_members n u team
  members_ahead i team named = sym (ap (λ ts. members_at ts team) teams_front ∙ members_stay (teams_after n (at_board w)) new_teams i team named)

  module _ (team k : ℕ) (done : has_closed (team_members n w team) team k (happened control w) ≡ true) where
    not_newer : (r : ℕ) → newer r ≡ true → (nat_eq 1 team && nat_eq r k) ≡ false
    not_newer r h = elim (cases_Bool (nat_eq 1 team && nat_eq r k)) [
      | inr n ↦ n
      | inl y ↦ absurd (
          let p = and_parts (nat_eq 1 team) (nat_eq r k) y in
          let is_team = eqb-true 1 team p.0 in
          let is_round = eqb-true r k p.1 in
          let here : has_closed ms 1 k (happened control (at_board w)) ≡ true =
          ap (λ z. has_closed z 1 k (happened control (at_board w))) (sym (first_members n w))
          ∙ ap (has_closed (team_members n w 1) 1 k) (happened_board control w)
          ∙ ap (λ z. has_closed (team_members n w z) z k (happened control w)) is_team
          ∙ done in
          let open_ = (and_parts (not (closed s n u run_u (at_board w) r)) (closed s n u run_u (at_board u) r) h).0 in
          let closed_ : closed s n u run_u (at_board w) r ≡ true = ap (closed s n u run_u (at_board w)) is_round ∙ here in
          let no : not true ≡ true = ap not (sym closed_) ∙ open_ in
          cc)
    ]

    new_none : (a m : ℕ) → of_round team k (rounds_said n u (filter newer (range_with_len a m))) ≡ []
    new_none a zero = refl
    new_none a (suc m) = elim (cases_Bool (newer a)) [
      | inr f ↦ rw f (new_none (a + 1) m)
      | inl y ↦ (
          let rest = rounds_said n u (filter newer (range_with_len (a + 1) m)) in
          rw y (filter_append (is_of_round team k) (made_said n u a) rest ∙ ap (λ z. z ++ of_round team k rest) (other_round team k a _ _ (not_newer a y)) ∙ new_none (a + 1) m))
    ]

    -- a round that has closed has made the same teams in both
    pub made_same : made_teams team k 1 (teams_after n (at_board u)) ≡ made_teams team k 1 (teams_after n (at_board w))
    made_same = ap (made_teams team k 1) teams_front ∙ made_front team k (teams_after n (at_board w)) new_teams (new_none 1 (most s n u run_u))
