-- What a departure hears is told by what the images say in all.
use Rattle.std.proofs.Common.{◌≡◌, ◌≤◌, ℕ, true, false, IsTrue, nat_le, nat_lt, ◌&&◌, List, ap, sym, ◌∙◌, subst}
use Rattle.std.specs.Prelude.{Option, Some, is_some, filter_map}
use Rattle.std.specs.List.{list_any}
use Rattle.std.proofs.lemmas.Bool.{and_parts, leb-true}
use Rattle.caf_base.specs.declared.place.TeamNo.{TeamNo}
use Rattle.caf_base.specs.declared.value.Value.{Value}
use Rattle.caf_events.specs.declared.ask.Ask.{Ask}
use Rattle.caf_events.specs.declared.ask.Ask.TheVariants as asks
use Rattle.caf_events.specs.declared.reply.Reply.TheVariants as replies
use Rattle.caf_events.specs.declared.event.Entry.{Entry}
use Rattle.object_rules.specs.Cells.{Declared}
use Rattle.object_rules.specs.Happenings.{Class, control, collective, happened}
use Rattle.object_rules.specs.ImagePairs.{names}
use Rattle.object_rules.specs.TeamRounds.{arrivals, Opening, opening_of, Missed, result_of}
use Rattle.object_rules.specs.FormedTeams.{is_bad_form}
use Rattle.object_rules.specs.BoardTeams.{teams_after, members_at, closing, round_of, form_arg, form_args, made_teams, is_form_kind}
use Rattle.object_rules.specs.BoardRules.{has_joined, board_ready, board_reply, control_result, collective_result, collected, taken_by, gathered, parts_of, leave_reply, take_reply}
use Rattle.core_runs.specs.CoreRuns.{at_board, said_by}
use Rattle.round_words.proofs.Brought.{brought}
use Rattle.round_words.proofs.Closing.{ClosedBy, closed_by, some_closed}
use Rattle.round_words.proofs.ClosedRounds.{opening, kind, missed, brings}
use Rattle.round_words.proofs.Departing.{departs}
use Rattle.round_words.proofs.RoundStops.{departs_closed, departs_joined, joined_member}
use Rattle.round_words.specs.RoundRuns.{IsAhead, IsRoundClass, IsRoundRun, arrivals_said, team_members}
use Rattle.formed_teams.proofs.TeamsAhead.{members_ahead, made_same}

-- a round from which an image departs has a number from 1
joined_low : (class : Class) (n : ℕ) (h : List Entry) (i team k : ℕ) → has_joined class n h i team k ≡ true → 1 ≤ k
joined_low class n h i team k e =
    let p = (and_parts (names i (members_at (teams_after n h) team) && nat_le 1 k) (nat_le k (arrivals team i (happened class h))) e).0 in
    leb-true 1 k (and_parts (names i (members_at (teams_after n h) team)) (nat_le 1 k) p).1

-- the values that an image gives to a collective subroutine
abbrev pub values_given : ℕ → Ask → Option (List Value)
values_given j a = gathered a

module _ (s : List Declared) (n : ℕ) (t g : List Entry) (run_t : IsRoundRun s n t) (run : IsRoundRun s n g) (ahead : IsAhead t g) (i : ℕ) (team : TeamNo) (k : ℕ) where
  abbrev ms : List ℕ
  ms = team_members n t team.0

  abbrev h : List Entry
  h = at_board g

  -- which members never arrive at the round
  abbrev pub Missing : Class → Missed
  Missing class = record { stopped = list_any (λ m. nat_lt (arrivals_said class team.0 m (said_by m t)) k) ms; failed = false }

  module _ (class : Class) (round : IsRoundClass class) (ready : IsTrue (board_ready n h i (departs class team k))) where
    low : 1 ≤ k
    low = joined_low class n h i team.0 k (departs_joined class round n h i team k ready)

    are : team_members n g team.0 ≡ ms
    are = members_ahead s n t g run_t run ahead i team.0 (joined_member class n h i team.0 k (departs_joined class round n h i team k ready))

    close : ClosedBy class team.0 k ms g
    close = closed_by class team.0 k ms g (subst (λ z. is_some (closing class team.0 k z h) ≡ true) are (departs_closed class round n h i team k ready))

  -- the teams that the round made
  made : IsTrue (board_ready n h i (asks.Leave team k)) → made_teams team.0 k 1 (teams_after n h) ≡ made_teams team.0 k 1 (teams_after n (at_board t))
  made ready = sym (made_same s n t g run_t run ahead team.0 k (some_closed control team.0 k (team_members n g team.0) g (departs_closed control tt n h i team k ready)))

  -- THE REPLY OF A DEPARTURE from a round of image control statements, by the round's kind and what its members give to
  -- FORM TEAM
  pub leave_is : IsTrue (board_ready n h i (asks.Leave team k))
      → (p : Opening) × (opening_of team.0 k (happened control t) ≡ Some p)
      × (board_reply n h i (asks.Leave team k)
      ≡ replies.Left (result_of (Missing control) (is_form_kind p.kind && is_bad_form (filter_map (λ m. brought control form_arg team.0 m k (said_by m t)) ms))) (made_teams team.0 k 1 (teams_after n (at_board t))))
  leave_is ready =
      let c = close control tt ready in
      let f = at_board c.front in
      let here = are control tt ready in
      let l = low control tt ready in
      let o = opening s n t g run_t run ahead control tt team.0 k l ms here c in
      let p = kind s n t g run_t run ahead control tt team.0 k l ms here c in
      let bad = is_bad_form (form_args (round_of control team.0 k ms f)) in
      let told = made_teams team.0 k 1 (teams_after n h) in (
        p.0,
        p.1,
        ap (λ z. leave_reply n h team.0 k (closing control team.0 k z h)) here
            ∙ ap (leave_reply n h team.0 k) c.is
            ∙ ap (λ z. replies.Left (control_result team.0 k z f (opening_of team.0 k (happened control f))) told) here
            ∙ ap (λ z. replies.Left (control_result team.0 k ms f z) told) o.1
            ∙ ap (λ m. replies.Left (result_of m (is_form_kind o.0.kind && bad)) told) (missed s n t g run_t run ahead control tt team.0 k l ms here c)
            ∙ ap (λ z. replies.Left (result_of (Missing control) (is_form_kind z && bad)) told) p.2
            ∙ ap (λ z. replies.Left (result_of (Missing control) (is_form_kind p.0.kind && is_bad_form z)) told) (brings s n t g run_t run ahead control tt team.0 k l ms here c form_arg)
            ∙ ap (replies.Left (result_of (Missing control) (is_form_kind p.0.kind && is_bad_form (filter_map (λ m. brought control form_arg team.0 m k (said_by m t)) ms)))) (made ready),
      )

  -- and of one from a collective subroutine, by the round's kind and what its members bring
  pub take_is : IsTrue (board_ready n h i (asks.Take team k))
      → (p : Opening) × (opening_of team.0 k (happened collective t) ≡ Some p)
      × (board_reply n h i (asks.Take team k) ≡ taken_by (Missing collective) (collected p.kind (filter_map (λ m. brought collective values_given team.0 m k (said_by m t)) ms)))
  take_is ready =
      let c = close collective tt ready in
      let f = at_board c.front in
      let here = are collective tt ready in
      let l = low collective tt ready in
      let o = opening s n t g run_t run ahead collective tt team.0 k l ms here c in
      let p = kind s n t g run_t run ahead collective tt team.0 k l ms here c in (
        p.0,
        p.1,
        ap (λ z. take_reply n h team.0 k (closing collective team.0 k z h)) here
            ∙ ap (take_reply n h team.0 k) c.is
            ∙ ap (λ z. collective_result team.0 k z f (opening_of team.0 k (happened collective f))) here
            ∙ ap (collective_result team.0 k ms f) o.1
            ∙ ap (λ m. taken_by m (collected o.0.kind (parts_of (round_of collective team.0 k ms f)))) (missed s n t g run_t run ahead collective tt team.0 k l ms here c)
            ∙ ap (λ z. taken_by (Missing collective) (collected z (parts_of (round_of collective team.0 k ms f)))) p.2
            ∙ ap (λ z. taken_by (Missing collective) (collected p.0.kind z)) (brings s n t g run_t run ahead collective tt team.0 k l ms here c values_given),
      )
