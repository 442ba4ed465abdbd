-- The reply to a departure from a round answers it.
use Rattle.std.proofs.Common.{◌≡◌, ℕ, true, ◌&&◌, ◌||◌, IsTrue, List, [], ◌∷◌, inl, inr, length, refl, ap, sym, ◌∙◌, subst}
use Rattle.std.specs.Prelude.{ℤ, pos, nat_eq, Option, Some, None, is_some}
use Rattle.std.proofs.lemmas.Bool.{and_parts, and_from, or_right}
use Rattle.caf_base.specs.declared.place.TeamNo.{TeamNo}
use Rattle.caf_events.specs.declared.ask.Ask.{Ask}
use Rattle.caf_events.specs.declared.ask.Ask.TheVariants as asks
use Rattle.caf_events.specs.declared.reply.Reply.{Reply}
use Rattle.caf_events.specs.declared.reply.Reply.TheVariants as replies
use Rattle.caf_events.specs.declared.reply.FormedTeam.{FormedTeam}
use Rattle.caf_events.specs.declared.round.Arriving.{Arriving}
use Rattle.caf_events.specs.declared.round.Arriving.TheVariants as arrivings
use Rattle.caf_events.specs.declared.round.RoundKind.{RoundKind}
use Rattle.caf_events.specs.declared.round.RoundKind.TheVariants as kinds
use Rattle.caf_events.specs.declared.event.Entry.{Entry}
use Rattle.trace_theory.specs.Machines.{Said}
use Rattle.object_rules.specs.Happenings.{control, happened, kind_of}
use Rattle.object_rules.specs.TeamRounds.{opening_of}
use Rattle.object_rules.specs.BoardTeams.{Team, teams_after, members_at, closing, is_form, is_form_kind, made_teams}
use Rattle.object_rules.specs.BoardRules.{is_image, fits_board, can_come, board_ready, board_reply, leave_reply, control_result}
use Rattle.object_rules.specs.Answering.{answers, forms_team, formed_last, may_have_teams, are_teams, is_one_of, last_event, members_told}
use Rattle.object_rules.specs.Cells.{Declared}
use Rattle.answer_laws.proofs.RoundKinds.{Alike, InRound, in_round}
use Rattle.team_laws.proofs.Departures.{status_there}
use Rattle.team_laws.proofs.ToldTeams.{teams_told}
use Rattle.answer_laws.proofs.Joined.{Joined, ArrivedAt, arrived_at}

-- an arrival in a round of FORM TEAM came to FORM TEAM
form_alike : (a : Arriving) (k : RoundKind) → is_form_kind k ≡ true → Alike (kind_of a) k → (team : TeamNo) → forms_team (asks.Arrive team a) ≡ true
form_alike (arrivings.Form number new_index) k h alike team = refl
form_alike arrivings.Sync kinds.Form h (inl e) team = absurd (cc)
form_alike arrivings.Sync kinds.Form h (inr e) team = absurd (cc)
form_alike arrivings.Change kinds.Form h (inl e) team = absurd (cc)
form_alike arrivings.Change kinds.Form h (inr e) team = absurd (cc)
form_alike arrivings.End kinds.Form h (inl e) team = absurd (cc)
form_alike arrivings.End kinds.Form h (inr e) team = absurd (cc)
form_alike (arrivings.Allocate list) kinds.Form h (inl e) team = absurd (cc)
form_alike (arrivings.Allocate list) kinds.Form h (inr e) team = absurd (cc)
form_alike (arrivings.Deallocate list) kinds.Form h (inl e) team = absurd (cc)
form_alike (arrivings.Deallocate list) kinds.Form h (inr e) team = absurd (cc)
form_alike a k h alike team = absurd (cc)

module _ (s : List Declared) (n : ℕ) (h : List Entry) (i : ℕ) (es : List (Said Ask Reply)) (team : TeamNo) (round : ℕ) (joined : Joined n h i es (asks.Leave team round)) where
  abbrev ts : List Team
  ts = teams_after n h

  abbrev ms : List ℕ
  ms = members_at ts team.0

  abbrev arrived : ArrivedAt joined.arrival.ask joined.arrival.reply team round
  arrived = arrived_at joined.arrival.ask joined.arrival.reply team round joined.departs

  -- the round that the image joined is one of its arrival's kind
  own_round : InRound control team.0 round (kind_of arrived.arriving) h
  own_round =
      let x = joined.entry in
      let a : x.event.ask ≡ asks.Arrive team arrived.arriving = ap (λ (z : Said Ask Reply). z.ask) joined.is ∙ arrived.asked in
      let r : x.event.reply ≡ replies.Round round = ap (λ (z : Said Ask Reply). z.reply) joined.is ∙ arrived.told in
      let due : replies.Round round ≡ board_reply n joined.front x.image.0 (asks.Arrive team arrived.arriving) = sym r ∙ joined.turn.reply ∙ ap (board_reply n joined.front x.image.0) a in
      subst (InRound control team.0 round (kind_of arrived.arriving)) (sym joined.split)
      (in_round control team.0 x.image.0 x.event.line (kind_of arrived.arriving) joined.front x (rw (a, r) refl) round due joined.back)

  -- where it is one of FORM TEAM the image came to that
  came_to_form : is_form (opening_of team.0 round (happened control h)) ≡ true → formed_last (last_event None es) ≡ true
  came_to_form form =
      let kind : is_form_kind own_round.opening.kind ≡ true = subst (λ o. is_form o ≡ true) own_round.opens form in
      let fits = form_alike arrived.arriving own_round.opening.kind kind own_round.alike team in
      subst (λ z. formed_last z ≡ true) (sym joined.last) (subst (λ z. forms_team z ≡ true) (sym arrived.asked) fits)

  abbrev told_teams : List FormedTeam
  told_teams = made_teams team.0 round 1 (teams_after n h)

  abbrev status_by : List Entry → ℤ
  status_by f = control_result team.0 round ms f (opening_of team.0 round (happened control f))

  abbrev TeamsRight : ℤ → List FormedTeam → Type 0
  TeamsRight status teams = (nat_eq (length teams) 0 || (may_have_teams status (last_event None es) && are_teams (members_told n es team.0) teams)) ≡ true

  teams_right : members_told n es team.0 ≡ ms → (f : List Entry) → closing control team.0 round ms h ≡ Some f → TeamsRight (status_by f) told_teams
  teams_right told f closed = elim (teams_told n h team.0 round f closed) [
    | inl nil ↦ subst (TeamsRight (status_by f)) (sym nil) refl
    | inr t ↦ or_right (nat_eq (length told_teams) 0) (may_have_teams (status_by f) (last_event None es) && are_teams (members_told n es team.0) told_teams)
        (and_from (may_have_teams (status_by f) (last_event None es)) (are_teams (members_told n es team.0) told_teams)
        (and_from (formed_last (last_event None es)) (is_one_of (pos 0 ∷ pos 6001 ∷ []) (status_by f)) (came_to_form t.form) t.good)
        (subst (λ z. are_teams z told_teams ≡ true) (sym told) t.right))
  ]

  pub leave_answers : members_told n es team.0 ≡ ms → IsTrue (board_ready n h i (asks.Leave team round)) → answers s n es (asks.Leave team round) (board_reply n h i (asks.Leave team round)) ≡ true
  leave_answers told ready = by told (closing control team.0 round ms h) refl (and_parts (is_image n i && fits_board n h i (asks.Leave team round)) (can_come n h i (asks.Leave team round)) ready).1
    where
      by : members_told n es team.0 ≡ ms → (o : Option (List Entry)) → closing control team.0 round ms h ≡ o → is_some o ≡ true → answers s n es (asks.Leave team round) (leave_reply n h team.0 round o) ≡ true
      by told None closed there = absurd (cc)
      by told (Some f) closed there =
          and_from (is_one_of (pos 0 ∷ pos 6000 ∷ pos 6001 ∷ pos 6006 ∷ []) (status_by f)) (nat_eq (length told_teams) 0 || (may_have_teams (status_by f) (last_event None es) && are_teams (members_told n es team.0) told_teams))
          (status_there team.0 round ms f (opening_of team.0 round (happened control f))) (teams_right told f closed)
