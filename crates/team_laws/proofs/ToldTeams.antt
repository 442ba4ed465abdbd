-- A departure from a round is told no teams, or those that its round of FORM TEAM made.
use Rattle.std.proofs.Common.{◌≡◌, ℕ, zero, suc, ◌≤◌, true, List, [], ◌∷◌, ◌⊎◌, inl, inr, refl, ap, sym, ◌∙◌, subst, arith}
use Rattle.std.specs.Prelude.{ℤ, pos, Option, Some, None}
use Rattle.caf_events.specs.declared.reply.Reply.TheVariants as replies
use Rattle.caf_events.specs.declared.reply.FormedTeam.{FormedTeam}
use Rattle.caf_events.specs.declared.event.Entry.{Entry}
use Rattle.trace_theory.specs.Entries.{Each}
use Rattle.object_rules.specs.Happenings.{control, happened}
use Rattle.object_rules.specs.TeamRounds.{opening_of}
use Rattle.object_rules.specs.BoardTeams.{Team, teams_after, members_at, closing, is_form, teams_made, made_teams}
use Rattle.object_rules.specs.BoardRules.{leave_reply, control_result}
use Rattle.object_rules.specs.Answering.{is_one_of, are_teams}
use Rattle.team_laws.specs.Named.{IsNamed}
use Rattle.team_laws.proofs.Times.{times}
use Rattle.team_laws.proofs.Teams.{members_of_team}
use Rattle.team_laws.proofs.Rounds.{happened_append, closing_is, opening_stays}
use Rattle.team_laws.proofs.MadeTeams.{of_round, made_after}
use Rattle.team_laws.proofs.OnceMembers.{members_once}
use Rattle.team_laws.proofs.NamedTeams.{all_named}
use Rattle.team_laws.proofs.Departures.{Forms, made_or_none, made_are_teams, forms_opening, forms_status, status_there, told_none}

module _ (n : ℕ) (h : List Entry) (team round : ℕ) where
  abbrev ts : List Team
  ts = teams_after n h

  abbrev ms : List ℕ
  ms = members_at ts team

  abbrev status_by : List Entry → ℤ
  status_by f = control_result team round ms f (opening_of team round (happened control f))

  -- the teams that a departure with this status tells where it tells any: its round is one of FORM TEAM, the status is
  -- 0 or that an image failed, and the teams are such as it makes
  pub record FormsTeams (status : ℤ) (teams : List FormedTeam) : Type 0 where
    pub form : is_form (opening_of team round (happened control h)) ≡ true
    pub good : is_one_of (pos 0 ∷ pos 6001 ∷ []) status ≡ true
    pub right : are_teams ms teams ≡ true

  -- a round that was one of FORM TEAM at its close is one still
  form_stays : (f : List Entry) → closing control team round ms h ≡ Some f → Forms team round ms f → is_form (opening_of team round (happened control h)) ≡ true
  form_stays f closed forms =
      let c = closing_is control team round ms h f closed in
      let o = forms_opening team round ms f forms in
      let q = ap (happened control) c.1 ∙ happened_append control f c.0 in
      let at = ap (opening_of team round) q ∙ opening_stays (happened control f) (happened control c.0) team round o.0 o.1 in
      subst (λ z. is_form z ≡ true) (sym at) o.2

  -- the teams that the round made, where it made any, are those of its close; no image is twice a member of the round's
  -- team
  pub record AtClose : Type 0 where
    pub front : List Entry
    pub closed : closing control team round ms h ≡ Some front
    pub made : of_round team round ts ≡ teams_made team round ms front
    pub once : (k : ℕ) → times k ms ≤ 1

  pub made_at_close : 1 ≤ team → (of_round team round ts ≡ []) ⊎ AtClose
  made_at_close low = elim (made_after team round n h low) [
    | inl nil ↦ inl nil
    | inr m ↦ (
        let q : ms ≡ m.parent.members = ap (members_at ts) (sym m.number) ∙ members_of_team ts m.place m.parent m.there in
        inr (record {
          front = m.front;
          closed = ap (λ z. closing control team round z h) q ∙ m.closed;
          made = m.made ∙ ap (λ z. teams_made team round z m.front) (sym q);
          once = λ k. subst (λ z. times k z ≤ 1) (sym q) (members_once k n h m.place m.parent m.there);
        }))
  ]

  made_told : (f : List Entry) → closing control team round ms h ≡ Some f → AtClose → (made_teams team round 1 ts ≡ []) ⊎ FormsTeams (status_by f) (made_teams team round 1 ts)
  made_told f closed a =
      let same : a.front ≡ f = (let w : Some a.front ≡ Some f = sym a.closed ∙ closed in cc) in
      let made : of_round team round ts ≡ teams_made team round ms f = a.made ∙ ap (teams_made team round ms) same in
      elim (made_or_none team round ms f) [
        | inl nil ↦ inl (told_none team round 1 ts (made ∙ nil))
        | inr forms ↦ inr (record { form = form_stays f closed forms; good = forms_status team round ms f forms; right = made_are_teams team round ms f forms a.once 1 ts made })
      ]

-- a round that has closed is of a team, since one of its members has arrived
is_team : (n : ℕ) (h : List Entry) (team round : ℕ) (f : List Entry) → closing control team round (members_at (teams_after n h) team) h ≡ Some f → 1 ≤ team
is_team n h zero round f closed = let c = closing_is control 0 round [] h f closed in absurd (let w = c.2 in cc)
is_team n h (suc team) round f closed = omega arith

module _ (n : ℕ) (h : List Entry) (team round : ℕ) where
  pub teams_told : (f : List Entry) → closing control team round (ms n h team round) h ≡ Some f
      → (made_teams team round 1 (teams_after n h) ≡ []) ⊎ FormsTeams n h team round (status_by n h team round f) (made_teams team round 1 (teams_after n h))
  teams_told f closed = elim (made_at_close n h team round (is_team n h team round f closed)) [ inl nil ↦ inl (told_none team round 1 (teams_after n h) nil) | inr a ↦ made_told n h team round f closed a ]

  -- so for the reply itself
  pub left_status : (o : Option (List Entry)) (status : ℤ) (teams : List FormedTeam) → leave_reply n h team round o ≡ replies.Left status teams → is_one_of (pos 0 ∷ pos 6000 ∷ pos 6001 ∷ pos 6006 ∷ []) status ≡ true
  left_status None status teams e = let w : pos 0 ≡ status = cc in subst (λ z. is_one_of (pos 0 ∷ pos 6000 ∷ pos 6001 ∷ pos 6006 ∷ []) z ≡ true) w refl
  left_status (Some f) status teams e =
      let w : status_by n h team round f ≡ status = cc in
      subst (λ z. is_one_of (pos 0 ∷ pos 6000 ∷ pos 6001 ∷ pos 6006 ∷ []) z ≡ true) w (status_there team round (ms n h team round) f (opening_of team round (happened control f)))

  pub left_teams : (o : Option (List Entry)) → closing control team round (ms n h team round) h ≡ o → (status : ℤ) (teams : List FormedTeam) → leave_reply n h team round o ≡ replies.Left status teams
      → (teams ≡ []) ⊎ FormsTeams n h team round status teams
  left_teams None closed status teams e = inl (cc)
  left_teams (Some f) closed status teams e =
      let w : status_by n h team round f ≡ status = cc in
      let q : made_teams team round 1 (teams_after n h) ≡ teams = cc in
      subst (λ z. (z ≡ []) ⊎ FormsTeams n h team round status z) q (subst (λ z. (made_teams team round 1 (teams_after n h) ≡ []) ⊎ FormsTeams n h team round z (made_teams team round 1 (teams_after n h))) w (teams_told f closed))

  pub left_named : (o : Option (List Entry)) (status : ℤ) (teams : List FormedTeam) → leave_reply n h team round o ≡ replies.Left status teams → Each (IsNamed (teams_after n h)) teams
  left_named None status teams e = let q : [] ≡ teams = cc in subst (Each (IsNamed (teams_after n h))) q tt
  left_named (Some f) status teams e = let q : made_teams team round 1 (teams_after n h) ≡ teams = cc in subst (Each (IsNamed (teams_after n h))) q (all_named (teams_after n h) team round)
