-- Each reply of a lawful trace names teams as they are at the board.
use Rattle.std.proofs.Common.{◌≡◌, ℕ, true, List, [], ◌∷◌, ◌++◌, length, refl, ap, sym, ◌∙◌, subst}
use Rattle.std.specs.Prelude.{suc, ℤ, map, Option, Some, None}
use Rattle.caf_base.specs.declared.place.Place.{Place}
use Rattle.caf_base.specs.declared.place.Place.TheVariants as places
use Rattle.caf_base.specs.declared.value.Value.{Value}
use Rattle.caf_events.specs.declared.ask.Ask.{Ask}
use Rattle.caf_events.specs.declared.ask.Ask.TheVariants as asks
use Rattle.caf_events.specs.declared.reply.Reply.{Reply}
use Rattle.caf_events.specs.declared.reply.Reply.TheVariants as replies
use Rattle.caf_events.specs.declared.reply.FormedTeam.{FormedTeam}
use Rattle.caf_events.specs.declared.round.RoundKind.{RoundKind}
use Rattle.caf_events.specs.declared.round.RoundKind.TheVariants as kinds
use Rattle.caf_events.specs.declared.event.Entry.{Entry}
use Rattle.caf_events.specs.Asks.{place_of}
use Rattle.trace_theory.specs.Entries.{Each}
use Rattle.trace_theory.proofs.Filters.{each_filter}
use Rattle.object_rules.specs.Happenings.{Class, control, collective, kind_of, happened}
use Rattle.object_rules.specs.TeamRounds.{Missed, Opening, arrivals, opening_of, missed_by}
use Rattle.object_rules.specs.BoardTeams.{Team, teams_after, members_at, closing, round_of}
use Rattle.object_rules.specs.BoardRules.{board_reply, arrival_reply, leave_reply, take_reply, taken_by, collective_result, collected, parts_of}
use Rattle.object_rules.specs.Answering.{answers}
use Rattle.object_rules.specs.Cells.{Declared}
use Rattle.core_runs.specs.Lists.{said}
use Rattle.core_runs.specs.CoreRuns.{of_image, at_board, said_by}
use Rattle.core_runs.specs.Lawful.{IsLawfulTrace}
use Rattle.team_laws.proofs.Lists.{each_split}
use Rattle.answer_laws.proofs.Served.{board_turn, board_split}
use Rattle.answer_laws.proofs.Elsewhere.{memory_answered, own_answered}
use Rattle.answer_laws.proofs.Statuses.{joined}
use Rattle.team_laws.proofs.Teams.{teams_stay}
use Rattle.team_laws.proofs.NamedTeams.{all_named}
use Rattle.answer_laws.proofs.KnownTeams.{TellsTeams, tells_stays}

module _ (ts : List Team) where
  arrival_tells : (class : Class) (h : List Entry) (i team : ℕ) (kind : RoundKind) → TellsTeams ts (arrival_reply class h i team kind)
  arrival_tells class h i team kind = joined (TellsTeams ts) kind (suc (arrivals team i (happened class h))) (opening_of team (suc (arrivals team i (happened class h))) (happened class h)) (λ r. tt) (λ image line. tt)

  taken_tells : (m : Missed) (vs : Option (List Value)) → TellsTeams ts (taken_by m vs)
  taken_tells m None = tt
  taken_tells m (Some vs) = tt

  result_tells : (team round : ℕ) (members : List ℕ) (f : List Entry) (o : Option Opening) → TellsTeams ts (collective_result team round members f o)
  result_tells team round members f None = tt
  result_tells team round members f (Some o) = taken_tells (missed_by members (happened collective f)) (collected o.kind (parts_of (round_of collective team round members f)))

module _ (n : ℕ) (h : List Entry) where
  leave_tells : (team round : ℕ) (f : Option (List Entry)) → TellsTeams (teams_after n h) (leave_reply n h team round f)
  leave_tells team round None = tt
  leave_tells team round (Some f) = all_named (teams_after n h) team round

  take_tells : (team round : ℕ) (f : Option (List Entry)) → TellsTeams (teams_after n h) (take_reply n h team round f)
  take_tells team round None = tt
  take_tells team round (Some f) = result_tells (teams_after n h) team round (members_at (teams_after n h) team) f (opening_of team round (happened collective f))

  board_tells : (i : ℕ) (a : Ask) → TellsTeams (teams_after n h) (board_reply n h i a)
  board_tells i (asks.Arrive team arriving) = arrival_tells (teams_after n h) control h i team.0 (kind_of arriving)
  board_tells i (asks.Leave team round) = leave_tells team.0 round (closing control team.0 round (members_at (teams_after n h) team.0) h)
  board_tells i (asks.Gather team op root kind values) = arrival_tells (teams_after n h) collective h i team.0 (kinds.Collective op root kind (length values))
  board_tells i (asks.Take team round) = take_tells team.0 round (closing collective team.0 round (members_at (teams_after n h) team.0) h)
  board_tells i a = tt

-- no reply but one of the board names teams
left_at_board : (s : List Declared) (n : ℕ) (a : Ask) (status : ℤ) (teams : List FormedTeam) → answers s n [] a (replies.Left status teams) ≡ true → place_of a ≡ places.Board
left_at_board s n (asks.Leave team round) status teams h = refl
left_at_board s n a status teams h = absurd (cc)

tells_elsewhere : (s : List Declared) (n : ℕ) (a : Ask) (ts : List Team) (r : Reply) → answers s n [] a r ≡ true → (place_of a ≡ places.Board → ⊥) → TellsTeams ts r
tells_elsewhere s n a ts (replies.Left status teams) h other = absurd (other (left_at_board s n a status teams h))
tells_elsewhere s n a ts r h other = tt

each_said : (ts : List Team) (es : List Entry) → Each (λ x. TellsTeams ts x.event.reply) es → Each (λ e. TellsTeams ts e.reply) (map (λ (x : Entry). said x.event) es)
each_said ts [] h = tt
each_said ts (e ∷ es) h = (h.0, each_said ts es h.1)

module _ (s : List Declared) (n : ℕ) where
  tells_at : (before after : List Entry) (x : Entry) → IsLawfulTrace s n (before ++ x ∷ after) → (p : Place) → place_of x.event.ask ≡ p → TellsTeams (teams_after n (at_board (before ++ x ∷ after))) x.event.reply
  tells_at before after x l places.Board e =
      let ts = teams_after n (at_board before) in
      let turn = board_turn s n before after x l e in
      let now = subst (TellsTeams ts) (sym turn.reply) (board_tells n (at_board before) x.image.0 x.event.ask) in
      let more = teams_stay n (at_board before) (x ∷ at_board after) in
      subst (λ z. TellsTeams z x.event.reply) (sym (ap (teams_after n) (board_split before after x e) ∙ more.1)) (tells_stays ts more.0 x.event.reply now)
  tells_at before after x l (places.Memory owner) e =
      tells_elsewhere s n x.event.ask (teams_after n (at_board (before ++ x ∷ after))) x.event.reply (memory_answered s n before after x l [] owner e) (λ b. (let w : places.Memory owner ≡ places.Board = sym e ∙ b in cc))
  tells_at before after x l places.Own e =
      tells_elsewhere s n x.event.ask (teams_after n (at_board (before ++ x ∷ after))) x.event.reply (own_answered s n before after x l [] e) (λ b. (let w : places.Own ≡ places.Board = sym e ∙ b in cc))

  -- what an image heard tells the teams as they are at the board
  pub heard_teams : (t : List Entry) → IsLawfulTrace s n t → (i : ℕ) → Each (λ e. TellsTeams (teams_after n (at_board t)) e.reply) (said_by i t)
  heard_teams t l i =
      let ts = teams_after n (at_board t) in
      let all : Each (λ x. TellsTeams ts x.event.reply) t = each_split (λ (x : Entry). TellsTeams ts x.event.reply) t
      (λ before after x e. subst (λ z. TellsTeams (teams_after n (at_board z)) x.event.reply) (sym e) (tells_at before after x (subst (IsLawfulTrace s n) e l) (place_of x.event.ask) refl)) in
      each_said ts (of_image i t) (each_filter (λ (x : Entry). TellsTeams ts x.event.reply) _ t all)
