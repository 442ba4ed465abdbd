-- The reply that is due at the board answers its ask.
use Rattle.std.proofs.Common.{◌≡◌, ℕ, suc, Bool, true, List, length, refl, sym, subst, arith}
use Rattle.std.specs.Prelude.{slice_get, ◌-◌}
use Rattle.caf_base.specs.declared.place.TeamNo.{TeamNo}
use Rattle.caf_base.specs.declared.place.Place.TheVariants as places
use Rattle.caf_events.specs.declared.ask.Ask.{Ask}
use Rattle.caf_events.specs.declared.ask.Ask.TheVariants as asks
use Rattle.caf_events.specs.declared.reply.Reply.{Reply}
use Rattle.caf_events.specs.declared.round.RoundKind.TheVariants as kinds
use Rattle.caf_events.specs.declared.event.Entry.{Entry}
use Rattle.caf_events.specs.Asks.{place_of}
use Rattle.trace_theory.specs.Machines.{Said}
use Rattle.object_rules.specs.Happenings.{control, collective, images, kind_of, happened, has_stopped, has_failed}
use Rattle.object_rules.specs.TeamRounds.{arrivals, opening_of}
use Rattle.object_rules.specs.ImagePairs.{pairs_of, at_pairing}
use Rattle.object_rules.specs.Constructs.{construct_after}
use Rattle.object_rules.specs.BoardTeams.{teams_after, members_at}
use Rattle.object_rules.specs.BoardRules.{board_reply, indices_from}
use Rattle.object_rules.specs.Answering.{answers, are_indices, members_told}
use Rattle.object_rules.specs.Cells.{Declared}
use Rattle.answer_laws.specs.Told.{knows_team, knows_team_of}
use Rattle.answer_laws.proofs.Indices.{indices_rise}
use Rattle.answer_laws.proofs.Statuses.{joined, unpair_is, enter_is, image_is}

module _ (s : List Declared) (n : ℕ) (h : List Entry) (i : ℕ) (es : List (Said Ask Reply)) where
  indices_answer : (test : ℕ → Bool) (t : ℕ) → members_told n es t ≡ members_at (teams_after n h) t → are_indices 0 (length (members_told n es t)) (indices_from 1 test (members_at (teams_after n h) t)) ≡ true
  indices_answer test t e =
      let ms = members_at (teams_after n h) t in
      subst (λ z. are_indices 0 (length z) (indices_from 1 test ms) ≡ true) (sym e) (indices_rise test (length ms) 0 1 ms (omega arith) (omega arith))

  pub board_answers : ((t : ℕ) → knows_team es t ≡ true → members_told n es t ≡ members_at (teams_after n h) t)
      → (a : Ask) → place_of a ≡ places.Board → knows_team_of es a ≡ true
      → ((team : TeamNo) (round : ℕ) → a ≡ asks.Leave team round → answers s n es (asks.Leave team round) (board_reply n h i (asks.Leave team round)) ≡ true)
      → ((team : TeamNo) (round : ℕ) → a ≡ asks.Take team round → answers s n es (asks.Take team round) (board_reply n h i (asks.Take team round)) ≡ true)
      → answers s n es a (board_reply n h i a) ≡ true
  board_answers told (asks.Arrive team arriving) place known leave take =
      let round = suc (arrivals team.0 i (happened control h)) in
      joined (λ r. answers s n es (asks.Arrive team arriving) r ≡ true) (kind_of arriving) round (opening_of team.0 round (happened control h)) (λ r. refl) (λ image line. refl)
  board_answers told (asks.Leave team round) place known leave take = leave team round refl
  board_answers told (asks.Gather team op root kind values) place known leave take =
      let round = suc (arrivals team.0 i (happened collective h)) in
      joined (λ r. answers s n es (asks.Gather team op root kind values) r ≡ true) (kinds.Collective op root kind (length values)) round (opening_of team.0 round (happened collective h)) (λ r. refl) (λ image line. refl)
  board_answers told (asks.Take team round) place known leave take = take team round refl
  board_answers told (asks.Pair named) place known leave take = refl
  board_answers told asks.Unpair place known leave take = unpair_is i (at_pairing i (pairs_of i (happened images h)) (happened images h))
  board_answers told (asks.Enter construct) place known leave take = enter_is (construct_after construct h)
  board_answers told (asks.Exit construct) place known leave take = refl
  board_answers told asks.Gone place known leave take = refl
  board_answers told (asks.Stop code) place known leave take = refl
  board_answers told (asks.Failed team) place known leave take = indices_answer (λ m. has_failed m (happened control h)) team.0 (told team.0 known)
  board_answers told (asks.Stopped team) place known leave take = indices_answer (λ m. has_stopped m (happened control h)) team.0 (told team.0 known)
  board_answers told (asks.Status team index) place known leave take = image_is (happened control h) (slice_get (members_at (teams_after n h) team.0) (index - 1))
  board_answers told a place known leave take = absurd (cc)
