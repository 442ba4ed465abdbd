-- In a lawful trace each reply answers its ask.
use Rattle.std.proofs.Common.{◌≡◌, ℕ, true, IsTrue, List, [], ◌∷◌, ◌++◌, refl, ap, sym, ◌∙◌, subst, append_assoc}
use Rattle.std.specs.Prelude.{map}
use Rattle.std.proofs.lemmas.List.{map-append}
use Rattle.caf_base.specs.declared.place.Place.{Place}
use Rattle.caf_base.specs.declared.place.Place.TheVariants as places
use Rattle.caf_events.specs.declared.ask.Ask.{Ask}
use Rattle.caf_events.specs.declared.ask.Ask.TheVariants as asks
use Rattle.caf_events.specs.declared.reply.Reply.{Reply}
use Rattle.caf_events.specs.declared.event.Entry.{Entry}
use Rattle.caf_events.specs.Asks.{place_of}
use Rattle.trace_theory.specs.Machines.{Said}
use Rattle.trace_theory.proofs.Filters.{of_inside}
use Rattle.object_rules.specs.BoardTeams.{teams_after, members_at}
use Rattle.object_rules.specs.BoardRules.{board_ready}
use Rattle.object_rules.specs.Answering.{answers, AnswersFrom, members_told}
use Rattle.object_rules.specs.Cells.{Declared}
use Rattle.core_runs.specs.Lists.{image_of, said}
use Rattle.core_runs.specs.CoreRuns.{of_image, at_board, said_by}
use Rattle.core_runs.specs.Lawful.{IsLawfulTrace}
use Rattle.core_runs.specs.Sequences.{IsDeparture, Joins}
use Rattle.core_runs.proofs.Fronts.{lawful_trace_front}
use Rattle.answer_laws.specs.Told.{knows_team, knows_team_of, IsTold, AllTold}
use Rattle.answer_laws.proofs.Splits.{heard_at}
use Rattle.answer_laws.proofs.Served.{board_turn}
use Rattle.answer_laws.proofs.Elsewhere.{memory_answered, own_answered}
use Rattle.answer_laws.proofs.KnownTeams.{told_members}
use Rattle.answer_laws.proofs.HeardTeams.{heard_teams}
use Rattle.answer_laws.proofs.BoardAnswers.{board_answers}
use Rattle.answer_laws.proofs.Joined.{Joined, joined_before}
use Rattle.answer_laws.proofs.LeaveAnswers.{leave_answers}
use Rattle.answer_laws.proofs.TakeAnswers.{take_answers}

module _ (s : List Declared) (n : ℕ) (i : ℕ) where
  module _ (before after : List Entry) (x : Entry) (l : IsLawfulTrace s n (before ++ x ∷ after)) (own : image_of x ≡ i) where
    abbrev front : IsLawfulTrace s n before
    front = lawful_trace_front s n before (x ∷ after) l

    -- the members of each team that the image knows are those at the board
    members_known : (t : ℕ) → knows_team (said_by i before) t ≡ true → members_told n (said_by i before) t ≡ members_at (teams_after n (at_board before)) t
    members_known t known = told_members n (at_board before) (said_by i before) (heard_teams s n before front i) t known

    -- what the image said and heard up to the entry and on
    said_split : said_by i (before ++ x ∷ after) ≡ said_by i before ++ said x.event ∷ said_by i after
    said_split =
        let of : of_image i (before ++ x ∷ after) ≡ of_image i before ++ x ∷ of_image i after = subst (λ z. of_image z (before ++ x ∷ after) ≡ of_image z before ++ x ∷ of_image z after) own (of_inside image_of before after x) in
        ap (map (λ (y : Entry). said y.event)) of ∙ map-append (λ (y : Entry). said y.event) (of_image i before) (x ∷ of_image i after)

    -- a departure stands directly behind the arrival that it departs from
    joined : (a : Ask) → IsDeparture a → x.event.ask ≡ a → Joined n (at_board before) i (said_by i before) a
    joined a d e = joined_before s n before front i a d (said_by i after) (said x.event) e (subst Joins said_split (l.joins i))

    at_board_answered : place_of x.event.ask ≡ places.Board → IsTold (said_by i before) x.event.ask → answers s n (said_by i before) x.event.ask x.event.reply ≡ true
    at_board_answered e told =
        let h = at_board before in
        let es = said_by i before in
        let turn = board_turn s n before after x l e in
        let ready : IsTrue (board_ready n h x.image.0 x.event.ask) = turn.ready in
        subst (λ r. answers s n es x.event.ask r ≡ true) (sym turn.reply)
        (board_answers s n h x.image.0 es members_known x.event.ask e told
        (λ team round q. leave_answers s n h x.image.0 es team round
        (subst (λ k. Joined n h k es (asks.Leave team round)) (sym own) (joined (asks.Leave team round) tt q))
        (members_known team.0 (subst (λ a. knows_team_of es a ≡ true) q told))
        (subst (λ a. IsTrue (board_ready n h x.image.0 a)) q ready))
        (λ team round q. take_answers s n h x.image.0 es team round turn.served
        (subst (λ k. Joined n h k es (asks.Take team round)) (sym own) (joined (asks.Take team round) tt q))
        (subst (λ a. IsTrue (board_ready n h x.image.0 a)) q ready)))

    answered_at : (p : Place) → place_of x.event.ask ≡ p → IsTold (said_by i before) x.event.ask → answers s n (said_by i before) x.event.ask x.event.reply ≡ true
    answered_at (places.Memory owner) e told = memory_answered s n before after x l (said_by i before) owner e
    answered_at places.Own e told = own_answered s n before after x l (said_by i before) e
    answered_at places.Board e told = at_board_answered e told

  pub replies_answer : (t : List Entry) → IsLawfulTrace s n t → (before after : List (Said Ask Reply)) (e : Said Ask Reply) → said_by i t ≡ before ++ e ∷ after → IsTold before e.ask → answers s n before e.ask e.reply ≡ true
  replies_answer t l before after e h told =
      let r = heard_at i t before after e h in
      let a : r.entry.event.ask ≡ e.ask = ap (λ (z : Said Ask Reply). z.ask) r.is in
      let known : IsTold (said_by i r.earlier) r.entry.event.ask = subst (λ z. IsTold z r.entry.event.ask) (sym r.heard) (subst (IsTold before) (sym a) told) in
      let done = answered_at r.earlier r.later r.entry (subst (IsLawfulTrace s n) r.split l) r.image (place_of r.entry.event.ask) refl known in
      subst (λ (z : Said Ask Reply). answers s n before z.ask z.reply ≡ true) r.is (subst (λ z. answers s n z r.entry.event.ask r.entry.event.reply ≡ true) r.heard done)

  -- each of the list does
  answered_from : (t : List Entry) → IsLawfulTrace s n t → (before es : List (Said Ask Reply)) → said_by i t ≡ before ++ es → AllTold before es → AnswersFrom s n before es
  answered_from t l before [] h told = tt
  answered_from t l before (e ∷ es) h told =
      (replies_answer t l before es e h told.0, answered_from t l (before ++ e ∷ []) es (h ∙ sym (append_assoc before (e ∷ []) es)) told.1)

  pub all_answered : (t : List Entry) → IsLawfulTrace s n t → AllTold [] (said_by i t) → AnswersFrom s n [] (said_by i t)
  all_answered t l told = answered_from t l [] (said_by i t) refl told
