-- The reply to a departure from a collective subroutine answers it.
use Rattle.std.proofs.Common.{◌≡◌, ℕ, ◌≤◌, Bool, true, false, ◌&&◌, ◌||◌, IsTrue, cond, List, [], ◌∷◌, ◌++◌, length, refl, ap, sym, ◌∙◌, subst, arith}
use Rattle.std.specs.Prelude.{ℤ, pos, ◌-◌, nat_eq, nat_le, Option, Some, None, is_some}
use Rattle.std.specs.List.{list_any, list_all}
use Rattle.std.specs.Ordering.{int_eq}
use Rattle.std.proofs.lemmas.Bool.{and_parts, and_from, eq-eqb, leb-true}
use Rattle.caf_base.specs.declared.place.TeamNo.{TeamNo}
use Rattle.caf_base.specs.declared.value.Kind.{Kind}
use Rattle.caf_base.specs.declared.value.Value.{Value}
use Rattle.caf_events.specs.declared.ask.Ask.{Ask}
use Rattle.caf_events.specs.declared.ask.Ask.TheVariants as asks
use Rattle.caf_events.specs.declared.reply.Reply.{Reply}
use Rattle.caf_events.specs.declared.reply.Reply.TheVariants as replies
use Rattle.caf_events.specs.declared.round.GatherOp.{GatherOp}
use Rattle.caf_events.specs.declared.round.GatherOp.TheVariants as ops
use Rattle.caf_events.specs.declared.round.RoundKind.{RoundKind}
use Rattle.caf_events.specs.declared.round.RoundKind.TheVariants as kinds
use Rattle.caf_events.specs.declared.event.Entry.{Entry}
use Rattle.caf_events.specs.Histories.{Served}
use Rattle.trace_theory.specs.Entries.{Each}
use Rattle.trace_theory.specs.Machines.{Said}
use Rattle.object_rules.specs.Happenings.{Happening, collective, happened, has_ended}
use Rattle.object_rules.specs.TeamRounds.{Opening, Missed, arrivals, opening_of, has_arrived, has_closed, missed_by, result_of}
use Rattle.object_rules.specs.ImagePairs.{names}
use Rattle.object_rules.specs.Folds.{is_of_kind}
use Rattle.object_rules.specs.BoardTeams.{teams_after, members_at, closing, round_of}
use Rattle.object_rules.specs.BoardRules.{is_image, is_root, fits_board, can_come, has_joined, board_ready, board_reply, take_reply, taken_by, collective_result, collected, or_none, parts_of}
use Rattle.object_rules.specs.Answering.{answers, fits_gather, fits_last, is_one_of, last_event}
use Rattle.object_rules.specs.Cells.{Declared}
use Rattle.team_laws.proofs.Lists.{each_get, slice_there, some_there}
use Rattle.team_laws.proofs.Teams.{members_stay, teams_stay}
use Rattle.team_laws.proofs.Rounds.{happened_append, closing_is, opening_stays}
use Rattle.team_laws.proofs.Openings.{closed_opens}
use Rattle.answer_laws.proofs.FoldedValues.{AreOfKind, folded_kind}
use Rattle.answer_laws.proofs.GatheredParts.{GatherTurn, gather_turn, alike_is, member_fits, root_fits, some_opening, all_parts}
use Rattle.answer_laws.proofs.Joined.{Joined, GatheredAt, gathered_at}

abbrev statuses : List ℤ
statuses = pos 0 ∷ pos 6000 ∷ pos 6001 ∷ pos 6006 ∷ []

-- where a partial sum left its kind no values are told, and the status isn't 0
unfolded : (P : List Value → Bool) (m : Missed) → (is_one_of statuses (result_of m true) && cond (int_eq (result_of m true) (pos 0)) (P []) true) ≡ true
unfolded P m = by m.stopped m.failed
  where
    by : (stopped failed : Bool) → (is_one_of statuses (cond stopped (pos 6000) (cond failed (pos 6001) (pos 6006))) && cond (int_eq (cond stopped (pos 6000) (cond failed (pos 6001) (pos 6006))) (pos 0)) (P []) true) ≡ true
    by true failed = refl
    by false true = refl
    by false false = refl

-- else there are values only where no member stopped or failed
folded : (P : List Value → Bool) (stopped failed : Bool) (vs : List Value) → (stopped ≡ false → failed ≡ false → P vs ≡ true)
    → (is_one_of statuses (cond stopped (pos 6000) (cond failed (pos 6001) (pos 0)))
    && cond (int_eq (cond stopped (pos 6000) (cond failed (pos 6001) (pos 0))) (pos 0)) (P (cond (stopped || failed) [] vs)) (nat_eq (length (cond (stopped || failed) [] vs)) 0)) ≡ true
folded P true failed vs fits = refl
folded P false true vs fits = refl
folded P false false vs fits = fits refl refl

-- the result of a collective subroutine from parts of its kind, one for each member
collected_kind : (op : GatherOp) (root : ℕ) (kind : Kind) (count size : ℕ) (parts : List (List Value)) (vs : List Value)
    → is_root op size root ≡ true → length parts ≡ size → 1 ≤ size → Each (AreOfKind kind count) parts → collected (kinds.Collective op root kind count) parts ≡ Some vs → AreOfKind kind count vs
collected_kind ops.Broadcast root kind count size parts vs is many some fits e =
    let p = and_parts (nat_le 1 root) (nat_le root size) is in
    let low = leb-true 1 root p.0 in
    let high = leb-true root size p.1 in
    let x = slice_there parts (root - 1) (omega arith) in
    let q : Some x.0 ≡ Some vs = sym (ap (λ z. Some (or_none z)) x.1) ∙ e in
    let w : x.0 ≡ vs = cc in
    subst (AreOfKind kind count) w (each_get (AreOfKind kind count) parts (root - 1) x.0 fits x.1)
collected_kind ops.Sum root kind count size parts vs is many some fits e = folded_kind ops.Sum kind count parts vs (omega arith) fits e
collected_kind ops.Min root kind count size parts vs is many some fits e = folded_kind ops.Min kind count parts vs (omega arith) fits e
collected_kind ops.Max root kind count size parts vs is many some fits e = folded_kind ops.Max kind count parts vs (omega arith) fits e

module _ (s : List Declared) (n : ℕ) (h : List Entry) (i : ℕ) (es : List (Said Ask Reply)) (team : TeamNo) (round : ℕ) (served : Served (board_ready n) (board_reply n) [] h) (joined : Joined n h i es (asks.Take team round)) where
  abbrev ms : List ℕ
  ms = members_at (teams_after n h) team.0

  abbrev came : GatheredAt joined.arrival.ask joined.arrival.reply team round
  came = gathered_at joined.arrival.ask joined.arrival.reply team round joined.departs

  abbrev kind_here : RoundKind
  kind_here = kinds.Collective came.op came.root came.kind (length came.values)

  own_turn : GatherTurn n h joined.front joined.entry.image.0 team came.op came.root came.kind came.values round
  own_turn =
      let x = joined.entry in
      let a : x.event.ask ≡ asks.Gather team came.op came.root came.kind came.values = ap (λ (z : Said Ask Reply). z.ask) joined.is ∙ came.asked in
      let r : x.event.reply ≡ replies.Round round = ap (λ (z : Said Ask Reply). z.reply) joined.is ∙ came.told in
      subst (λ z. GatherTurn n z joined.front x.image.0 team came.op came.root came.kind came.values round) (sym joined.split)
      (gather_turn n joined.front joined.back x team came.op came.root came.kind came.values round joined.turn a r)

  -- the members of the team are those at the board when the image arrived
  own_members : ms ≡ members_at (teams_after n joined.front) team.0
  own_members =
      let more = teams_stay n joined.front (joined.entry ∷ joined.back) in
      let named = member_fits n joined.front joined.entry.image.0 team came.op came.root came.kind came.values own_turn.fits in
      ap (λ z. members_at (teams_after n z) team.0) joined.split ∙ ap (λ z. members_at z team.0) more.1 ∙ members_stay (teams_after n joined.front) more.0 joined.entry.image.0 team.0 named

  own_root : is_root came.op (length ms) came.root ≡ true
  own_root = subst (λ z. is_root came.op (length z) came.root ≡ true) (sym own_members) (root_fits n joined.front joined.entry.image.0 team came.op came.root came.kind came.values own_turn.fits)

  module _ (low : 1 ≤ round) (f : List Entry) (closed : closing collective team.0 round ms h ≡ Some f) where
    abbrev hs : List Happening
    hs = happened collective f

    abbrev parts : List (List Value)
    parts = parts_of (round_of collective team.0 round ms f)

    abbrev missed : Missed
    missed = missed_by ms hs

    -- the history from the close on
    abbrev rest : (g : List Entry) × (h ≡ f ++ g) × (has_closed ms team.0 round hs ≡ true)
    rest = closing_is collective team.0 round ms h f closed

    abbrev first : (o : Opening) × (opening_of team.0 round hs ≡ Some o)
    first = closed_opens ms team.0 round hs low rest.2

    opens_later : opening_of team.0 round (happened collective (f ++ rest.0)) ≡ Some first.0
    opens_later = ap (opening_of team.0 round) (happened_append collective f rest.0) ∙ opening_stays hs (happened collective rest.0) team.0 round first.0 first.1

    -- the round is of the kind of the image's own arrival
    first_kind : first.0.kind ≡ kind_here
    first_kind =
        let own = own_turn.inside in
        let at : opening_of team.0 round (happened collective h) ≡ Some first.0 = ap (λ z. opening_of team.0 round (happened collective z)) rest.1 ∙ opens_later in
        let same : first.0 ≡ own.opening = some_opening (opening_of team.0 round (happened collective h)) first.0 own.opening at own.opens in
        ap (λ (z : Opening). z.kind) same ∙ sym (alike_is came.op came.root came.kind (length came.values) own.opening.kind own.alike)

    arrived_or_ended : (list_any (λ m. has_arrived team.0 round m hs) ms ≡ true) × (list_all (λ m. has_arrived team.0 round m hs || has_ended m hs) ms ≡ true)
    arrived_or_ended = and_parts (list_any (λ m. has_arrived team.0 round m hs) ms) (list_all (λ m. has_arrived team.0 round m hs || has_ended m hs) ms) rest.2

    -- the values are as many as the image brought, of its kind
    values_right : (vs : List Value) → collected first.0.kind parts ≡ Some vs → missed.stopped ≡ false → missed.failed ≡ false → fits_last vs (last_event None es) ≡ true
    values_right vs e stopped failed =
        let all = all_parts n f rest.0 (subst (Served (board_ready n) (board_reply n) []) rest.1 served) team.0 round low came.op came.root came.kind (length came.values) first.0 opens_later first_kind ms arrived_or_ended.1 stopped failed in
        let some = some_there ms (λ m. has_arrived team.0 round m hs) arrived_or_ended.0 in
        let r = collected_kind came.op came.root came.kind (length came.values) (length ms) parts vs own_root all.many some all.fits (ap (λ k. collected k parts) (sym first_kind) ∙ e) in
        let fits : fits_gather vs (asks.Gather team came.op came.root came.kind came.values) ≡ true =
        and_from (nat_eq (length vs) (length came.values)) (list_all (is_of_kind came.kind) vs) (eq-eqb (length vs) (length came.values) r.0) r.1 in
        subst (λ z. fits_last vs z ≡ true) (sym joined.last) (subst (λ z. fits_gather vs z ≡ true) (sym came.asked) fits)

    taken_right : (r : Option (List Value)) → collected first.0.kind parts ≡ r → answers s n es (asks.Take team round) (taken_by missed r) ≡ true
    taken_right None e = unfolded (λ vs. fits_last vs (last_event None es)) missed
    taken_right (Some vs) e = folded (λ us. fits_last us (last_event None es)) missed.stopped missed.failed vs (values_right vs e)

    result_right : answers s n es (asks.Take team round) (collective_result team.0 round ms f (opening_of team.0 round hs)) ≡ true
    result_right = subst (λ o. answers s n es (asks.Take team round) (collective_result team.0 round ms f o) ≡ true) (sym first.1) (taken_right (collected first.0.kind parts) refl)

  pub take_answers : IsTrue (board_ready n h i (asks.Take team round)) → answers s n es (asks.Take team round) (board_reply n h i (asks.Take team round)) ≡ true
  take_answers ready =
      let r = and_parts (is_image n i && fits_board n h i (asks.Take team round)) (can_come n h i (asks.Take team round)) ready in
      let fits = (and_parts (is_image n i) (has_joined collective n h i team.0 round) r.0).1 in
      let named = (and_parts (names i ms && nat_le 1 round) (nat_le round (arrivals team.0 i (happened collective h))) fits).0 in
      by (leb-true 1 round (and_parts (names i ms) (nat_le 1 round) named).1) (closing collective team.0 round ms h) refl r.1
    where
      by : 1 ≤ round → (o : Option (List Entry)) → closing collective team.0 round ms h ≡ o → is_some o ≡ true → answers s n es (asks.Take team round) (take_reply n h team.0 round o) ≡ true
      by low None closed there = absurd (cc)
      by low (Some f) closed there = result_right low f closed
