-- How a lane goes on with a reply.
use Rattle.std.proofs.Common.{◌≡◌, ℕ, Bool, true, false, inl, inr, refl, ap, sym, ◌∙◌, subst}
use Rattle.std.specs.Prelude.{◌||◌}
use Rattle.std.proofs.lemmas.Bool.{cases_Bool}
use Rattle.caf_events.specs.declared.ask.Ask.{Ask}
use Rattle.caf_events.specs.declared.ask.Ask.TheVariants as asking
use Rattle.caf_events.specs.declared.reply.Reply.{Reply}
use Rattle.caf_events.specs.Events.{counts_words}
use Rattle.caf_events.specs.Walkers.{AsksNext, IsAtLine, Continues}
use Rattle.trace_theory.specs.Machines.{Move, goes, asks, over, go, Rests}
use Rattle.image_lanes.specs.Lanes.{by_program, OnLane, is_due, is_full, is_failure, goes_past, program_next, course_next, lane_step}
use Rattle.image_lanes.specs.LaneStates.{Given}
use Rattle.image_lanes.proofs.LaneLaws.{at_program, go_lane, rests_lane, fewer_past}

module _ {C : Type 0} (step : C → Move C Ask Reply) where
  -- ---- what the lane asks, of what the program asks
  by_step : (l : OnLane C) → l.course ≡ by_program → lane_step step l ≡ program_next l (step l.program)
  by_step l by = ap (course_next step l) by

  no_failure : (b : Ask) → b ≡ asking.Fail → is_failure b ≡ false → ⊥
  no_failure b e f = let u : is_failure asking.Fail ≡ false = sym (ap is_failure e) ∙ f in absurd (cc)

  -- the ask is the program's own, and it goes on behind it
  record Past (l : OnLane C) (m : Move C Ask Reply) (ask : Ask) (line : ℕ) : Type 0 where
    on : Reply → C
    program : m ≡ asks ask line on
    lane : program_next l m ≡ asks ask line (λ r. goes_past l ask r (on r))

  past_move : (l : OnLane C) (m : Move C Ask Reply) (ask : Ask) (line : ℕ) → AsksNext (program_next l m) ask → IsAtLine (program_next l m) line → is_due l ≡ false → is_failure ask ≡ false → is_full l ≡ false → counts_words ask ≡ true → Past l m ask line
  past_move l (goes c) ask line a n due fails room counts = absurd a
  past_move l over ask line a n due fails room counts = absurd a
  past_move l (asks p q k) ask line a n due fails room counts = elim (cases_Bool (is_failure p)) [
    | inl t ↦ absurd (no_failure ask (rw (due, t) at a) fails)
    | inr g ↦ elim (cases_Bool (counts_words p)) [
      | inl t ↦ here (rw (due, g, room, t) at a) (rw (due, g, room, t) at n) (rw (due, g, room, t) refl)
      | inr f ↦ absurd (silent (rw (due, g, room, f) at a) f)
    ]
  ]
    where
      silent : ask ≡ p → counts_words p ≡ false → ⊥
      silent x f = let u : true ≡ false = sym counts ∙ ap counts_words x ∙ f in absurd (cc)

      here : ask ≡ p → line ≡ q → program_next l (asks p q k) ≡ asks p q (λ r. goes_past l p r (k r)) → Past l (asks p q k) ask line
      here x y moved = record {
        on = k;
        program = ap (λ b. asks b q k) (sym x) ∙ ap (λ b. asks ask b k) (sym y);
        lane = moved ∙ ap (λ b. asks b q (λ r. goes_past l b r (k r))) (sym x) ∙ ap (λ b. asks ask b (λ r. goes_past l ask r (k r))) (sym y);
      }

  split : (b c : Bool) → (b || c) ≡ false → (b ≡ false) × (c ≡ false)
  split true c h = absurd (cc)
  split false c h = (refl, h)

  -- ---- and how it goes on
  module _ (l : OnLane C) (by : l.course ≡ by_program) (ask : Ask) (reply : Reply) (asked : AsksNext (lane_step step l) ask) (free : (is_due l || is_failure ask) ≡ false) where
    asked_by : AsksNext (program_next l (step l.program)) ask
    asked_by = subst (λ m. AsksNext m ask) (by_step l by) asked

    module _ (line : ℕ) (at : IsAtLine (lane_step step l) line) (room : is_full l ≡ false) (counts : counts_words ask ≡ true) where
      past : Past l (step l.program) ask line
      past =
          let s = split (is_due l) (is_failure ask) free in
          past_move l (step l.program) ask line asked_by (subst (λ m. IsAtLine m line) (by_step l by) at) s.0 s.1 room counts

      pub given_past : (c : C) → Continues step (step l.program) reply c → Rests (step c) → Given step l reply (goes_past l ask reply c)
      given_past c goes_ rests = record {
        goes = subst (λ m. Continues (lane_step step) m reply m2) (sym (by_step l by ∙ past.lane)) (g.0, subst (λ a. go (lane_step step) g.0 a ≡ goes m2) (sym (same (past.on reply))) (go_lane step g.0 (goes_past l ask reply c) (past.on reply) c g.1 ∙ ap (λ x. goes x) (sym (same c))));
        rests = subst Rests (sym (by_step m2 by)) (rests_lane step m2 rests);
        spends = fewer_past step l by ask asked_by ask reply c room counts;
      }
        where
          m2 : OnLane C
          m2 = goes_past l ask reply c

          g : (n : ℕ) × (go step n (past.on reply) ≡ goes c)
          g = subst (λ m. Continues step m reply c) past.program goes_

          same : (x : C) → goes_past l ask reply x ≡ at_program (goes_past l ask reply c) x
          same x = ap (λ q. record (goes_past l ask reply x) { course = q }) by
