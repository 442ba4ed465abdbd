-- Lanes over programs that say the same say the same, and so their runs are the same.
use Rattle.std.proofs.Common.{◌≡◌, ℕ, ◌+◌, List, [], ◌∷◌, inl, inr, refl, ap, ◌∙◌, subst, sym}
use Rattle.std.proofs.lemmas.Bool.{cases_Bool}
use Rattle.caf_events.specs.declared.ask.Ask.{Ask}
use Rattle.caf_events.specs.declared.reply.Reply.{Reply}
use Rattle.caf_events.specs.declared.event.Entry.{Entry}
use Rattle.caf_events.specs.Answers.{Answers}
use Rattle.caf_events.specs.Events.{counts_words}
use Rattle.trace_theory.specs.Machines.{Move, goes, asks, over, go, goes_on, Rests}
use Rattle.trace_theory.specs.Simulations.{Matches, Simulates, SameRest, RestsNear}
use Rattle.trace_theory.proofs.Machines.{comes_later, go_more, walk_to_later}
use Rattle.trace_theory.proofs.Rests.{rests_onward}
use Rattle.object_rules.specs.Cells.{Declared}
use Rattle.core_runs.specs.Beginnings.{IsOneOf}
use Rattle.core_runs.specs.CoreRuns.{IsCoreRun}
use Rattle.core_runs.specs.Lawful.{full_rules}
use Rattle.core_runs.specs.Orders.{Chooser, IsOrderTrace}
use Rattle.core_runs.specs.Same.{SaysAs, RepliesAnswer}
use Rattle.core_runs.specs.Waits.{IsWaiting}
use Rattle.core_runs.proofs.SameRuns.{core_by_replies, order_by_replies, waits_by_replies}
use Rattle.core_runs.proofs.SaysSame.{come, behind}
use Rattle.image_lanes.specs.Lanes.{Course, by_program, failing, at_end, OnLane, is_due, is_full, is_failure, begins_to_fail, comes_to_end, goes_past, fails_on, program_next, lane_step, lane_start}
use Rattle.image_lanes.specs.LaneRuns.{lanes_begin}
use Rattle.image_lanes.proofs.LaneLaws.{at_program, go_lane}
use Rattle.program_walks.proofs.BoardAnswers.{board_answers, memory_answers}

module _ {C D : Type 0} (source : C → Move C Ask Reply) (target : D → Move D Ask Reply) where
  -- the same lane over another program
  abbrev other_lane : OnLane C → D → OnLane D
  other_lane l d = record { image = l.image; fails_in = l.fails_in; limit = l.limit; program = d; words = l.words; held = l.held; course = l.course }

  abbrev with_course : OnLane C → Course → OnLane C
  with_course l v = record l { course = v }

  -- a lane that goes on by its program is alike where the programs say the same
  abbrev SayAlike : Course → C → D → Type 0
  SayAlike by_program c d = SaysAs source target c d
  SayAlike (failing steps line) c d = Unit {0}
  SayAlike at_end c d = Unit {0}

  record Alike (l : OnLane C) (q : OnLane D) : Type 0 where
    program : D
    is : q ≡ other_lane l program
    says : SayAlike l.course l.program program

  -- the same ask at the same line, behind which they are alike; or both over
  abbrev AlikeMoves : Move (OnLane C) Ask Reply → Move (OnLane D) Ask Reply → Type 0
  AlikeMoves (goes l) u = ⊥
  AlikeMoves (asks a n j) u = (k : Reply → OnLane D) × ((r : Reply) → Answers a r → Alike (j r) (k r)) × (u ≡ asks a n k)
  AlikeMoves over u = u ≡ over

  both_are : (v w : Move (OnLane C) Ask Reply) (u t : Move (OnLane D) Ask Reply) → v ≡ w → u ≡ t → AlikeMoves w t → AlikeMoves v u
  both_are v w u t p q h = subst (λ x. AlikeMoves x u) (sym p) (subst (AlikeMoves w) (sym q) h)

  next_alike : (l : OnLane C) (x : C) (f : D) (a : Ask) (line : ℕ) (k : Reply → C) (j : Reply → D) → ((r : Reply) → Answers a r → SaysAs source target (k r) (j r))
      → AlikeMoves (program_next (at_program l x) (asks a line k)) (program_next (at_program (other_lane l f) f) (asks a line j))
  next_alike l x f a line k j onward =
      let q = other_lane l f in
      elim (cases_Bool (is_due l)) [
        | inl due ↦ rw due (λ r. begins_to_fail (at_program q f) 0, λ r ok. record { program = f; is = refl; says = tt }, refl)
        | inr free ↦ elim (cases_Bool (is_failure a)) [
          | inl fails ↦ rw (free, fails) (λ r. begins_to_fail (at_program q f) line, λ r ok. record { program = f; is = refl; says = tt }, refl)
          | inr none ↦ elim (cases_Bool (is_full l)) [
            | inl full ↦ rw (free, none, full) (λ r. comes_to_end (at_program q f), λ r ok. record { program = f; is = refl; says = tt }, refl)
            | inr room ↦ elim (cases_Bool (counts_words a)) [
              | inl counts ↦ (
                  let here : program_next (at_program l x) (asks a line k) ≡ asks a line (λ r. goes_past (at_program l x) a r (k r)) = rw (free, none, room, counts) refl in
                  let there : program_next (at_program q f) (asks a line j) ≡ asks a line (λ r. goes_past (at_program q f) a r (j r)) = rw (free, none, room, counts) refl in
                  both_are (program_next (at_program l x) (asks a line k)) (asks a line (λ r. goes_past (at_program l x) a r (k r))) (program_next (at_program q f) (asks a line j)) (asks a line (λ r. goes_past (at_program q f) a r (j r))) here there
                  (λ r. goes_past (at_program q f) a r (j r), λ r ok. record { program = j r; is = refl; says = onward r ok }, refl))
              | inr silent ↦ rw (free, none, room, silent) (λ r. comes_to_end (at_program q f), λ r ok. record { program = f; is = refl; says = tt }, refl)
            ]
          ]
        ]
      ]

  -- the other lane comes to a place near this one, and does the same there
  record Near (l : OnLane C) (q : OnLane D) (v : Move (OnLane C) Ask Reply) : Type 0 where
    place : OnLane D
    steps : ℕ
    comes : go (lane_step target) steps q ≡ goes place
    alike : Alike l place
    moves : AlikeMoves v (lane_step target place)

  near_program : (l : OnLane C) (d : D) (v : Move C Ask Reply) → source l.program ≡ v → SaysAs source target l.program d → Rests v → Near (with_course l by_program) (other_lane (with_course l by_program) d) (program_next (with_course l by_program) v)
  near_program l d (goes c) at says s = absurd s
  near_program l d (asks a line k) at says s =
      let r = come source target l.program d says 0 l.program refl (subst Rests (sym at) tt) in
      let t = subst (λ v. SameRest v (target r.there)) at r.alike.same in
      let q = other_lane l r.there in
      record {
        place = at_program q r.there;
        steps = r.steps;
        comes = go_lane target r.steps q d r.there r.comes;
        alike = record { program = r.there; is = refl; says = r.alike.says };
        moves = subst (λ u. AlikeMoves (program_next (with_course l by_program) (asks a line k)) (program_next (at_program q r.there) u)) (sym t.1)
            (next_alike l l.program r.there a line k t.0 (λ x ok. behind source target l.program r.there a line k t.0 at t.1 r.alike.says x ok));
      }
  near_program l d over at says s =
      let r = come source target l.program d says 0 l.program refl (subst Rests (sym at) tt) in
      let t = subst (λ v. SameRest v (target r.there)) at r.alike.same in
      let q = other_lane l r.there in
      record {
        place = at_program q r.there;
        steps = r.steps;
        comes = go_lane target r.steps q d r.there r.comes;
        alike = record { program = r.there; is = refl; says = r.alike.says };
        moves = ap (program_next (at_program q r.there)) t;
      }

  -- ---- the simulation
  matched_near : (l : OnLane C) (q : OnLane D) (v : Move (OnLane C) Ask Reply) → Near l q v → Matches Alike Answers (lane_step target) v q
  matched_near l q (goes m) n = absurd n.moves
  matched_near l q (asks a line j) n = (n.moves.0, comes_later (OnLane D) Ask Reply (lane_step target) n.steps q n.place a line n.moves.0 n.comes n.moves.2, n.moves.1)
  matched_near l q over n =
      (n.steps + 1, go_more (OnLane D) Ask Reply (lane_step target) n.steps 1 q ∙ ap (λ v. goes_on v (go (lane_step target) 1)) n.comes ∙ ap (λ v. goes_on v (go (lane_step target) 0)) n.moves)

  matched_program : (l : OnLane C) (d : D) (v : Move C Ask Reply) → source l.program ≡ v → SaysAs source target l.program d
      → Matches Alike Answers (lane_step target) (program_next (with_course l by_program) v) (other_lane (with_course l by_program) d)
  matched_program l d (goes c) at says = (
    0,
    other_lane (with_course l by_program) d,
    refl,
    record {
      program = d;
      is = refl;
      says = λ es e answers w rests. says es e answers (walk_to_later C Ask Reply source 1 l.program c e es (ap (λ v. goes_on v (go source 0)) at) w) rests;
    },
  )
  matched_program l d (asks a line k) at says = matched_near _ _ (program_next (with_course l by_program) (asks a line k)) (near_program l d (asks a line k) at says tt)
  matched_program l d over at says = matched_near (with_course l by_program) (other_lane (with_course l by_program) d) over (near_program l d over at says tt)

  matched : (l : OnLane C) (d : D) (v : Course) → SayAlike v l.program d → Matches Alike Answers (lane_step target) (lane_step source (with_course l v)) (other_lane (with_course l v) d)
  matched l d by_program says = matched_program l d (source l.program) refl says
  matched l d (failing [] line) says = (1, refl)
  matched l d (failing (a ∷ as_) line) says = (λ r. fails_on (other_lane l d) as_ line, (1, refl), λ r ok. record { program = d; is = refl; says = tt })
  matched l d at_end says = (1, refl)

  sim : Simulates Alike Answers (lane_step source) (lane_step target)
  sim l q h = subst (Matches Alike Answers (lane_step target) (lane_step source l)) (sym h.is) (matched l h.program l.course h.says)

  -- ---- where they stop
  moves_rest : (v : Move (OnLane C) Ask Reply) (u : Move (OnLane D) Ask Reply) → AlikeMoves v u → SameRest v u
  moves_rest (goes l) u h = h
  moves_rest (asks a n j) u h = (h.0, h.2)
  moves_rest over u h = h

  program_rests : (l : OnLane C) (v : Move C Ask Reply) → Rests (program_next (with_course l by_program) v) → Rests v
  program_rests l (goes c) s = s
  program_rests l (asks a line k) s = tt
  program_rests l over s = tt

  near : (l : OnLane C) (d : D) (v : Course) → SayAlike v l.program d → Rests (lane_step source (with_course l v)) → Near (with_course l v) (other_lane (with_course l v) d) (lane_step source (with_course l v))
  near l d by_program says s = near_program l d (source l.program) refl says (program_rests l (source l.program) s)
  near l d (failing [] line) says s = record { place = other_lane (with_course l (failing [] line)) d; steps = 0; comes = refl; alike = record { program = d; is = refl; says = tt }; moves = refl }
  near l d (failing (a ∷ as_) line) says s = record {
    place = other_lane (with_course l (failing (a ∷ as_) line)) d;
    steps = 0;
    comes = refl;
    alike = record { program = d; is = refl; says = tt };
    moves = (λ r. fails_on (other_lane l d) as_ line, λ r ok. record { program = d; is = refl; says = tt }, refl);
  }
  near l d at_end says s = record { place = other_lane (with_course l at_end) d; steps = 0; comes = refl; alike = record { program = d; is = refl; says = tt }; moves = refl }

  stops : RestsNear Alike Alike (lane_step source) (lane_step target)
  stops l q h s =
      let n = near l h.program l.course h.says s in
      (n.steps, n.place, ap (go (lane_step target) n.steps) h.is ∙ n.comes, n.alike, moves_rest (lane_step source l) (lane_step target n.place) n.moves)

  -- lanes over programs that say the same say the same
  pub lanes_say : (image fails_at limit : ℕ) (c : C) (d : D) → SaysAs source target c d → SaysAs (lane_step source) (lane_step target) (lane_start image fails_at limit c) (lane_start image fails_at limit d)
  lanes_say image fails_at limit c d says es e answers w rests =
      let first = lane_start image fails_at limit c in
      let first' = lane_start image fails_at limit d in
      let r = rests_onward (OnLane C) (OnLane D) Ask Reply Alike Answers (lane_step source) (lane_step target) sim Alike stops first e first' es answers (record { program = d; is = refl; says = says }) w rests in
      (r.0, r.1, r.3)

-- ---- runs of lanes
pub full_answer : {C : Type 0} (step : C → Move C Ask Reply) (hears : C → Reply → Type 0) → RepliesAnswer (full_rules step hears)
full_answer step hears = record { memory = memory_answers; board = board_answers }

module _ {C D : Type 0} (source : C → Move C Ask Reply) (target : D → Move D Ask Reply) (hears : OnLane C → Reply → Type 0) (hears' : OnLane D → Reply → Type 0) (coarrays : List Declared) (n : ℕ) (first : ℕ → C) (first' : ℕ → D) (fails_at : ℕ → ℕ)
    (words : ℕ) (says : (i : ℕ) → IsOneOf n i → SaysAs source target (first i) (first' i)) (t : List Entry) where
  lane_says : (i : ℕ) → IsOneOf n i → SaysAs (lane_step source) (lane_step target) (lane_start i (fails_at i) words (first i)) (lane_start i (fails_at i) words (first' i))
  lane_says i in_run = lanes_say source target i (fails_at i) words (first i) (first' i) (says i in_run)

  abbrev this : ℕ → OnLane D
  this i = lane_start i (fails_at i) words (first' i)

  pub lanes_core : IsCoreRun (full_rules (lane_step source) hears) (lanes_begin coarrays n first fails_at words) t → IsCoreRun (full_rules (lane_step target) hears') (lanes_begin coarrays n first' fails_at words) t
  lanes_core core = core_by_replies (full_rules (lane_step source) hears) (lane_step target) hears' (lanes_begin coarrays n first fails_at words) this lane_says t (full_answer (lane_step source) hears) core

  pub lanes_waits : IsCoreRun (full_rules (lane_step source) hears) (lanes_begin coarrays n first fails_at words) t → (i line : ℕ) (a : Ask) → IsWaiting (full_rules (lane_step source) hears) (lanes_begin coarrays n first fails_at words) t i line a
      → IsWaiting (full_rules (lane_step target) hears') (lanes_begin coarrays n first' fails_at words) t i line a
  lanes_waits core = waits_by_replies (full_rules (lane_step source) hears) (lane_step target) hears' (lanes_begin coarrays n first fails_at words) this lane_says t (full_answer (lane_step source) hears) core

  pub lanes_order : (S : Type 0) (ch : Chooser S) (s : S) → IsOrderTrace (full_rules (lane_step source) hears) (lanes_begin coarrays n first fails_at words) ch s t → IsOrderTrace (full_rules (lane_step target) hears') (lanes_begin coarrays n first' fails_at words) ch s t
  lanes_order S ch s o = order_by_replies (full_rules (lane_step source) hears) (lane_step target) hears' ch (lanes_begin coarrays n first fails_at words) this lane_says s t (full_answer (lane_step source) hears) o
