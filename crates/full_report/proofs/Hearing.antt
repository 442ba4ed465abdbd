-- Lanes over machines that go on whatever the reply is go on so too; and the first moment of a run.
use Rattle.std.proofs.Common.{◌≡◌, ◌∙◌, sym, ap, subst, refl, List, [], length}
use Rattle.std.specs.Prelude.{replicate}
use Rattle.std.proofs.lemmas.List.{length-replicate}
use Rattle.trace_theory.specs.Machines.{Move, goes, asks, over}
use Rattle.caf_events.specs.declared.ask.Ask.{Ask}
use Rattle.caf_events.specs.declared.reply.Reply.{Reply}
use Rattle.caf_events.specs.Walkers.{AsksNext}
use Rattle.core_runs.specs.Beginnings.{Beginning, IsFirst}
use Rattle.core_runs.specs.Moments.{Rules, Moment}
use Rattle.image_lanes.specs.Lanes.{OnLane, Course, by_program, failing, at_end, lane_step, lane_hears, program_next, course_next, heard_by_program, heard_on}
use Rattle.image_turns.specs.Turns.{HearsEvery}
use Rattle.crew.specs.Left.{HasNoStep}

module _ {C : Type 0} (step : C → Move C Ask Reply) (hears : C → Reply → Type 0) (all : HearsEvery step hears) (l : OnLane C) (a : Ask) (reply : Reply) where
  by_move : (v : Move C Ask Reply) → step l.program ≡ v → AsksNext (program_next l v) a → heard_by_program hears l v reply
  by_move (goes c) s next = absurd next
  by_move (asks b line k) s next = λ free failure room counts. (let asked = subst (λ v. AsksNext v a) (sym s) (rw (free, failure, room, counts) at next) in all l.program a reply asked)
  by_move over s next = absurd next

  by_course : (course : Course) → AsksNext (course_next step l course) a → heard_on step hears l course reply
  by_course by_program next = by_move (step l.program) refl next
  by_course (failing steps line) next = tt
  by_course at_end next = tt

pub lanes_hear : {C : Type 0} (step : C → Move C Ask Reply) (hears : C → Reply → Type 0) → HearsEvery step hears → HearsEvery (lane_step step) (lane_hears step hears)
lanes_hear step hears all l a reply next = by_course step hears all l a reply l.course next

-- nothing has been done before the first step
pub no_step_first : {C M B : Type 0} (r : Rules C M B) (b : Beginning C M B) (m : Moment C M B) → IsFirst r b m → HasNoStep m
no_step_first r b m first = record {
  events = first.events ∙ sym (ap (λ n. replicate n []) (ap length first.events ∙ length-replicate b.images []));
  histories = first.histories ∙ sym (ap (λ n. replicate n []) (ap length first.histories ∙ length-replicate b.images []));
  board = first.board_history;
}
