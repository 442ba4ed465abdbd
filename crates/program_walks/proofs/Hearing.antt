-- An image of a run of lanes hears the reply that is due, where its machine does.
use Rattle.std.proofs.Common.{◌≡◌, ℕ, IsTrue, refl, sym, subst}
use Rattle.std.specs.Prelude.{Some}
use Rattle.caf_events.specs.declared.ask.Ask.{Ask}
use Rattle.caf_events.specs.declared.reply.Reply.{Reply}
use Rattle.caf_events.specs.Asks.{place_of}
use Rattle.caf_events.specs.Walkers.{AsksNext}
use Rattle.trace_theory.specs.Machines.{Move, goes, asks, over}
use Rattle.object_rules.specs.Cells.{MadeMemory}
use Rattle.core_runs.specs.Moments.{Moment, item_at, ready_there, reply_there}
use Rattle.core_runs.specs.Lanes.{HearsDue}
use Rattle.image_lanes.specs.Lanes.{Course, by_program, failing, at_end, OnLane, program_next, course_next, heard_by_program, heard_on}
use Rattle.image_lanes.specs.LaneRuns.{lane_rules}
use Rattle.program_walks.specs.Hearing.{TellsNoTeam, HearsEach, DueToPrograms}

module _ {C : Type 0} (step : C → Move C Ask Reply) (hears : C → Reply → Type 0) (Such : Reply → Type 0) (hear : HearsEach step hears Such) (m : Moment (OnLane C) MadeMemory ℕ) (due : DueToPrograms step Such (lane_rules step hears) m)
    (i : ℕ) (l : OnLane C) (at : item_at m.configs i ≡ Some l) where
  abbrev Due_reply : Ask → Reply
  Due_reply a = reply_there (lane_rules step hears) m i a (place_of a)

  by_move : (v : Move C Ask Reply) → step l.program ≡ v → l.course ≡ by_program → (a : Ask) → AsksNext (program_next l v) a → IsTrue (ready_there (lane_rules step hears) m i a (place_of a)) → heard_by_program hears l v (Due_reply a)
  by_move (goes c) s by a next ready = absurd next
  by_move (asks b line k) s by a next ready = λ free failure room counts. (let asked = subst (λ v. AsksNext v a) (sym s) (rw (free, failure, room, counts) at next) in hear l.program a (Due_reply a) asked (due i l a at by asked ready))
  by_move over s by a next ready = absurd next

  by_course : (course : Course) → l.course ≡ course → (a : Ask) → AsksNext (course_next step l course) a → IsTrue (ready_there (lane_rules step hears) m i a (place_of a)) → heard_on step hears l course (Due_reply a)
  by_course by_program e a next ready = by_move (step l.program) refl e a next ready
  by_course (failing steps line) e a next ready = tt
  by_course at_end e a next ready = tt

module _ {C : Type 0} (step : C → Move C Ask Reply) (hears : C → Reply → Type 0) where
  -- a machine that hears every reply, and one that hears those which tell of no team
  pub hears_due : HearsEach step hears (λ reply. Unit {0}) → (m : Moment (OnLane C) MadeMemory ℕ) → HearsDue (lane_rules step hears) m
  hears_due all m i l a at next ready = by_course step hears (λ reply. Unit {0}) all m (λ j q b there by asked can. tt) i l at l.course refl a next ready

  pub hears_no_team : HearsEach step hears TellsNoTeam → (m : Moment (OnLane C) MadeMemory ℕ) → DueToPrograms step TellsNoTeam (lane_rules step hears) m → HearsDue (lane_rules step hears) m
  hears_no_team hear m due i l a at next ready = by_course step hears TellsNoTeam hear m due i l at l.course refl a next ready
