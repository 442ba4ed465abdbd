-- The verdict on a trace by machines whose code has the walks of a program, and the report of the run that goes on
-- behind it, are those of the program.
use Rattle.std.proofs.Common.{◌≡◌, ℕ, ◌<◌, true, inl, inr, List, [], length, refl, ap, sym, subst}
use Rattle.std.specs.Prelude.{map, take, Some, None}
use Rattle.std.specs.List.{list_all}
use Rattle.caf_events.specs.declared.event.Entry.{Entry}
use Rattle.caf_report.specs.declared.report.Report.{Report}
use Rattle.checked_tree.specs.Statements as checked
use Rattle.core_runs.specs.Beginnings.{Beginning, IsFirst}
use Rattle.core_runs.specs.CoreRuns.{IsCoreRun, IsFit}
use Rattle.core_runs.specs.Kept.{IsKept}
use Rattle.core_runs.specs.Lawful.{IsLawfulTrace}
use Rattle.core_runs.specs.Moments.{Rules, Moment}
use Rattle.core_runs.specs.Traces.{IsTraceOf}
use Rattle.core_runs.proofs.Beginnings.{empty_at}
use Rattle.core_runs.proofs.CoreRuns.{core_run}
use Rattle.core_runs.proofs.Lawfuls.{core_run_lawful}
use Rattle.image_code.specs.Code.{Whole}
use Rattle.image_core.specs.declared.choices.Choices.TheVariants.{Rotate}
use Rattle.image_core.specs.Parts.{EachAt}
use Rattle.image_lanes.specs.Lanes.{OnLane, lane_step, lane_hears}
use Rattle.image_lanes.specs.LaneRuns.{lane_rules, lanes_begin}
use Rattle.image_machine.specs.Engine.{Engine, bare}
use Rattle.image_machine.specs.Walk.{machine_step}
use Rattle.image_state.specs.declared.state.Rooms.{Rooms}
use Rattle.object_rules.specs.Cells.{Declared, MadeMemory}
use Rattle.object_rules.specs.MemoryRules.{has_first_values}
use Rattle.order_report.specs.Reports.{AreLawful, EndByThemselves, IsTraceOn}
use Rattle.machine_runs.specs.Runs.{HasWalksOn, machines_begin}
use Rattle.machine_runs.proofs.MachineRuns.{core_onward, core_backward, order_onward, waits_backward}
use Rattle.program_walks.specs.Runs.{program_rules, program_begins}
use Rattle.program_run.specs.Machines.{hears, HasBegun}
use Rattle.program_run.proofs.Begun.{rooms_of}
use Rattle.program_run.proofs.Program.{first, machines_run, machines_end}
use Rattle.judged_run.specs.Judging.{IsRunTo, Leads}
use Rattle.trace_judge.specs.Verdicts.{IsFirstNot}
use Rattle.trace_replay.specs.Judging.{IsRunOfCode, IsNoRunOfCode, StandsBehind}
use Rattle.trace_replay.specs.Replays.{Turns, turning, turns_of, IsIdle, GoesOn}
use Rattle.trace_replay.proofs.Onward.{goes_on}

-- at the first moment of a run no step was made
no_trace : {C M B : Type 0} (r : Rules C M B) (b : Beginning C M B) (m : Moment C M B) → IsFirst r b m → IsTraceOf m.events []
no_trace r b m begins = record { images = λ i. ap (map _) (sym (empty_at m.events b.images i begins.events)); ordered = tt }

module _ (w : Whole) (limit n : ℕ) (xs : List Engine) (count : length xs ≡ n) (begun : EachAt (HasBegun w limit n) xs) (coarrays : List Declared) (fails_at : ℕ → ℕ) (words : ℕ) (m : Moment (OnLane Engine) MadeMemory ℕ) where
  abbrev begins : ℕ → Beginning (OnLane Engine) MadeMemory ℕ
  begins k = lanes_begin coarrays k (first w limit n xs count begun coarrays fails_at words) fails_at words

  -- the parts before the first step stand behind no entry
  pub stands_first : IsFirst (lane_rules machine_step hears) (begins (length xs)) m → IsKept (lane_rules machine_step hears) (begins (length xs)) m → StandsBehind w limit coarrays n fails_at words [] m
  stands_first is_first kept =
      let begins_so = subst (λ k. IsFirst (lane_rules machine_step hears) (begins k) m) count is_first in
      let kept_so = subst (λ k. IsKept (lane_rules machine_step hears) (begins k) m) count kept in
      let none = no_trace (lane_rules machine_step hears) (begins n) m begins_so in
      record {
        rooms = rooms_of w limit n xs begun;
        from = m;
        begins = begins_so;
        made = refl;
        run = record { run = core_run (lane_rules machine_step hears) (begins n) m [] kept_so none; kept = kept_so; trace = none };
      }

module _ (w : Whole) (limit : ℕ) (coarrays : List Declared) (n : ℕ) (fails_at : ℕ → ℕ) (words : ℕ) (t : List Entry) where
  -- the steps of a trace lead on from there
  pub stands_on : (m m' : Moment (OnLane Engine) MadeMemory ℕ) (s : StandsBehind w limit coarrays n fails_at words [] m) → Leads (lane_rules machine_step hears) m t m'
      → IsRunTo (lane_rules machine_step hears) (machines_begin w limit s.rooms coarrays n fails_at words) t m' → StandsBehind w limit coarrays n fails_at words t m'
  stands_on m m' s leads run = record { rooms = s.rooms; from = s.from; begins = s.begins; made = subst (λ v. Leads (lane_rules machine_step hears) v t m') s.made leads; run = run }

  -- the first step at which the trace is no core run of the machines is that of each program
  pub no_run : (rooms : ℕ → Rooms) (step : ℕ) → IsFirstNot (lane_rules machine_step hears) (machines_begin w limit rooms coarrays n fails_at words) t step → IsNoRunOfCode w limit coarrays n fails_at words t step
  no_run rooms step is p h = record {
    least = is.least;
    most = is.most;
    none = λ run. is.none (core_backward hears p w limit rooms coarrays n fails_at words h (take step t) run);
    before = λ k less. core_onward hears p w limit rooms coarrays n fails_at words h (take k t) (is.before k less);
  }

  module _ (m : Moment (OnLane Engine) MadeMemory ℕ) (s : StandsBehind w limit coarrays n fails_at words t m) where
    -- the trace behind which they stand is a core run of each program
    pub is_run : IsRunOfCode w limit coarrays n fails_at words t
    is_run p h = core_onward hears p w limit s.rooms coarrays n fails_at words h t s.run.run

    -- each core run of the machines is a lawful trace over the coarrays
    pub are_lawful : list_all has_first_values coarrays ≡ true → AreLawful (lane_rules machine_step hears) (machines_begin w limit s.rooms coarrays n fails_at words) coarrays
    are_lawful declared u core =
        core_run_lawful (lane_step machine_step) (lane_hears machine_step hears) coarrays n (machines_begin w limit s.rooms coarrays n fails_at words).first u declared s.run.kept.fit core

    -- the trace is one of them
    pub is_lawful : list_all has_first_values coarrays ≡ true → IsLawfulTrace coarrays n t
    is_lawful declared = are_lawful declared t s.run.run

    -- an image of them is over only behind a step that ended it
    pub end_so : (p : checked.Program) → HasWalksOn p limit n w → EndByThemselves (lane_rules machine_step hears) (machines_begin w limit s.rooms coarrays n fails_at words)
    end_so p h = machines_end p w limit s.rooms coarrays n fails_at words h

    -- an image of which the program does nothing more is one of which the machine does nothing more
    machine_idle : (p : checked.Program) (h : HasWalksOn p limit n w) (i : ℕ) → IsIdle (program_rules p limit) (program_begins p coarrays n fails_at words) t i
        → IsIdle (lane_rules machine_step hears) (machines_begin w limit s.rooms coarrays n fails_at words) t i
    machine_idle p h i (inl ended) = inl ended
    machine_idle p h i (inr (line, a, waits)) = inr (line, a, waits_backward hears p w limit s.rooms coarrays n fails_at words h t (is_run p h) i line a waits)

    -- the run of each program goes on behind the trace as that of the machines does
    pub goes_onward : (m' : Moment (OnLane Engine) MadeMemory ℕ) (t' : List Entry) → IsTraceOn (lane_rules machine_step hears) (Rotate 0) m m' t'
        → IsKept (lane_rules machine_step hears) (machines_begin w limit s.rooms coarrays n fails_at words) m' → IsTraceOf m'.events t'
        → (p : checked.Program) → HasWalksOn p limit n w → GoesOn (program_rules p limit) (program_begins p coarrays n fails_at words) t t'
    goes_onward m' t' on kept trace p h =
        let g = goes_on (lane_rules machine_step hears) (machines_begin w limit s.rooms coarrays n fails_at words) t t' s.from m m' s.begins s.made s.run on kept trace in
        record {
          fronts = g.fronts;
          ended = g.ended;
          idle = λ all. g.idle (λ i in_run. machine_idle p h i (all i in_run));
          onward = λ none. order_onward hears p w limit s.rooms coarrays n fails_at words h Turns turning (turns_of t) t' (g.onward none);
        }
