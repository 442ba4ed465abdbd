-- What a trace is for the code of a program, and where the parts of its run stand behind it.
use Rattle.std.specs.Prelude.{ℕ, List, Option, ⊤, MatchOption}
use Rattle.caf_events.specs.declared.event.Entry.{Entry}
use Rattle.caf_events.specs.declared.event.Trace.{Trace}
use Rattle.checked_tree.specs.Statements as checked
use Rattle.core_runs.specs.Beginnings.{IsFirst}
use Rattle.core_runs.specs.CoreRuns.{IsCoreRun}
use Rattle.core_runs.specs.Moments.{Moment}
use Rattle.order_axioms.specs.FirstRaces.{HasNoRace}
use Rattle.order_axioms.specs.Touching.{touches}
use Rattle.order_axioms.specs.Views.{edges}
use Rattle.object_rules.specs.Cells.{Declared, MadeMemory}
use Rattle.image_code.specs.Code.{Whole}
use Rattle.image_state.specs.declared.state.Rooms.{Rooms}
use Rattle.image_machine.specs.Engine.{Engine}
use Rattle.image_machine.specs.Walk.{machine_step}
use Rattle.image_lanes.specs.Lanes.{OnLane}
use Rattle.image_lanes.specs.LaneRuns.{lane_rules}
use Rattle.program_walks.specs.Runs.{program_rules, program_begins}
use Rattle.machine_runs.specs.Runs.{HasWalksOn, machines_begin}
use Rattle.program_run.specs.Machines.{hears}
use Rattle.caf_report.specs.declared.report.Race.{Race}
use Rattle.caf_report.specs.Ends.{RaceStands}
use Rattle.order_report.specs.Reports.{IsRace}
use Rattle.judged_run.specs.Judging.{IsRunTo, Leads}
use Rattle.trace_judge.specs.Verdicts.{IsFirstNot}

-- the first race of the trace of a run of n images, None where it has none (11.6.2)
abbrev pub IsRaceOf : (n : ℕ) → Trace → Option Race → Type 0
IsRaceOf n t race = MatchOption race (HasNoRace (edges n) touches t.entries) (IsRace n t)

-- the race, where there is one, stands in the trace
abbrev pub RaceIn : Trace → Option Race → Type 0
RaceIn t race = MatchOption race ⊤ (RaceStands t)

module _ (w : Whole) (limit : ℕ) (coarrays : List Declared) (n : ℕ) (fails_at : ℕ → ℕ) (words : ℕ) (t : List Entry) where
  -- the trace is a core run of each program whose walks the code has
  abbrev pub IsRunOfCode : Type 0
  IsRunOfCode = (p : checked.Program) → HasWalksOn p limit n w → IsCoreRun (program_rules p limit) (program_begins p coarrays n fails_at words) t

  -- this is the first step at which it is none
  abbrev pub IsNoRunOfCode : ℕ → Type 0
  IsNoRunOfCode step = (p : checked.Program) → HasWalksOn p limit n w → IsFirstNot (program_rules p limit) (program_begins p coarrays n fails_at words) t step

  -- the machines of the code have made the steps of the trace, from the first moment of their run to this one
  pub record StandsBehind (m : Moment (OnLane Engine) MadeMemory ℕ) : Type 0 where
    pub rooms : ℕ → Rooms
    pub from : Moment (OnLane Engine) MadeMemory ℕ
    pub begins : IsFirst (lane_rules machine_step hears) (machines_begin w limit rooms coarrays n fails_at words) from
    pub made : Leads (lane_rules machine_step hears) from t m
    pub run : IsRunTo (lane_rules machine_step hears) (machines_begin w limit rooms coarrays n fails_at words) t m
