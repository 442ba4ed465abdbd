-- What the bytes of a trace come to by a checked program, and the report of the run that goes on behind it.
use Rattle.std.specs.Prelude.{ℕ, ◌≡◌, List, Option, None}
use Rattle.caf_events.specs.declared.event.Entry.{Entry}
use Rattle.caf_events.specs.declared.event.Trace.{Trace}
use Rattle.caf_report.specs.declared.report.Report.{Report}
use Rattle.checked_tree.specs.Statements.{Program}
use Rattle.core_runs.specs.CoreRuns.{IsCoreRun}
use Rattle.final_values.specs.Listings.{listed_of}
use Rattle.program_run.specs.Finals.{AreProgramFinals}
use Rattle.program_run.specs.Reports.{IsProgramReport}
use Rattle.program_walks.specs.Runs.{program_rules, program_begins}
use Rattle.trace_forms.specs.Files.{lines_of, Written, IsBadLine}
use Rattle.trace_judge.specs.Verdicts.{IsFirstNot}
use Rattle.trace_replay.specs.Replays.{GoesOn}
use Rattle.checked_run.specs.Coarrays.{coarrays_of, names_of}
use Rattle.checked_run.specs.Runnable.{IsUnrunnable}
use Rattle.checked_run.specs.declared.running.Told.{Told}
use Rattle.checked_traces.specs.declared.no_run.NoRun.{NoRun}
use Rattle.checked_traces.specs.declared.no_run.NoRun.TheVariants as no_runs

-- what the bytes of a trace come to: they are written for no trace, from this line on; for one that is that of no run,
-- from this step on; or for that of a run
pub data TraceEnd : Type 0 where
  bad_at : ℕ → TraceEnd
  stops_at : ℕ → TraceEnd
  core_run : Trace → TraceEnd

module _ (p : Program) (told : Told) (fails_at : ℕ → ℕ) where
  -- the trace is a core run of the program over its coarrays, on so many images, with these limits and failures
  abbrev pub IsRunAsTold : List Entry → Type 0
  IsRunAsTold t = IsCoreRun (program_rules p told.limit) (program_begins p (coarrays_of p) told.images fails_at told.words) t

  -- this is the first step at which it is none
  abbrev pub IsNoRunAt : List Entry → ℕ → Type 0
  IsNoRunAt t step = IsFirstNot (program_rules p told.limit) (program_begins p (coarrays_of p) told.images fails_at told.words) t step

  -- what the bytes come to, with the coarrays by their names
  abbrev pub ComesTo : List ℕ → TraceEnd → Type 0
  ComesTo bytes (bad_at line) = IsBadLine (lines_of bytes) (names_of p) line
  ComesTo bytes (stops_at step) = (t : Trace) × Written bytes (names_of p) t.entries × IsNoRunAt t.entries step
  ComesTo bytes (core_run t) = Written bytes (names_of p) t.entries × IsRunAsTold t.entries

  -- the trace is told not to be that of a run; or the machine can't run the program
  abbrev pub IsNoRunOf : List Entry → NoRun → Type 0
  IsNoRunOf t (no_runs.BadTrace line) = ⊥
  IsNoRunOf t (no_runs.NotARun step) = IsNoRunAt t step
  IsNoRunOf t (no_runs.Unrunnable line) = IsUnrunnable p line

  -- the bytes are told not to be the trace of a run; or the machine can't run the program
  abbrev pub IsToldAs : List ℕ → NoRun → Type 0
  IsToldAs bytes (no_runs.BadTrace line) = ComesTo bytes (bad_at line)
  IsToldAs bytes (no_runs.NotARun step) = ComesTo bytes (stops_at step)
  IsToldAs bytes (no_runs.Unrunnable line) = IsUnrunnable p line

  -- It is the report of a run of the program over its coarrays, with their names, which goes on behind the trace. Its
  -- final values are those of the integer and logical variables of the main program.
  pub record IsReplayOf (t : List Entry) (report : Report) : Type 0 where
    pub run : IsProgramReport p told.limit (coarrays_of p) told.images fails_at told.words None report
    pub onward : GoesOn (program_rules p told.limit) (program_begins p (coarrays_of p) told.images fails_at told.words) t report.trace.entries
    pub names : report.names ≡ names_of p
    pub finals : AreProgramFinals p told.limit (coarrays_of p) told.images fails_at told.words (listed_of p) report.trace.entries report.finals

  -- the bytes are written for the trace of a run, and the report is that of the run that goes on behind it
  abbrev pub IsReplayOfBytes : List ℕ → Report → Type 0
  IsReplayOfBytes bytes report = (t : Trace) × ComesTo bytes (core_run t) × IsReplayOf t.entries report
