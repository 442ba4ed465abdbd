-- What is answered where the words judge or replay a trace: by what its bytes come to for a checked program, on the
-- images of the words, with their limits and failures.
use Rattle.std.specs.Prelude.{ℕ, ◌≡◌, List, [], ◌++◌, codes, Option, None, Some}
use Rattle.std.specs.Fmt.{decimal}
use Rattle.caf_events.specs.declared.event.Trace.{Trace}
use Rattle.caf_report.specs.declared.report.Race.{Race}
use Rattle.caf_report.specs.declared.report.Report.{Report}
use Rattle.caf_report.specs.Ends.{status_of}
use Rattle.caf_report.specs.ReportText.{race_line}
use Rattle.caf_words.specs.declared.command.FailAt.{FailAt}
use Rattle.caf_words.specs.declared.command.Goal.{Goal}
use Rattle.caf_words.specs.declared.command.Goal.TheVariants.{Judge, Replay}
use Rattle.caf_words.specs.declared.command.Options.{Options}
use Rattle.checked_tree.specs.Statements.{Program}
use Rattle.checked_run.specs.Coarrays.{names_of}
use Rattle.checked_traces.specs.Traces.{TraceEnd, ComesTo, IsReplayOf}
use Rattle.checked_traces.specs.Traces.TraceEnd.{bad_at, stops_at, core_run}
use Rattle.checked_traces.specs.declared.no_run.NoRun.{NoRun}
use Rattle.checked_traces.specs.declared.no_run.NoRun.TheVariants as no_runs
use Rattle.trace_replay.specs.Judging.{IsRaceOf}
use Rattle.caf_run.specs.Failures.{first_failure}
use Rattle.caf_run.specs.RunTexts.{IsRunText}
use Rattle.caf_run.specs.Tasks.{told_of}

-- the texts of what is said of a trace
abbrev pub bad_trace_text : ℕ → List ℕ
bad_trace_text line = codes "bad trace at line " ++ decimal line ++ codes "\n"

abbrev pub not_a_run_text : ℕ → List ℕ
not_a_run_text step = codes "not a run at step " ++ decimal step ++ codes "\n"

-- of one that is that of a run: `core run`, and then the line of its first race, where it has one
abbrev pub race_part : List (List ℕ) → Trace → Option Race → List ℕ
race_part names t None = []
race_part names t (Some race) = race_line names t.entries race

abbrev pub core_run_text : List (List ℕ) → Trace → Option Race → List ℕ
core_run_text names t race = codes "core run\n" ++ race_part names t race

abbrev pub core_run_status : Option Race → ℕ
core_run_status None = 0
core_run_status (Some race) = 5

-- a bad line, or the first step that is none of a run, is told; without a report
abbrev pub IsBadSaid : (line status : ℕ) (text : List ℕ) → Option Report → Type 0
IsBadSaid line status text report = (status ≡ 15) × (text ≡ bad_trace_text line) × (report ≡ None)

abbrev pub IsStopSaid : (step status : ℕ) (text : List ℕ) → Option Report → Type 0
IsStopSaid step status text report = (status ≡ 14) × (text ≡ not_a_run_text step) × (report ≡ None)

-- what a judge says of the trace of a run: whether it has a race, and its first one (ISO/IEC 1539-1:2018, 11.6.2)
abbrev pub IsJudgedAs : Program → Options → Trace → (status : ℕ) (text : List ℕ) → Option Report → Type 0
IsJudgedAs p o t status text report = (race : Option Race) × IsRaceOf o.images t race × (status ≡ core_run_status race) × (text ≡ core_run_text (names_of p) t race) × (report ≡ None)

-- what a replay of it comes to: the report of the run that goes on behind it
abbrev pub IsReplayedAs : Program → Options → List FailAt → Trace → (status : ℕ) (text : List ℕ) → Option Report → Type 0
IsReplayedAs p o fails t status text report =
    (r : Report) × (report ≡ Some r) × IsReplayOf p (told_of o) (first_failure fails) t.entries r × (status ≡ status_of r.end) × IsRunText o r text

-- how what the bytes come to is answered
abbrev pub IsAnsweredAs : Goal → Program → Options → List FailAt → TraceEnd → (status : ℕ) (text : List ℕ) → Option Report → Type 0
IsAnsweredAs goal p o fails (bad_at line) status text report = IsBadSaid line status text report
IsAnsweredAs goal p o fails (stops_at step) status text report = IsStopSaid step status text report
IsAnsweredAs Judge p o fails (core_run t) status text report = IsJudgedAs p o t status text report
IsAnsweredAs Replay p o fails (core_run t) status text report = IsReplayedAs p o fails t status text report

-- what the bytes of a trace come to by a program is answered
abbrev pub IsTraceAnswer : Goal → Program → Options → List FailAt → (traced : List ℕ) (status : ℕ) (text : List ℕ) → Option Report → Type 0
IsTraceAnswer goal p o fails traced status text report = (end : TraceEnd) × ComesTo p (told_of o) (first_failure fails) traced end × IsAnsweredAs goal p o fails end status text report

-- the machine can run the program, so that it is the bytes that keep a trace from being that of a run
abbrev pub IsOfBytes : NoRun → Type 0
IsOfBytes (no_runs.Unrunnable line) = ⊥
IsOfBytes no_run = Unit {0}

-- what is said of it
abbrev pub IsNoRunSaid : NoRun → (status : ℕ) (text : List ℕ) → Option Report → Type 0
IsNoRunSaid (no_runs.BadTrace line) status text report = IsBadSaid line status text report
IsNoRunSaid (no_runs.NotARun step) status text report = IsStopSaid step status text report
IsNoRunSaid (no_runs.Unrunnable line) status text report = ⊥
