-- What is known of the code of a program, and of a trace, is known of the program, and of the bytes of the trace.
use Rattle.std.proofs.Common.{◌≡◌, ℕ, List, map, sym, subst, ap, ◌∙◌}
use Rattle.std.specs.Prelude.{None, Result, Ok, Err, IfErr}
use Rattle.std.specs.Arc.{arc_value}
use Rattle.caf_events.specs.declared.event.Entry.{Entry}
use Rattle.caf_events.specs.declared.event.Trace.{Trace}
use Rattle.caf_report.specs.declared.report.Report.{Report}
use Rattle.checked_tree.specs.Statements.{Program}
use Rattle.coarray_memory.specs.Memories.{declared_of}
use Rattle.core_runs.specs.CoreRuns.{IsCoreRun}
use Rattle.final_values.specs.declared.listing.Listed.{Listed}
use Rattle.final_values.specs.Listings.{listed_of}
use Rattle.machine_runs.specs.Runs.{HasWalksOn}
use Rattle.program_run.specs.Finals.{AreProgramFinals}
use Rattle.program_run.specs.Reports.{IsProgramReport}
use Rattle.program_walks.specs.Runs.{program_rules, program_begins}
use Rattle.trace_forms.specs.Files.{Written}
use Rattle.trace_judge.specs.Verdicts.{IsFirstNot}
use Rattle.trace_replay.specs.Judging.{IsRunOfCode, IsNoRunOfCode}
use Rattle.trace_replay.specs.Replays.{GoesOn}
use Rattle.checked_run.specs.Coarrays.{names_of}
use Rattle.checked_run.specs.declared.running.Told.{Told}
use Rattle.checked_run.proofs.Laws.{has_walks}
use Rattle.checked_traces.specs.declared.beginning.Begun.{Begun}
use Rattle.checked_traces.specs.declared.no_run.NoRun.{NoRun}
use Rattle.checked_traces.specs.declared.no_run.NoRun.TheVariants as no_runs
use Rattle.checked_traces.specs.Beginnings.{BeginsAs}
use Rattle.checked_traces.specs.Traces.{IsRunAsTold, IsNoRunAt, IsNoRunOf, IsToldAs, IsReplayOf}

pub if_err_map : {A E : Type 0} (v : Result A E) (P Q : E → Type 0) → ((e : E) → P e → Q e) → IfErr v P → IfErr v Q
if_err_map (Ok a) P Q f h = h
if_err_map (Err e) P Q f h = f e h

module _ (p : Program) (b : Begun) (is : BeginsAs p b) (told : Told) (fails_at : ℕ → ℕ) (t : List Entry) where
  pub walks : HasWalksOn p told.limit told.images (arc_value b.code)
  walks = has_walks p (arc_value b.code) told.limit told.images is.code

  -- a run of the code is one of the program
  pub run_too : IsRunOfCode (arc_value b.code) told.limit (map declared_of b.coarrays.items) told.images fails_at told.words t → IsRunAsTold p told fails_at t
  run_too run = subst (λ ds. IsCoreRun (program_rules p told.limit) (program_begins p ds told.images fails_at told.words) t) is.coarrays (run p walks)

  pub no_run_too : (step : ℕ) → IsNoRunOfCode (arc_value b.code) told.limit (map declared_of b.coarrays.items) told.images fails_at told.words t step → IsNoRunAt p told fails_at t step
  no_run_too step none = subst (λ ds. IsFirstNot (program_rules p told.limit) (program_begins p ds told.images fails_at told.words) t step) is.coarrays (none p walks)

  -- a report of the code's run is one of the program's
  pub replay_too : (report : Report) (names : List (List ℕ)) (listed : List Listed) → names ≡ names_of p → listed ≡ listed_of p
      → ((q : Program) → HasWalksOn q told.limit told.images (arc_value b.code) → IsProgramReport q told.limit (map declared_of b.coarrays.items) told.images fails_at told.words None report)
      → ((q : Program) → HasWalksOn q told.limit told.images (arc_value b.code) → GoesOn (program_rules q told.limit) (program_begins q (map declared_of b.coarrays.items) told.images fails_at told.words) t report.trace.entries)
      → report.names ≡ names
      → ((q : Program) → HasWalksOn q told.limit told.images (arc_value b.code) → AreProgramFinals q told.limit (map declared_of b.coarrays.items) told.images fails_at told.words listed report.trace.entries report.finals)
      → IsReplayOf p told fails_at t report
  replay_too report names listed named listing run onward with_names finals = record {
    run = subst (λ ds. IsProgramReport p told.limit ds told.images fails_at told.words None report) is.coarrays (run p walks);
    onward = subst (λ ds. GoesOn (program_rules p told.limit) (program_begins p ds told.images fails_at told.words) t report.trace.entries) is.coarrays (onward p walks);
    names = with_names ∙ named;
    finals =
        subst (λ ds. AreProgramFinals p told.limit ds told.images fails_at told.words (listed_of p) report.trace.entries report.finals) is.coarrays
        (subst (λ ls. AreProgramFinals p told.limit (map declared_of b.coarrays.items) told.images fails_at told.words ls report.trace.entries report.finals) listing (finals p walks));
  }

-- what keeps a trace from being that of a run keeps the bytes that are written for it from being so
pub told_as : (p : Program) (told : Told) (fails_at : ℕ → ℕ) (bytes : List ℕ) (t : Trace) → Written bytes (names_of p) t.entries → (cause : NoRun) → IsNoRunOf p told fails_at t.entries cause → IsToldAs p told fails_at bytes cause
told_as p told fails_at bytes t written (no_runs.BadTrace line) is = absurd is
told_as p told fails_at bytes t written (no_runs.NotARun step) is = (t, written, is)
told_as p told fails_at bytes t written (no_runs.Unrunnable line) is = is
