-- What is answered of the bytes of a trace, by a checked program.
use Rattle.std.proofs.Common.{◌≡◌, ℕ, List, inl, inr, sym, ap, ◌∙◌, subst}
use Rattle.std.specs.Prelude.{Option, None, Some}
use Rattle.checked_tree.specs.Statements as typed
use Rattle.fortran_tree.specs.Units.{Program}
use Rattle.rule_definitions.specs.Acceptance.{Accepts}
use Rattle.caf_events.specs.declared.event.Trace.{Trace}
use Rattle.caf_report.specs.declared.report.Race.{Race}
use Rattle.caf_report.specs.declared.report.Report.{Report}
use Rattle.caf_report.specs.Ends.{status_of}
use Rattle.lane_parts.specs.FirstLanes.{fails_at}
use Rattle.trace_replay.specs.Judging.{IsRaceOf}
use Rattle.checked_run.specs.Coarrays.{names_of}
use Rattle.checked_run.specs.declared.running.Told.{Told}
use Rattle.checked_run.specs.Reports.{IsRunStatus}
use Rattle.checked_run.proofs.Programs.{run_status}
use Rattle.accepted_runs.proofs.Programs.{can_run}
use Rattle.checked_traces.specs.Traces.{TraceEnd, ComesTo, IsToldAs, IsReplayOfBytes}
use Rattle.checked_traces.specs.Traces.TraceEnd.{bad_at, stops_at, core_run}
use Rattle.checked_traces.specs.declared.no_run.NoRun.{NoRun}
use Rattle.checked_traces.specs.declared.no_run.NoRun.TheVariants as no_runs
use Rattle.caf_words.specs.declared.command.FailAt.{FailAt}
use Rattle.caf_words.specs.declared.command.Goal.{Goal}
use Rattle.caf_words.specs.declared.command.Goal.TheVariants.{Judge, Replay}
use Rattle.caf_words.specs.declared.command.Options.{Options}
use Rattle.caf_run.specs.declared.task.Task.TheVariants.{Traced}
use Rattle.caf_run.specs.Dues.{IsDoneStatus, IsNoRunStatus, IsSaidStatus, IsTold, RanAs, TreeDue}
use Rattle.caf_run.specs.Failures.{first_failure}
use Rattle.caf_run.specs.Tasks.{told_of}
use Rattle.caf_run.specs.RunTexts.{IsRunText}
use Rattle.caf_run.specs.Traces.{core_run_status, core_run_text, IsAnsweredAs, IsTraceAnswer, IsNoRunSaid, IsOfBytes}
use Rattle.caf_run.proofs.Settled.{not_done}

-- failures that are kept by image are those of the words
all_failures : (events : List ℕ) (fails : List FailAt) → ((i : ℕ) → fails_at events i ≡ first_failure fails i) → fails_at events ≡ first_failure fails
all_failures events fails same = λ i image. same image i

-- an accepted program can be run, so that it is the bytes that keep a trace from being that of a run
pub of_bytes : (x : Program) (p : typed.Program) (told : Told) (f : ℕ → ℕ) (traced : List ℕ) (no_run : NoRun) → Accepts x p → IsToldAs p told f traced no_run → IsOfBytes no_run
of_bytes x p told f traced (no_runs.BadTrace line) accepts is = tt
of_bytes x p told f traced (no_runs.NotARun step) accepts is = tt
of_bytes x p told f traced (no_runs.Unrunnable line) accepts is = is.cannot (can_run x p accepts)

no_run_answers : (goal : Goal) (p : typed.Program) (o : Options) (fails : List FailAt) (traced : List ℕ) (no_run : NoRun) (status : ℕ) (text : List ℕ) (report : Option Report)
    → IsToldAs p (told_of o) (first_failure fails) traced no_run → IsNoRunSaid no_run status text report → IsTraceAnswer goal p o fails traced status text report
no_run_answers goal p o fails traced (no_runs.BadTrace line) status text report comes said = (bad_at line, comes, said)
no_run_answers goal p o fails traced (no_runs.NotARun step) status text report comes said = (stops_at step, comes, said)
no_run_answers goal p o fails traced (no_runs.Unrunnable line) status text report comes said = absurd said

pub no_run_answer : (goal : Goal) (p : typed.Program) (o : Options) (fails : List FailAt) (events : List ℕ) (traced : List ℕ) (no_run : NoRun) (status : ℕ) (text : List ℕ) (report : Option Report)
    → ((i : ℕ) → fails_at events i ≡ first_failure fails i) → IsToldAs p (told_of o) (fails_at events) traced no_run → IsNoRunSaid no_run status text report → IsTraceAnswer goal p o fails traced status text report
no_run_answer goal p o fails events traced no_run status text report same comes said =
    no_run_answers goal p o fails traced no_run status text report (subst (λ f. IsToldAs p (told_of o) f traced no_run) (all_failures events fails same) comes) said

pub judged_answer : (p : typed.Program) (o : Options) (fails : List FailAt) (events : List ℕ) (traced : List ℕ) (trace : Trace) (names : List (List ℕ)) (race : Option Race) (status : ℕ) (text : List ℕ) (report : Option Report)
    → ((i : ℕ) → fails_at events i ≡ first_failure fails i) → ComesTo p (told_of o) (fails_at events) traced (core_run trace) → IsRaceOf o.images trace race → names ≡ names_of p → status ≡ core_run_status race
    → text ≡ core_run_text names trace race → report ≡ None → IsTraceAnswer Judge p o fails traced status text report
judged_answer p o fails events traced trace names race status text report same comes is named s t r =
    (core_run trace, subst (λ f. ComesTo p (told_of o) f traced (core_run trace)) (all_failures events fails same) comes, (race, is, s, t ∙ ap (λ n. core_run_text n trace race) named, r))

pub replayed_answer : (p : typed.Program) (o : Options) (fails : List FailAt) (events : List ℕ) (traced : List ℕ) (made : Report) (status : ℕ) (text : List ℕ) (report : Option Report)
    → ((i : ℕ) → fails_at events i ≡ first_failure fails i) → IsReplayOfBytes p (told_of o) (fails_at events) traced made → report ≡ Some made → status ≡ status_of made.end → IsRunText o made text
    → IsTraceAnswer Replay p o fails traced status text report
replayed_answer p o fails events traced made status text report same replay r s t =
    let (trace, comes, is) = subst (λ f. IsReplayOfBytes p (told_of o) f traced made) (all_failures events fails same) replay in
    (core_run trace, comes, (made, r, is, s, t))

-- what is answered is a status with which the task is done, and told of it
answered_done : (goal : Goal) (p : typed.Program) (o : Options) (fails : List FailAt) (end : TraceEnd) (status : ℕ) (text : List ℕ) (report : Option Report) → IsAnsweredAs goal p o fails end status text report
    → IsDoneStatus (Traced goal o fails) status
answered_done Judge p o fails (bad_at line) status text report (s, t, r) = inr (inr s)
answered_done Replay p o fails (bad_at line) status text report (s, t, r) = inr (inr s)
answered_done Judge p o fails (stops_at step) status text report (s, t, r) = inr (inl s)
answered_done Replay p o fails (stops_at step) status text report (s, t, r) = inr (inl s)
answered_done Judge p o fails (core_run trace) status text report (None, is, s, t, r) = inl (inl s)
answered_done Judge p o fails (core_run trace) status text report (Some race, is, s, t, r) = inl (inr s)
answered_done Replay p o fails (core_run trace) status text report (made, r, is, s, t) = inl (subst IsRunStatus (sym s) (run_status made.end))

said_status : (goal : Goal) (status : ℕ) → IsNoRunStatus status → IsSaidStatus goal status
said_status Judge status none = inr none
said_status Replay status none = none

answered_told : (goal : Goal) (p : typed.Program) (o : Options) (fails : List FailAt) (end : TraceEnd) (status : ℕ) (text : List ℕ) (report : Option Report) → IsAnsweredAs goal p o fails end status text report
    → IsTold (Traced goal o fails) report status text
answered_told goal p o fails (bad_at line) status text report (s, t, r) = subst (λ v. IsTold (Traced goal o fails) v status text) (sym r) (inr (inr (inr (inr (said_status goal status (inr s))))))
answered_told goal p o fails (stops_at step) status text report (s, t, r) = subst (λ v. IsTold (Traced goal o fails) v status text) (sym r) (inr (inr (inr (inr (said_status goal status (inl s))))))
answered_told Judge p o fails (core_run trace) status text report (race, is, s, t, r) =
    subst (λ v. IsTold (Traced Judge o fails) v status text) (sym r) (inr (inr (inr (inr (answered_done Judge p o fails (core_run trace) status text report (race, is, s, t, r))))))
answered_told Replay p o fails (core_run trace) status text report (made, r, is, s, t) =
    subst (λ v. IsTold (Traced Replay o fails) v status text) (sym r) (subst IsRunStatus (sym s) (run_status made.end), s, t)

ran_free : (goal : Goal) (o : Options) (fails : List FailAt) (K : typed.Program → Type 0) (report : Option Report) → RanAs (Traced goal o fails) K report
ran_free goal o fails K None = tt
ran_free goal o fails K (Some r) = tt

-- what is due for an accepted program and the bytes of a trace
pub tree_trace : (x : Program) (p : typed.Program) (goal : Goal) (o : Options) (fails : List FailAt) (traced : List ℕ) (status : ℕ) (text : List ℕ) (report : Option Report) → Accepts x p
    → IsTraceAnswer goal p o fails traced status text report → TreeDue x (Traced goal o fails) traced status text report
tree_trace x p goal o fails traced status text report accepts (end, comes, said) = record {
  known = inl done;
  refused = λ three. absurd (not_done (Traced goal o fails) status done (inr (inl three)));
  done = λ _. (p, accepts);
  told = answered_told goal p o fails end status text report said;
  ran = ran_free goal o fails (Accepts x) report;
  answered = λ good. (p, accepts, (end, comes, said));
}
  where
    done : IsDoneStatus (Traced goal o fails) status
    done = answered_done goal p o fails end status text report said
