use Rattle.std.proofs.Common.{◌≡◌, ℕ, List, [], inl, inr, refl, sym, subst, arith}
use Rattle.std.specs.Prelude.{Option, None, Some}
use Rattle.caf_base.specs.Outside.{Files}
use Rattle.caf_report.specs.declared.report.Report.{Report}
use Rattle.caf_words.specs.Usages.{Word}
use Rattle.caf_words.specs.Words.{Origin, Operands, words_in, IsCommand, IsRun, IsTraced, MayShow}
use Rattle.caf_words.specs.Words.Origin.{from_file, from_made}
use Rattle.caf_words.specs.Words.Operands.{of_source, of_trace}
use Rattle.caf_words.specs.declared.command.Goal.{Goal}
use Rattle.caf_words.specs.declared.command.Goal.TheVariants.{Judge, Replay}
use Rattle.caf_words.specs.declared.command.Verb.{Verb}
use Rattle.caf_words.specs.declared.command.Verb.TheVariants as verbs
use Rattle.caf_words.proofs.Meanings.{one_command, not_command_and_check, not_command_and_make}
use Rattle.caf_words.specs.declared.command.Options.{Options}
use Rattle.caf_words.specs.declared.command.FailAt.{FailAt}
use Rattle.caf_run.specs.declared.task.Task.{Task}
use Rattle.caf_run.specs.declared.task.Task.TheVariants.{Check, Run, Traced}
use Rattle.checked_run.specs.Reports.{IsRunStatus}
use Rattle.caf_run.specs.Dues.{IsDoneStatus, IsGoodStatus, IsNoRunStatus, IsSaidStatus, IsDue, IsReported, IsTaskDone, ReplaysSome, ReportClause, RunClause, CompletenessClause}
use Rattle.caf_run.specs.Tasks.{Asks, NamesNoFile}
use Rattle.work_maker.specs.MadeSource.{made_source}
use Rattle.caf_run.proofs.Settled.{not_run, run_or_none, all_short}
use Rattle.caf_run.proofs.Made.{made_short, made_good, made_no_input, made_trace}
use Rattle.caf_run.proofs.top.caf.Goals as goal

pub returns-clause-untouched : goal.returns-clause-untouched
returns-clause-untouched g c h = c.what_is_due.ensures.untouched (subst (λ w. NamesNoFile (words_in w)) (sym c.as_slice.ensures.value) h)

pub returns-in-Ok-write_all-clause-untouched : goal.returns-in-Ok-write_all-clause-untouched
returns-in-Ok-write_all-clause-untouched g c h = c.what_is_due.ensures.untouched (subst (λ w. NamesNoFile (words_in w)) (sym c.as_slice.ensures.value) h)

pub returns-in-Ok-clause-untouched : goal.returns-in-Ok-clause-untouched
returns-in-Ok-clause-untouched g c h = c.what_is_due.ensures.untouched (subst (λ w. NamesNoFile (words_in w)) (sym c.as_slice.ensures.value) h)

-- what is said of a trace without a report is no status of a run, where a report may be shown
said_not_run : (v : Verb) (goal : Goal) (status : ℕ) → v ≡ verbs.Traced goal → MayShow v → IsSaidStatus goal status → IsRunStatus status → ⊥
said_not_run v Judge status is shows said run = subst MayShow is shows
said_not_run v Replay status is shows said run = run_or_none status run said

-- what is told with a status of a run: its report, where the words run a source or replay a trace
report_there : (words : List Word) (v : Verb) (o : Options) (fails : List FailAt) (x : Operands) (status : ℕ) (text : List ℕ) (report : Option Report) → MayShow v → IsCommand v words o fails x
    → ReportClause words report status text → IsRunStatus status → IsReported report status
report_there words v o fails x status text None shows asked (inr (inr (inr (inr (inl (zero, inl ((other, check), ok))))))) run = absurd (not_command_and_check v words o fails x other asked check)
report_there words v o fails x status text None shows asked (inr (inr (inr (inr (inl (zero, inr (seed, size, make))))))) run = absurd (not_command_and_make v words o fails x seed size asked make)
report_there words v o fails x status text None shows asked (inr (inr (inr (inr (inr (goal, o', fails', trace, file, named, said)))))) run =
    absurd (said_not_run v goal status (one_command v (verbs.Traced goal) words o fails x o' fails' (of_trace trace file) asked named).verb shows said run)
report_there words v o fails x status text None shows asked (inl s) run = absurd (not_run status run (inl s))
report_there words v o fails x status text None shows asked (inr (inl s)) run = absurd (not_run status run (inr (inl s)))
report_there words v o fails x status text None shows asked (inr (inr (inl s))) run = absurd (not_run status run (inr (inr (inl s))))
report_there words v o fails x status text None shows asked (inr (inr (inr (inl s)))) run = absurd (not_run status run (inr (inr (inr s))))
report_there words v o fails x status text (Some r) shows asked clause run = (r, refl, clause.1)

-- no report, where they don't
report_none : (words : List Word) (files : Option Files) (report : Option Report) → ((o : Options) (fails : List FailAt) (origin : Origin) → IsRun words o fails origin → ⊥) → (ReplaysSome words → ⊥) → RunClause words files report → report ≡ None
report_none words files None no_run no_replay ran = refl
report_none words files (Some r) no_run no_replay (inl (o, fails, origin, bytes, p, run, whole, stands, of)) = absurd (no_run o fails origin run)
report_none words files (Some r) no_run no_replay (inr replays) = absurd (no_replay replays)

-- nor where they judge a trace, or the status says that it is that of no run
judge_none : (words : List Word) (o : Options) (fails : List FailAt) (trace file : Word) (status : ℕ) (text : List ℕ) (report : Option Report) → IsTraced Judge words o fails trace file → ReportClause words report status text → report ≡ None
judge_none words o fails trace file status text None asked clause = refl
judge_none words o fails trace file status text (Some r) asked (run, of, (v, o', fails', x, shows, named, is)) =
    absurd (subst MayShow (sym (one_command (verbs.Traced Judge) v words o fails (of_trace trace file) o' fails' x asked named).verb) shows)

none_none : (words : List Word) (status : ℕ) (text : List ℕ) (report : Option Report) → ReportClause words report status text → IsNoRunStatus status → report ≡ None
none_none words status text None clause none = refl
none_none words status text (Some r) clause none = absurd (run_or_none status clause.0 none)

replay_done : (words : List Word) (o : Options) (fails : List FailAt) (trace file : Word) (status : ℕ) (text : List ℕ) (report : Option Report) → IsTraced Replay words o fails trace file → ReportClause words report status text
    → IsGoodStatus status → IsTaskDone (Traced Replay o fails) report status
replay_done words o fails trace file status text report asked clause (inl run) = inl (report_there words (verbs.Traced Replay) o fails (of_trace trace file) status text report tt asked clause run)
replay_done words o fails trace file status text report asked clause (inr none) = inr (rw (none_none words status text report clause none) refl, none)

task_done : (words : List Word) (task : Task) (origin : Origin) (files : Option Files) (status : ℕ) (text : List ℕ) (report : Option Report) → Asks words task origin → ReportClause words report status text → RunClause words files report
    → IsDoneStatus task status → IsTaskDone task report status
task_done words Check (from_file file) files status text report asked clause ran done = (
  rw (report_none words files report (λ o fails origin run. not_command_and_check verbs.Run words o fails (of_source origin) file run asked)
      (λ (o, fails, trace, other, named). not_command_and_check (verbs.Traced Replay) words o fails (of_trace trace other) file named asked) ran) refl,
  done,
)
task_done words Check (from_made seed size) files status text report asked clause ran done = absurd asked
task_done words (Run o fails) origin files status text report asked clause ran done = report_there words verbs.Run o fails (of_source origin) status text report tt asked clause done
task_done words (Traced goal o fails) (from_made seed size) files status text report asked clause ran done = absurd asked
task_done words (Traced Judge o fails) (from_file file) files status text report (trace, asked) clause ran done = (rw (judge_none words o fails trace file status text report asked clause) refl, done)
task_done words (Traced Replay o fails) (from_file file) files status text report (trace, asked) clause ran done = replay_done words o fails trace file status text report asked clause done

-- what is due for a source that is good, and for words that make one
pub complete_of : (words : List Word) (files : Option Files) (left' : Option (List ℕ)) (faults faults' sink_faults sink_faults' status : ℕ) (text : List ℕ) (report : Option Report) → IsDue words files left' faults faults' status text report
    → CompletenessClause words files faults faults' sink_faults sink_faults' status report
complete_of words files left' faults faults' sink_faults sink_faults' status text report due = record {
  task_done = λ task origin traced bytes asked given has few good still _. elim (due.exact.settled task origin traced bytes asked given has) [
    | inl settle ↦ inl (task_done words task origin files status text report asked due.reported due.ran (settle.done.1 (few, good)))
    | inr rose ↦ absurd (still rose.1)
  ];
  made_done = λ task seed size asked _. elim (due.exact.settled task (from_made seed size) [] (made_source seed size) asked (made_trace words files task seed size asked) refl) [
    | inl settle ↦
        inl (task_done words task (from_made seed size) files status text report asked due.reported due.ran
        (settle.done.1 (all_short task [] (made_source seed size) (omega arith) (made_short words task seed size asked), made_good words task seed size asked)))
    | inr stopped ↦ (let fault = due.causes.read_fault stopped.0 in absurd (made_no_input words task seed size fault.0 asked fault.1))
  ];
  source_made = λ seed size make _. inl (
    rw (report_none words files report (λ o fails origin run. not_command_and_make verbs.Run words o fails (of_source origin) seed size run make)
        (λ (o, fails, trace, file, named). not_command_and_make (verbs.Traced Replay) words o fails (of_trace trace file) seed size named make) due.ran) refl,
    (due.made seed size make).0,
  );
}

pub returns-in-Ok-write_all-clause-complete : goal.returns-in-Ok-write_all-clause-complete
returns-in-Ok-write_all-clause-complete g c =
    complete_of (words_in c.args.words.now.items) (g.S.Source.files c.args.source.now) (g.S.Source.left c.what_is_due.new.source) (g.S.Source.faults c.args.source.now) (g.S.Source.faults c.what_is_due.new.source)
    (g.K.Sink.faults c.args.sink.now) (g.K.Sink.faults c.write_all.new.sink) c.in-Ok.field-0.status c.in-Ok.field-0.text.items c.in-Ok.field-0.report
    (subst (λ w. IsDue (words_in w) (g.S.Source.files c.args.source.now) (g.S.Source.left c.what_is_due.new.source) (g.S.Source.faults c.args.source.now) (g.S.Source.faults c.what_is_due.new.source) c.in-Ok.field-0.status c.in-Ok.field-0.text.items c.in-Ok.field-0.report) c.as_slice.ensures.value c.in-Ok.ensures.due)
