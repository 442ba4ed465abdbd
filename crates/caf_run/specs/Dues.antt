-- What a call of the program owes: the status and the text that are due, and what the words, the source, the trace and
-- the run have to do with them.
use Rattle.std.specs.Prelude.{ℕ, ◌≡◌, ◌≤◌, ◌<◌, ◌⊎◌, ◌↔◌, List, ◌++◌, length, codes, Option, None, Some, IsNone}
use Rattle.std.specs.Fmt.{decimal}
use Rattle.std.specs.Io.KnownBytes.{Appends, Keeps}
use Rattle.caf_base.specs.Outside.{Files, Rose, HaveNot, MayNotBegin}
use Rattle.caf_report.specs.declared.report.Report.{Report}
use Rattle.caf_report.specs.Ends.{status_of}
use Rattle.fortran_tree.specs.Units.{Program}
use Rattle.checked_tree.specs.Statements as typed
use Rattle.rule_definitions.specs.Acceptance.{Accepts}
use Rattle.caf_base.specs.declared.place.Pos.{Pos}
use Rattle.caf_words.specs.Usages.{Word}
use Rattle.caf_words.specs.Words.{Origin, Operands, MayShow, IsCommand, IsRun, IsTraced, IsMake, ChecksSome, MakesSome, IsValid, UsageIs}
use Rattle.caf_words.specs.Words.Origin.{from_file, from_made}
use Rattle.caf_words.specs.declared.command.FailAt.{FailAt}
use Rattle.caf_words.specs.declared.command.Goal.{Goal}
use Rattle.caf_words.specs.declared.command.Goal.TheVariants.{Judge, Replay}
use Rattle.caf_words.specs.declared.command.Options.{Options}
use Rattle.caf_words.specs.declared.command.Verb.{Verb}
use Rattle.caf_run.specs.declared.task.Task.{Task}
use Rattle.caf_run.specs.declared.task.Task.TheVariants.{Check, Run, Traced}
use Rattle.caf_run.specs.Tasks.{Asks, NamesSource, NamesFile, NamesTrace, NamesInput, IsTrace, told_of}
use Rattle.caf_run.specs.RunTexts.{IsRunText}
use Rattle.caf_run.specs.Traces.{IsTraceAnswer}
use Rattle.caf_run.specs.Reading.{HasBytesIfTold, IsSourceIfTold, IsSource, IsLonger, IsLongTold, IsLongSource, HasNothingLeft}
use Rattle.work_maker.specs.MadeSource.{made_source}
use Rattle.checked_run.specs.Reports.{IsRunOf, IsRunStatus}
use Rattle.caf_run.specs.Failures.{first_failure}
use Rattle.caf_run.specs.Sources.{BreaksFirst, IsAccepted, StandsFor, IsGood, IsRefusal, refusal_text}
use Rattle.caf_run.specs.Writing.{GrewByProperPrefix}

-- the text where the words aren't valid
abbrev pub usage_text : ℕ → List ℕ
usage_text k = codes "usage: word " ++ decimal k ++ codes "\n"

-- the text of a check where the source is good
abbrev pub ok_text : List ℕ
ok_text = codes "ok\n"

-- a status that says that bytes are the trace of no run: it isn't that of one, or they are written for no trace
abbrev pub IsNoRunStatus : ℕ → Type 0
IsNoRunStatus s = (s ≡ 14) ⊎ (s ≡ 15)

-- a status that is due where the source is good alone: that of a run, or of a trace of none
abbrev pub IsGoodStatus : ℕ → Type 0
IsGoodStatus s = IsRunStatus s ⊎ IsNoRunStatus s

-- a status with which a trace is judged: 0 and 5 where it is that of a run, without and with a race
abbrev pub IsJudgeStatus : ℕ → Type 0
IsJudgeStatus s = ((s ≡ 0) ⊎ (s ≡ 5)) ⊎ IsNoRunStatus s

-- a status with which the task is done: 0 of a check, of a run that of its end, of a trace one of its own; so of a
-- replay that of the end, where the trace is that of a run
abbrev pub IsDoneStatus : Task → ℕ → Type 0
IsDoneStatus Check s = s ≡ 0
IsDoneStatus (Run o fails) s = IsRunStatus s
IsDoneStatus (Traced Judge o fails) s = IsJudgeStatus s
IsDoneStatus (Traced Replay o fails) s = IsGoodStatus s

-- the bytes aren't good
abbrev pub IsBad : List ℕ → Type 0
IsBad bytes = IsGood bytes → ⊥

-- Usage: status 2 is due where the words are no valid list, with their usage number; elsewhere they are one.
pub record UsageClause (words : List Word) (status : ℕ) (text : List ℕ) : Type 0 where
  pub wrong : status ≡ 2 → (k : ℕ) × UsageIs words k × (text ≡ usage_text k)
  pub valid : (status ≡ 2 → ⊥) → IsValid words

-- the bytes of the source that the words name: of FILE, read to its end, or those that SEED and SIZE make
abbrev pub HasSourceBytes : List Word → Option Files → List ℕ → Type 0
HasSourceBytes words files bytes = (origin : Origin) × NamesSource words origin × IsSourceIfTold files origin bytes

-- Refusal: status 3 is due where the source's bytes aren't good; the text has the number and the place of the refusal
-- that they have.
pub record RefusalClause (words : List Word) (files : Option Files) (status : ℕ) (text : List ℕ) : Type 0 where
  pub refused : status ≡ 3 → (bytes : List ℕ) × HasSourceBytes words files bytes × IsBad bytes × IsRefusal bytes text

-- Acceptance: where the status of a run, of a check or of a trace is due, the source's bytes are accepted; else the
-- words make a source.
pub record AcceptanceClause (words : List Word) (files : Option Files) (status : ℕ) : Type 0 where
  pub accepted : IsGoodStatus status → ((bytes : List ℕ) × HasSourceBytes words files bytes × IsAccepted bytes) ⊎ MakesSome words

-- the report is that of a run of the checked program as the words tell it: on their images, with their failures and
-- limits, and where they give a SEED in its order
abbrev pub IsToldRun : typed.Program → Options → List FailAt → Report → Type 0
IsToldRun p o fails r = IsRunOf p (told_of o) (first_failure fails) r

-- the words run a source, its bytes stand for a checked program, and the report is of its run as the words tell it
abbrev pub IsRunFrom : List Word → Option Files → Report → Type 0
IsRunFrom words files r = (o : Options) × (fails : List FailAt) × (origin : Origin) × (bytes : List ℕ) × (p : typed.Program) × IsRun words o fails origin × IsSourceIfTold files origin bytes
    × StandsFor bytes p × IsToldRun p o fails r

-- the words replay a trace
abbrev pub ReplaysSome : List Word → Type 0
ReplaysSome words = (o : Options) × (fails : List FailAt) × (trace : Word) × (file : Word) × IsTraced Replay words o fails trace file

-- Run: with a report, and where the words replay no trace, the report is of the run that they tell. So a race is told
-- exactly where the run's trace has one, and up to it each reference that isn't atomic gives the last definition in
-- segment order (`IsRunReport`: `end`, `allowed`).
abbrev pub RunClause : List Word → Option Files → Option Report → Type 0
RunClause words files None = Unit {0}
RunClause words files (Some r) = IsRunFrom words files r ⊎ ReplaysSome words

-- Trace: behind a good source, what the bytes of TRACE come to by a checked program for which the source's bytes
-- stand, as the words tell its run, is answered. So `core run` is said exactly where the bytes are those of the trace
-- of a run, with the line of its first race exactly where it has one; and the report of a replay is that of the run
-- that goes on behind the trace.
abbrev pub TraceClause : List Word → Option Files → (status : ℕ) (text : List ℕ) → Option Report → Type 0
TraceClause words files status text report =
    (goal : Goal) (o : Options) (fails : List FailAt) (trace file : Word) → IsTraced goal words o fails trace file → IsGoodStatus status
    → (traced : List ℕ) × (bytes : List ℕ) × (p : typed.Program) × HasBytesIfTold files trace traced × HasBytesIfTold files file bytes × StandsFor bytes p
    × IsTraceAnswer goal p o fails traced status text report

-- Input: after a run, a check, a judge, a replay or a refusal of a file nothing of it is left.
abbrev pub IsReadToEnd : Option Files → Option (List ℕ) → ℕ → Type 0
IsReadToEnd files left status = IsGoodStatus status ⊎ (status ≡ 3) → HasNothingLeft files left

abbrev pub InputClause : List Word → Option Files → Option (List ℕ) → ℕ → Type 0
InputClause words files left status = (file : Word) → NamesFile words file → IsReadToEnd files left status

-- the trace that the words name has more than 67,108,864 bytes, where the files are told
abbrev pub IsTraceLong : List Word → Option Files → Type 0
IsTraceLong words files = (trace : Word) × NamesTrace words trace × IsLonger files trace 67108864

-- the file of a source that they name has more than 1,048,576 bytes
abbrev pub IsFileLong : List Word → Option Files → Type 0
IsFileLong words files = (file : Word) × NamesFile words file × IsLonger files file 1048576

-- Causes: a read fault comes only of a file that the words name, where the count of faults rose or the files haven't
-- the name, and only a longer file or trace is too long: a source that words make never is.
pub record CausesClause (words : List Word) (files : Option Files) (faults faults' status : ℕ) (text : List ℕ) : Type 0 where
  pub read_fault : status ≡ 10 → (file : Word) × NamesInput words file × MayNotBegin files file faults faults' × (text ≡ codes "read fault\n")
  pub too_long : status ≡ 13 → (IsFileLong words files ⊎ IsTraceLong words files) × (text ≡ codes "too long\n")

-- the bytes of the source, or of the trace where the task is of one, are more than they may be; or none are
abbrev pub IsLong : Task → (traced bytes : List ℕ) → Type 0
IsLong (Traced goal o fails) traced bytes = (67108864 < length traced) ⊎ (1048576 < length bytes)
IsLong task traced bytes = 1048576 < length bytes

abbrev pub IsShort : Task → (traced bytes : List ℕ) → Type 0
IsShort (Traced goal o fails) traced bytes = (length traced ≤ 67108864) × (length bytes ≤ 1048576)
IsShort task traced bytes = length bytes ≤ 1048576

-- the bytes of the source and of the trace settle the status of a task: 13 exactly where they are too many, else 3
-- exactly where the source's aren't good, a status with which it is done exactly where they are
pub record Settle (task : Task) (traced bytes : List ℕ) (status : ℕ) : Type 0 where
  pub too_long : (status ≡ 13) ↔ IsLong task traced bytes
  pub refused : (status ≡ 3) ↔ (IsShort task traced bytes × IsBad bytes)
  pub done : IsDoneStatus task status ↔ (IsShort task traced bytes × IsGood bytes)

-- Exactness: where the files are told, 10 is due where they haven't TRACE, or haven't FILE and no TRACE is too long;
-- where they have them, their bytes settle the status, or 10 stands in its place after a rise of the count of faults.
-- So do the bytes that SEED and SIZE make.
pub record ExactClause (words : List Word) (files : Option Files) (faults faults' status : ℕ) : Type 0 where
  pub no_trace : (trace : Word) → NamesTrace words trace → HaveNot files trace → status ≡ 10
  pub long_trace : (trace : Word) → NamesTrace words trace → IsLongTold files trace 67108864 → (status ≡ 13) ⊎ ((status ≡ 10) × Rose faults faults')
  pub absent : (file : Word) → NamesFile words file → HaveNot files file → (status ≡ 10) ⊎ ((status ≡ 13) × IsTraceLong words files)
  pub settled : (task : Task) (origin : Origin) (traced bytes : List ℕ) → Asks words task origin → IsTrace words files task traced → IsSource files origin bytes
      → Settle task traced bytes status ⊎ ((status ≡ 10) × Rose faults faults')

-- Making: for `make SEED SIZE` status 0 is due, and the text is the source that they make.
abbrev pub MakingClause : List Word → ℕ → List ℕ → Type 0
MakingClause words status text = (seed : ℕ) (size : ℕ) → IsMake words seed size → (status ≡ 0) × (text ≡ made_source seed size)

-- Why: the text of a report is the one that the words ask for, which run a source or replay a trace. Where they ask why
-- and the run is stuck, the lines of the chain of waits that its trace tells stand behind the report's text; where they
-- ask whether the run speaks for every order, the last line says it: `every order` exactly where the trace is decided;
-- else it is the report's text alone (`IsRunText`).
abbrev pub IsTextOf : List Word → Report → List ℕ → Type 0
IsTextOf words r text = (verb : Verb) × (o : Options) × (fails : List FailAt) × (operands : Operands) × MayShow verb × IsCommand verb words o fails operands × IsRunText o r text

-- what is said where no run is asked for: `ok` of a check, or the source that the words make
abbrev pub IsSaid : List Word → List ℕ → Type 0
IsSaid words text = (ChecksSome words × (text ≡ ok_text)) ⊎ MakesSome words

-- the statuses that are due without a report of a judge, and of a replay
abbrev pub IsSaidStatus : Goal → ℕ → Type 0
IsSaidStatus Judge status = IsJudgeStatus status
IsSaidStatus Replay status = IsNoRunStatus status

-- such a status, where the words judge or replay a trace; `TraceClause` tells the text
abbrev pub IsSaidOfTrace : List Word → ℕ → Type 0
IsSaidOfTrace words status = (goal : Goal) × (o : Options) × (fails : List FailAt) × (trace : Word) × (file : Word) × IsTraced goal words o fails trace file × IsSaidStatus goal status

-- Report: one is there exactly where the status of a run or of a replay is due, which is that of its end, and the text
-- due is its text, with the final values, the trace, the summary, why the run is stuck and whether it speaks for every
-- order exactly where the words ask for them; without one
-- 0 is due of a check, whose text is `ok`, of words that make a source, and of a judge; 14 and 15 are due of a judge
-- and of a replay, and 5 of a judge.
abbrev pub ReportClause : List Word → Option Report → ℕ → List ℕ → Type 0
ReportClause words None status text = (status ≡ 2) ⊎ (status ≡ 3) ⊎ (status ≡ 10) ⊎ (status ≡ 13) ⊎ ((status ≡ 0) × IsSaid words text) ⊎ IsSaidOfTrace words status
ReportClause words (Some r) status text = IsRunStatus status × (status ≡ status_of r.end) × IsTextOf words r text

-- all that is due for these words over this source
pub record IsDue (words : List Word) (files : Option Files) (left' : Option (List ℕ)) (faults faults' status : ℕ) (text : List ℕ) (report : Option Report) : Type 0 where
  pub usage : UsageClause words status text
  pub refusal : RefusalClause words files status text
  pub acceptance : AcceptanceClause words files status
  pub input : InputClause words files left' status
  pub causes : CausesClause words files faults faults' status text
  pub exact : ExactClause words files faults faults' status
  pub made : MakingClause words status text
  pub reported : ReportClause words report status text
  pub ran : RunClause words files report
  pub traced : TraceClause words files status text report

-- Output: the status and the text that are due, or status 11 and a proper prefix of the text after a fault of the sink.
abbrev pub OutputClause : Option (List ℕ) → Option (List ℕ) → ℕ → ℕ → ℕ → ℕ → List ℕ → Type 0
OutputClause written written' faults faults' answered status text =
    ((answered ≡ status) × Appends written written' text) ⊎ ((answered ≡ 11) × Rose faults faults' × GrewByProperPrefix written written' text)

-- what the call did: all that is due, written as far as the sink took it
pub record IsDone (words : List Word) (files : Option Files) (left' : Option (List ℕ)) (faults faults' : ℕ) (written written' : Option (List ℕ)) (sink_faults sink_faults' answered : ℕ) (report : Option Report) : Type 0 where
  pub status : ℕ
  pub text : List ℕ
  pub due : IsDue words files left' faults faults' status text report
  pub output : OutputClause written written' sink_faults sink_faults' answered status text

-- what a call answers: all that is due, done; or status 12 with no report and nothing written
abbrev pub IsAnswer : List Word → Option Files → Option (List ℕ) → ℕ → ℕ → Option (List ℕ) → Option (List ℕ) → ℕ → ℕ → ℕ → Option Report → Type 0
IsAnswer words files left' faults faults' written written' sink_faults sink_faults' answered report =
    IsDone words files left' faults faults' written written' sink_faults sink_faults' answered report
    ⊎ ((answered ≡ 12) × IsNone report × Keeps written written')

-- there is a report, and exactly the status of its end is answered
abbrev pub IsReported : Option Report → ℕ → Type 0
IsReported report answered = (r : Report) × (report ≡ Some r) × (answered ≡ status_of r.end)

-- a task is done: a check by 0 and no report, a run by a report and exactly the status of its end; a judge by a status
-- of its own and no report, and a replay by either
abbrev pub IsTaskDone : Task → Option Report → ℕ → Type 0
IsTaskDone Check report answered = IsNone report × (answered ≡ 0)
IsTaskDone (Run o fails) report answered = IsReported report answered
IsTaskDone (Traced Judge o fails) report answered = IsNone report × IsJudgeStatus answered
IsTaskDone (Traced Replay o fails) report answered = IsReported report answered ⊎ (IsNone report × IsNoRunStatus answered)

-- Completeness: valid words, a source of at most 1,048,576 bytes that is good, of a judge and a replay a trace of at
-- most 67,108,864 bytes, and no rise of either count of faults give a report and exactly the status of its end, of a
-- check 0, of a trace a status of its own (which one, `TraceClause` says), or want of memory. So does a run of a made
-- source, whatever its seed and its size are, and no rise of the sink's count; and words that make a source, and no
-- rise of that count, give 0.
pub record CompletenessClause (words : List Word) (files : Option Files) (faults faults' sink_faults sink_faults' answered : ℕ) (report : Option Report) : Type 0 where
  pub task_done : (task : Task) (origin : Origin) (traced bytes : List ℕ) → Asks words task origin → IsTrace words files task traced → IsSource files origin bytes → IsShort task traced bytes → IsGood bytes
      → (Rose faults faults' → ⊥) → (Rose sink_faults sink_faults' → ⊥) → IsTaskDone task report answered ⊎ (answered ≡ 12)
  pub made_done : (task : Task) (seed size : ℕ) → Asks words task (from_made seed size) → (Rose sink_faults sink_faults' → ⊥) → IsTaskDone task report answered ⊎ (answered ≡ 12)
  pub source_made : (seed : ℕ) (size : ℕ) → IsMake words seed size → (Rose sink_faults sink_faults' → ⊥) → (IsNone report × (answered ≡ 0)) ⊎ (answered ≡ 12)

-- with a report the task is a run, and the report is of one of a checked program of this kind; or it is of a trace
abbrev pub RanAs : Task → (typed.Program → Type 0) → Option Report → Type 0
RanAs task Kind None = Unit {0}
RanAs Check Kind (Some r) = ⊥
RanAs (Run o fails) Kind (Some r) = (p : typed.Program) × Kind p × IsToldRun p o fails r
RanAs (Traced goal o fails) Kind (Some r) = Unit {0}

-- where the task is of a trace, what its bytes come to by a checked program of this kind is answered
abbrev pub TracedAs : Task → (typed.Program → Type 0) → (traced : List ℕ) → (status : ℕ) (text : List ℕ) → Option Report → Type 0
TracedAs (Traced goal o fails) Kind traced status text report = IsGoodStatus status → (p : typed.Program) × Kind p × IsTraceAnswer goal p o fails traced status text report
TracedAs task Kind traced status text report = Unit {0}

-- what is told of a task: its report with the status and the text of that; without one `ok`, of a check, a status of
-- its own, of a trace, or what keeps the task from being done
abbrev pub IsOk : Task → ℕ → List ℕ → Type 0
IsOk Check status text = (status ≡ 0) × (text ≡ ok_text)
IsOk (Run o fails) status text = ⊥
IsOk (Traced goal o fails) status text = IsSaidStatus goal status

abbrev pub IsShown : Task → Report → List ℕ → Type 0
IsShown Check r text = ⊥
IsShown (Run o fails) r text = IsRunText o r text
IsShown (Traced Judge o fails) r text = ⊥
IsShown (Traced Replay o fails) r text = IsRunText o r text

abbrev pub IsTold : Task → Option Report → ℕ → List ℕ → Type 0
IsTold task None status text = (status ≡ 2) ⊎ (status ≡ 3) ⊎ (status ≡ 10) ⊎ (status ≡ 13) ⊎ IsOk task status text
IsTold task (Some r) status text = IsRunStatus status × (status ≡ status_of r.end) × IsShown task r text

-- a program is refused with this text, by the first rule that it breaks
pub record IsTreeRefusal (x : Program) (text : List ℕ) : Type 0 where
  pub number : ℕ
  pub at : Pos
  pub refused : BreaksFirst x number at
  pub said : text ≡ refusal_text number at

-- what is due for the program that a source is read as
pub record TreeDue (x : Program) (task : Task) (traced : List ℕ) (status : ℕ) (text : List ℕ) (report : Option Report) : Type 0 where
  pub known : IsDoneStatus task status ⊎ (status ≡ 3)
  pub refused : status ≡ 3 → IsTreeRefusal x text
  pub done : IsDoneStatus task status → (checked : typed.Program) × Accepts x checked
  pub told : IsTold task report status text
  pub ran : RanAs task (Accepts x) report
  pub answered : TracedAs task (Accepts x) traced status text report

-- what is due for the bytes of a file
pub record BytesDue (bytes : List ℕ) (task : Task) (traced : List ℕ) (status : ℕ) (text : List ℕ) (report : Option Report) : Type 0 where
  pub known : IsDoneStatus task status ⊎ (status ≡ 3)
  pub refused : status ≡ 3 → IsBad bytes × IsRefusal bytes text
  pub done : IsDoneStatus task status → IsGood bytes × IsAccepted bytes
  pub told : IsTold task report status text
  pub ran : RanAs task (StandsFor bytes) report
  pub answered : TracedAs task (StandsFor bytes) traced status text report

-- a checked program for which the bytes of the source stand
abbrev pub IsProgramOf : Option Files → Origin → typed.Program → Type 0
IsProgramOf files origin p = (bytes : List ℕ) × IsSourceIfTold files origin bytes × StandsFor bytes p

-- what is due for a source: of a named file, or a made one; of a trace of at most 67,108,864 bytes, where the task is
-- of one
pub record SourceDue (files : Option Files) (origin : Origin) (task : Task) (traced : List ℕ) (left' : Option (List ℕ)) (faults faults' status : ℕ) (text : List ℕ) (report : Option Report) : Type 0 where
  pub usage : status ≡ 2 → ⊥
  pub refused : status ≡ 3 → (bytes : List ℕ) × IsSourceIfTold files origin bytes × IsBad bytes × IsRefusal bytes text
  pub accepted : IsGoodStatus status → (bytes : List ℕ) × IsSourceIfTold files origin bytes × IsAccepted bytes
  pub input : (file : Word) → origin ≡ from_file file → IsReadToEnd files left' status
  pub read_fault : status ≡ 10 → (file : Word) × (origin ≡ from_file file) × MayNotBegin files file faults faults' × (text ≡ codes "read fault\n")
  pub too_long : status ≡ 13 → IsLongSource files origin 1048576 × (text ≡ codes "too long\n")
  pub absent : (file : Word) → origin ≡ from_file file → HaveNot files file → status ≡ 10
  pub settled : (bytes : List ℕ) → IsSource files origin bytes → Settle task traced bytes status ⊎ ((status ≡ 10) × Rose faults faults')
  pub told : IsTold task report status text
  pub ran : RanAs task (IsProgramOf files origin) report
  pub answered : TracedAs task (IsProgramOf files origin) traced status text report
