-- How the bytes of a source and of a trace settle the status.
use Rattle.std.proofs.Common.{◌≡◌, ℕ, ◌≤◌, ◌<◌, List, length, ◌⊎◌, inl, inr, sym, ◌∙◌, subst, arith}
use Rattle.std.specs.Prelude.{Option, None, Some}
use Rattle.caf_base.specs.Outside.{Files, Rose, HaveNot, MayNotBegin}
use Rattle.caf_report.specs.declared.report.Report.{Report}
use Rattle.caf_words.specs.Usages.{Word}
use Rattle.caf_words.specs.Words.{Origin}
use Rattle.caf_words.specs.Words.Origin.{from_file, from_made}
use Rattle.caf_words.specs.declared.command.Goal.TheVariants.{Judge, Replay}
use Rattle.caf_run.specs.declared.task.Task.{Task}
use Rattle.caf_run.specs.declared.task.Task.TheVariants.{Check, Run, Traced}
use Rattle.caf_run.specs.Reading.{HasBytesIfTold, HasBytes, IsLonger, IsSourceIfTold, IsSource, IsLongSource}
use Rattle.checked_run.specs.Reports.{IsRunStatus}
use Rattle.caf_run.specs.Dues.{IsDoneStatus, IsGoodStatus, IsNoRunStatus, IsJudgeStatus, IsLong, IsShort, Settle, BytesDue}

-- the status of a run is none of the others
pub not_run : (s : ℕ) → IsRunStatus s → (s ≡ 2) ⊎ (s ≡ 3) ⊎ (s ≡ 10) ⊎ (s ≡ 13) → ⊥
not_run s (inl h) (inl k) = omega arith
not_run s (inl h) (inr (inl k)) = omega arith
not_run s (inl h) (inr (inr (inl k))) = omega arith
not_run s (inl h) (inr (inr (inr k))) = omega arith
not_run s (inr h) (inl k) = omega (arith, h.0, h.1)
not_run s (inr h) (inr (inl k)) = omega (arith, h.0, h.1)
not_run s (inr h) (inr (inr (inl k))) = omega (arith, h.0, h.1)
not_run s (inr h) (inr (inr (inr k))) = omega (arith, h.0, h.1)

-- nor is one that says that bytes are the trace of no run
not_no_run : (s : ℕ) → IsNoRunStatus s → (s ≡ 2) ⊎ (s ≡ 3) ⊎ (s ≡ 10) ⊎ (s ≡ 13) → ⊥
not_no_run s (inl h) (inl k) = omega arith
not_no_run s (inl h) (inr (inl k)) = omega arith
not_no_run s (inl h) (inr (inr (inl k))) = omega arith
not_no_run s (inl h) (inr (inr (inr k))) = omega arith
not_no_run s (inr h) (inl k) = omega arith
not_no_run s (inr h) (inr (inl k)) = omega arith
not_no_run s (inr h) (inr (inr (inl k))) = omega arith
not_no_run s (inr h) (inr (inr (inr k))) = omega arith

pub not_good : (s : ℕ) → IsGoodStatus s → (s ≡ 2) ⊎ (s ≡ 3) ⊎ (s ≡ 10) ⊎ (s ≡ 13) → ⊥
not_good s (inl run) other = not_run s run other
not_good s (inr none) other = not_no_run s none other

-- no status of a run says that
pub run_or_none : (s : ℕ) → IsRunStatus s → IsNoRunStatus s → ⊥
run_or_none s (inl h) (inl k) = omega arith
run_or_none s (inl h) (inr k) = omega arith
run_or_none s (inr h) (inl k) = omega (arith, h.0, h.1)
run_or_none s (inr h) (inr k) = omega (arith, h.0, h.1)

-- a judge's status is one of a run, or says that
judge_good : (s : ℕ) → IsJudgeStatus s → IsGoodStatus s
judge_good s (inl (inl zero)) = inl (inl zero)
judge_good s (inl (inr five)) = inl (inr (omega arith, omega arith))
judge_good s (inr none) = inr none

-- a status with which a task is done is due where the source is good alone, and the other way round where it is known
pub done_good : (task : Task) (s : ℕ) → IsDoneStatus task s → IsGoodStatus s
done_good Check s done = inl (inl done)
done_good (Run o fails) s done = inl done
done_good (Traced Judge o fails) s done = judge_good s done
done_good (Traced Replay o fails) s done = done

pub good_done : (task : Task) (s : ℕ) → IsDoneStatus task s ⊎ (s ≡ 3) → IsGoodStatus s → IsDoneStatus task s
good_done task s (inl done) good = done
good_done task s (inr three) good = absurd (not_good s good (inr (inl three)))

-- it is none of the others
pub not_done : (task : Task) (s : ℕ) → IsDoneStatus task s → (s ≡ 2) ⊎ (s ≡ 3) ⊎ (s ≡ 10) ⊎ (s ≡ 13) → ⊥
not_done task s done other = not_good s (done_good task s done) other

-- bytes that aren't too many are short, and none of them long
pub all_short : (task : Task) (traced bytes : List ℕ) → length traced ≤ 67108864 → length bytes ≤ 1048576 → IsShort task traced bytes
all_short Check traced bytes few short = short
all_short (Run o fails) traced bytes few short = short
all_short (Traced goal o fails) traced bytes few short = (few, short)

pub short_not_long : (task : Task) (traced bytes : List ℕ) → IsShort task traced bytes → IsLong task traced bytes → ⊥
short_not_long Check traced bytes short long = omega arith
short_not_long (Run o fails) traced bytes short long = omega arith
short_not_long (Traced goal o fails) traced bytes (few, short) (inl many) = omega arith
short_not_long (Traced goal o fails) traced bytes (few, short) (inr long) = omega arith

-- a source that has too many is long, whatever the task is
pub source_long : (task : Task) (traced bytes : List ℕ) → 1048576 < length bytes → IsLong task traced bytes
source_long Check traced bytes long = long
source_long (Run o fails) traced bytes long = long
source_long (Traced goal o fails) traced bytes long = inr long

-- files that have bytes under a name have the name
pub whole_has : (files : Option Files) (file : Word) (bytes : List ℕ) → HasBytesIfTold files file bytes → HaveNot files file → ⊥
whole_has None file bytes whole none = none
whole_has (Some fs) file bytes whole none = cc

pub longer_has : (files : Option Files) (file : Word) (limit : ℕ) → IsLonger files file limit → HaveNot files file → ⊥
longer_has None file limit longer none = none
longer_has (Some fs) file limit longer none = cc (longer.1, none)

told_has : (files : Option Files) (file : Word) (bytes : List ℕ) → HasBytes files file bytes → HaveNot files file → ⊥
told_has None file bytes has none = none
told_has (Some fs) file bytes has none = cc

-- a fault at a file that is there comes of a rise
pub fault_settles : (files : Option Files) (file : Word) (bytes : List ℕ) (faults faults' : ℕ) → MayNotBegin files file faults faults' → HasBytes files file bytes → Rose faults faults'
fault_settles files file bytes faults faults' (inl rose) has = rose
fault_settles files file bytes faults faults' (inr none) has = absurd (told_has files file bytes has none)

-- bytes that were read settle the status
bytes_settle : (bytes : List ℕ) (task : Task) (traced : List ℕ) (status : ℕ) (text : List ℕ) (report : Option Report) → length traced ≤ 67108864 → length bytes ≤ 1048576 → BytesDue bytes task traced status text report
    → Settle task traced bytes status
bytes_settle bytes task traced status text report few short b = record {
  too_long = (λ s. absurd (elim b.known [ inl d ↦ not_done task status d (inr (inr (inr s))) | inr k ↦ omega arith ]), λ long. absurd (short_not_long task traced bytes all long));
  refused = (λ s. (all, (b.refused s).0), λ h. elim b.known [ inl d ↦ absurd (h.1 (b.done d).0) | inr s ↦ s ]);
  done = (λ d. (all, (b.done d).0), λ h. elim b.known [ inl d ↦ d | inr s ↦ absurd ((b.refused s).0 h.1) ]);
}
  where
    all : IsShort task traced bytes
    all = all_short task traced bytes few short

-- they are the file's
pub same_bytes : (files : Option Files) (file : Word) (bytes told : List ℕ) → HasBytesIfTold files file bytes → HasBytes files file told → bytes ≡ told
same_bytes None file bytes told whole has = absurd has
same_bytes (Some fs) file bytes told whole has = cc

same_source : (files : Option Files) (origin : Origin) (bytes told : List ℕ) → IsSourceIfTold files origin bytes → IsSource files origin told → bytes ≡ told
same_source files (from_file file) bytes told whole has = same_bytes files file bytes told whole has
same_source files (from_made seed size) bytes told whole has = whole ∙ sym has

pub whole_settles : (files : Option Files) (origin : Origin) (bytes told : List ℕ) (task : Task) (traced : List ℕ) (status : ℕ) (text : List ℕ) (report : Option Report) → IsSourceIfTold files origin bytes → IsSource files origin told
    → length traced ≤ 67108864 → length bytes ≤ 1048576 → BytesDue bytes task traced status text report → Settle task traced told status
whole_settles files origin bytes told task traced status text report whole has few short b =
    subst (λ v. Settle task traced v status) (same_source files origin bytes told whole has) (bytes_settle bytes task traced status text report few short b)

-- a long source settles it too
long_told : (files : Option Files) (origin : Origin) (bytes : List ℕ) → IsLongSource files origin 1048576 → IsSource files origin bytes → 1048576 < length bytes
long_told None (from_file file) bytes longer has = absurd has
long_told (Some fs) (from_file file) bytes (other, is, long) has = let same : other ≡ bytes = cc (is, has) in subst (λ v. 1048576 < length v) same long
long_told files (from_made seed size) bytes long has = subst (λ v. 1048576 < length v) (sym has) long

-- bytes that are too many settle it
pub many_settle : (task : Task) (traced bytes : List ℕ) (status : ℕ) → IsLong task traced bytes → status ≡ 13 → Settle task traced bytes status
many_settle task traced bytes status long s = record {
  too_long = (λ _. long, λ _. s);
  refused = (λ three. absurd (omega arith), λ h. absurd (short_not_long task traced bytes h.0 long));
  done = (λ d. absurd (not_done task status d (inr (inr (inr s)))), λ h. absurd (short_not_long task traced bytes h.0 long));
}

pub long_settles : (files : Option Files) (origin : Origin) (bytes : List ℕ) (task : Task) (traced : List ℕ) (status : ℕ) → IsLongSource files origin 1048576 → IsSource files origin bytes → status ≡ 13 → Settle task traced bytes status
long_settles files origin bytes task traced status longer has s = many_settle task traced bytes status (source_long task traced bytes (long_told files origin bytes longer has)) s

-- files that have the source have the name
pub source_has : (files : Option Files) (origin : Origin) (file : Word) (bytes : List ℕ) → IsSourceIfTold files origin bytes → origin ≡ from_file file → HaveNot files file → ⊥
source_has files origin file bytes whole e none = whole_has files file bytes (subst (λ o. IsSourceIfTold files o bytes) e whole) none

pub long_has : (files : Option Files) (origin : Origin) (file : Word) → IsLongSource files origin 1048576 → origin ≡ from_file file → HaveNot files file → ⊥
long_has files origin file longer e none = longer_has files file 1048576 (subst (λ o. IsLongSource files o 1048576) e longer) none
