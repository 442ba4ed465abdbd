-- What is due for a program that was read, and that none is good and refused.
use Rattle.std.proofs.Common.{◌≡◌, ℕ, List, ap, subst, sym, inl, inr, Option, None, Some}
use Rattle.caf_base.specs.declared.place.Pos.{Pos}
use Rattle.checked_tree.specs.Statements as typed
use Rattle.fortran_tree.specs.Units.{Program}
use Rattle.rule_definitions.specs.Judgements.{first_of}
use Rattle.rule_definitions.specs.Acceptance.{Accepts, first_break}
use Rattle.caf_report.specs.declared.report.Report.{Report}
use Rattle.caf_report.specs.Ends.{status_of}
use Rattle.lane_parts.specs.FirstLanes.{fails_at}
use Rattle.checked_run.specs.Reports.{IsRunOf, IsRunStatus}
use Rattle.caf_words.specs.declared.command.FailAt.{FailAt}
use Rattle.caf_words.specs.declared.command.Options.{Options}
use Rattle.caf_run.specs.Dues.{IsTold, RanAs, TreeDue}
use Rattle.caf_run.specs.Failures.{first_failure}
use Rattle.caf_run.specs.Tasks.{told_of}
use Rattle.caf_run.specs.RunTexts.{IsRunText}
use Rattle.caf_run.proofs.Settled.{not_run}
use Rattle.caf_run.specs.declared.task.Task.TheVariants.{Run}
use Rattle.caf_run.specs.Sources.{BreaksNone, BreaksFirst}

-- a program that breaks no rule has no first break
pub none_first : (x : Program) (r : ℕ) (at : Pos) → BreaksNone x → BreaksFirst x r at → ⊥
none_first x r at none first =
    let nothing : first_break x ≡ None = ap (first_of None) none in
    cc (nothing, first)

-- an accepted program that was run, with failures that are kept by image
pub run_tree : (x : Program) (p : typed.Program) (o : Options) (fails : List FailAt) (events traced : List ℕ) (r : Report) (status : ℕ) (text : List ℕ) (report : Option Report) → Accepts x p
    → ((i : ℕ) → fails_at events i ≡ first_failure fails i) → IsRunOf p (told_of o) (fails_at events) r → IsRunStatus (status_of r.end) → report ≡ Some r → status ≡ status_of r.end → IsRunText o r text
    → TreeDue x (Run o fails) traced status text report
run_tree x p o fails events traced r status text report accepts same of run is s t = record {
  known = inl ends;
  refused = λ three. absurd (not_run status ends (inr (inl three)));
  done = λ _. (p, accepts);
  told = subst (λ v. IsTold (Run o fails) v status text) (sym is) (ends, s, t);
  ran = subst (RanAs (Run o fails) (Accepts x)) (sym is) (p, accepts, subst (λ f. IsRunOf p (told_of o) f r) all of);
  answered = tt;
}
  where
    all : fails_at events ≡ first_failure fails
    all = λ i image. same image i

    ends : IsRunStatus status
    ends = subst IsRunStatus (sym s) run
