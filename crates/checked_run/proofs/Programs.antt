-- What acceptance and the code of a program say of its run.
use Rattle.std.proofs.Common.{◌≡◌, inl, inr, ℕ, true, false, List, map, refl, sym, subst, ap, ◌∙◌, arith}
use Rattle.std.specs.List.{list_all}
use Rattle.caf_base.specs.declared.refusal.Refusal.{Refusal}
use Rattle.caf_base.specs.declared.refusal.Refusal.TheVariants as refusals
use Rattle.caf_report.specs.declared.report.End.{End}
use Rattle.caf_report.specs.declared.report.End.TheVariants as ends
use Rattle.caf_report.specs.declared.report.Report.{Report}
use Rattle.caf_report.specs.Ends.{status_of}
use Rattle.checked_tree.specs.Statements.{Program}
use Rattle.image_code.specs.Code.{Whole, code_of, IfCause}
use Rattle.image_code.specs.declared.tables.Tables.{Tables}
use Rattle.machine_runs.specs.Runs.{HasWalksOn}
use Rattle.object_rules.specs.Cells.{Declared}
use Rattle.object_rules.specs.MemoryRules.{has_first_values}
use Rattle.final_values.specs.Listings.{listed_of}
use Rattle.full_report.specs.Reports.{order_of}
use Rattle.final_values.specs.declared.listing.Listed.{Listed}
use Rattle.program_run.specs.Finals.{AreProgramFinals}
use Rattle.program_run.specs.Reports.{IsProgramReport}
use Rattle.program_tables.specs.Tables.{tables_of}
use Rattle.checked_run.specs.Coarrays.{coarrays_of, in_memory, names_of}
use Rattle.checked_run.specs.declared.running.Told.{Told}
use Rattle.checked_run.specs.Doing.{CanBegin, DoesAll, IsUnrunnableCode}
use Rattle.checked_run.specs.Reports.{IsCodeOf, IsRunOf, IsRunStatus}
use Rattle.checked_run.specs.Runnable.{CanRun, IsUnrunnable, lines_of}
use Rattle.checked_run.proofs.Laws.{has_walks}

pub cause_too : {X : Type 0} (r : Refusal X) (f g : X → Type 0) → ((x : X) → f x → g x) → IfCause r f → IfCause r g
cause_too refusals.NoMemory f g h i = tt
cause_too (refusals.Cause x) f g h i = h x i

-- a run ends with a status of a run
pub run_status : (e : End) → IsRunStatus (status_of e)
run_status ends.Finished = inl refl
run_status (ends.ErrorStop k) = inr (omega arith, omega arith)
run_status (ends.Raced r) = inr (omega arith, omega arith)
run_status (ends.Stuck waits) = inr (omega arith, omega arith)
run_status (ends.Limit k) = inr (omega arith, omega arith)
run_status (ends.RunFault k) = inr (omega arith, omega arith)
run_status (ends.Clash k) = inr (omega arith, omega arith)

unrunnable : (p : Program) (line : ℕ) → IsUnrunnableCode (lines_of p) (tables_of p) line → IsUnrunnable p line
unrunnable p line (inl x) = record { cannot = λ r. x.0 r.begins; place = inl (inl x) }
unrunnable p line (inr x) = record { cannot = λ r. x.1.undone (r.does x.0 x.1.it x.1.there); place = inl (inr x) }

-- what is known of code is known of the program that was made into it
module _ (p : Program) (w : Whole) (is : IsCodeOf p w) where
  pub does_too : DoesAll (code_of w.program) → DoesAll (lines_of p)
  does_too d = subst DoesAll is.code d

  pub begins_too : CanBegin w.program.tables → CanBegin (tables_of p)
  begins_too b = subst CanBegin is.tables b

  pub cannot_too : (line : ℕ) → IsUnrunnableCode (code_of w.program) w.program.tables line → IsUnrunnable p line
  cannot_too line u = unrunnable p line (subst (λ t. IsUnrunnableCode (lines_of p) t line) is.tables (subst (λ c. IsUnrunnableCode c w.program.tables line) is.code u))

  pub coarrays_too : (t : Tables) → t ≡ w.program.tables → (ds : List Declared) → ds ≡ map in_memory t.coarrays → ds ≡ coarrays_of p
  coarrays_too t same ds e = e ∙ ap (λ x. map in_memory x.coarrays) (same ∙ is.tables)

  pub valueless : (t : Tables) → t ≡ w.program.tables → (line : ℕ) → (line ≡ 0) × (list_all has_first_values (map in_memory t.coarrays) ≡ false) → IsUnrunnable p line
  valueless t same line x =
      let missing : list_all has_first_values (coarrays_of p) ≡ false = subst (λ y. list_all has_first_values (map in_memory y.coarrays) ≡ false) (same ∙ is.tables) x.1 in
      record { cannot = λ r. (let yes : list_all has_first_values (coarrays_of p) ≡ true = r.values in absurd (cc)); place = inr (missing, x.0) }

pub can_run : (p : Program) → DoesAll (lines_of p) → CanBegin (tables_of p) → (ds : List Declared) → ds ≡ coarrays_of p → list_all has_first_values ds ≡ true → CanRun p
can_run p does begins ds same values = record { does = does; begins = begins; values = subst (λ xs. list_all has_first_values xs ≡ true) same values }

-- the code has the walks of the program, wherever it is kept
pub walks_of : (p : Program) (w v : Whole) (limit n : ℕ) → IsCodeOf p w → v ≡ w → HasWalksOn p limit n v
walks_of p w v limit n is same = subst (λ x. HasWalksOn p limit n x) (sym same) (has_walks p w limit n is)

-- the report of each program whose walks the code has is the report of this one
pub run_of : (p : Program) (told : Told) (fails_at : ℕ → ℕ) (v : Whole) (ds : List Declared) (report : Report) (names : List (List ℕ)) (ls : List Listed)
    → HasWalksOn p told.limit told.images v → ds ≡ coarrays_of p → names ≡ names_of p → ls ≡ listed_of p
    → ((q : Program) → HasWalksOn q told.limit told.images v → IsProgramReport q told.limit ds told.images fails_at told.words (order_of told.way) report) → report.names ≡ names
    → ((q : Program) → HasWalksOn q told.limit told.images v → AreProgramFinals q told.limit ds told.images fails_at told.words ls report.trace.entries report.finals) → IsRunOf p told fails_at report
run_of p told fails_at v ds report names ls walks same named listed is with_names finals = record {
  run = subst (λ xs. IsProgramReport p told.limit xs told.images fails_at told.words (order_of told.way) report) same (is p walks);
  names = with_names ∙ named;
  finals =
      subst (λ xs. AreProgramFinals p told.limit xs told.images fails_at told.words (listed_of p) report.trace.entries report.finals) same
      (subst (λ xs. AreProgramFinals p told.limit ds told.images fails_at told.words xs report.trace.entries report.finals) listed (finals p walks));
}
