-- The text of the report of a run of an accepted program, with its trace, is written for that trace.
use Rattle.std.proofs.Common.{◌≡◌, ◌∙◌, ℕ, ◌≤◌, true, List, [], length, map, sym, subst}
use Rattle.std.proofs.lemmas.List.{length-map}
use Rattle.caf_report.specs.declared.report.Report.{Report}
use Rattle.caf_report.specs.declared.report.Shown.{Shown}
use Rattle.caf_report.specs.ReportText.{report_text}
use Rattle.checked_tree.specs.Statements.{Program}
use Rattle.fortran_tree.specs.Units as tree
use Rattle.object_rules.specs.BoardTeams.{teams_after}
use Rattle.core_runs.specs.CoreRuns.{at_board}
use Rattle.core_runs.proofs.Lawfuls.{core_run_lawful}
use Rattle.trace_theory.specs.Entries.{Each}
use Rattle.program_tables.specs.Tables.{coarray_at}
use Rattle.program_walks.specs.Runs.{program_rules, program_begins}
use Rattle.program_walks.proofs.Fits.{program_fit}
use Rattle.told_walks.specs.Asked.{most_team}
use Rattle.walk_laws.proofs.Runs.{run_told}
use Rattle.source_reader.specs.Sources.{IsRead}
use Rattle.rule_definitions.specs.Acceptance.{Accepts}
use Rattle.checked_run.specs.declared.running.Told.{Told}
use Rattle.checked_run.specs.Coarrays.{in_memory, coarrays_of, name_at, names_of}
use Rattle.checked_run.specs.Reports.{IsRunOf}
use Rattle.accepted_runs.proofs.Programs.{can_run}
use Rattle.trace_forms.specs.Files.{Written}
use Rattle.trace_forms.specs.Names.{AreNames}
use Rattle.trace_forms.specs.Shown.{HaveTexts}
use Rattle.trace_text.specs.Forms.{Second}
use Rattle.trace_names.proofs.Coarrays.{read_named, coarrays_named}
use Rattle.trace_names.proofs.Programs.{variables_differ}
use Rattle.lawful_texts.specs.Ranges.{IsInRange}
use Rattle.lawful_texts.proofs.Entries.{entries_shown}
use Rattle.written_runs.proofs.Reports.{written_report}
use Rattle.run_texts.proofs.Finals.{finals_named}
use Rattle.run_texts.proofs.LaneAsks.{entries_few}

-- as many names are there as coarrays
as_many : (p : Program) → length (names_of p) ≡ length (coarrays_of p)
as_many p =
    length-map p.coarrays (name_at p.main.variables)
    ∙ sym (length-map (map (coarray_at p.main.variables) p.coarrays) in_memory ∙ length-map p.coarrays (coarray_at p.main.variables))

pub run_written : (bytes : List ℕ) (x : tree.Program) (p : Program) (told : Told) (fails_at : ℕ → ℕ) (r : Report) (shown : Shown)
    → IsRead bytes x → Accepts x p → IsRunOf p told fails_at r → shown.trace ≡ true → 1 ≤ told.images → told.images ≤ 256
    → length (teams_after told.images (at_board r.trace.entries)) ≤ most_team → Each (IsInRange (names_of p)) r.trace.entries
    → Written (report_text shown r) (names_of p) r.trace.entries
run_written bytes x p told fails_at r shown read accepts run trace some most few ranges =
    let t = r.trace.entries in
    let n = told.images in
    let s = coarrays_of p in
    let can = can_run x p accepts in
    let rules = program_rules p told.limit in
    let begins = program_begins p s n fails_at told.words in
    let core = run.run.core in
    let lawful = core_run_lawful rules.step rules.hears s n begins.first t can.values (program_fit p told.limit s n fails_at told.words) core in
    let known = run_told p told.limit s n fails_at told.words t can.values core few in
    let short = entries_few p can.does told.limit s n fails_at told.words t core lawful in
    let texts : HaveTexts Second (names_of p) [] t = entries_shown (names_of p) s n (as_many p) [] t lawful known ranges short in
    let variables = variables_differ x p (read_named bytes x read) accepts in
    let same = run.names in
    subst (λ names. Written (report_text shown r) names t) same (written_report shown r (record {
      trace = trace;
      some = subst (λ k. 1 ≤ k) (sym run.run.images) some;
      most = subst (λ k. k ≤ 256) (sym run.run.images) most;
      names = subst AreNames (sym same) (coarrays_named bytes x p read accepts);
      finals = finals_named p told.limit s n fails_at told.words t r.finals variables.each run.finals;
      texts = subst (λ names. HaveTexts Second names [] t) (sym same) texts;
    }))
