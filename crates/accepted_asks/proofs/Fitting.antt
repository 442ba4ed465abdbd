-- The next ask for a lock, an event or an atom in a run of an accepted program fits.
use Rattle.std.specs.Prelude.{◌≡◌, ℕ, true, List}
use Rattle.std.specs.List.{list_all}
use Rattle.fortran_tree.specs.Units as u
use Rattle.caf_events.specs.declared.ask.Ask.{Ask}
use Rattle.caf_events.specs.declared.event.Entry.{Entry}
use Rattle.checked_tree.specs.Statements as s
use Rattle.rule_definitions.specs.Acceptance.{Accepts}
use Rattle.accepted_ranks.proofs.Programs.{program_means}
use Rattle.coarray_tables.specs.Fits.{are_fit}
use Rattle.program_tables.specs.Tables.{tables_of}
use Rattle.object_rules.specs.Cells.{Declared}
use Rattle.object_rules.specs.MemoryRules.{has_first_values}
use Rattle.core_runs.specs.CoreRuns.{IsCoreRun}
use Rattle.program_walks.specs.Runs.{program_rules, program_begins}
use Rattle.wait_reason.specs.WaitsFor.{is_fit_after}
use Rattle.walk_laws.specs.Fits.{StandsAt, AreDeclaredBy}
use Rattle.accepted_cells.specs.Contents.{HoldWhatIsDeclared}
use Rattle.accepted_cells.proofs.Programs.{program_typed}
use Rattle.accepted_cells.proofs.OwnCells.{all_small}
use Rattle.memory_fits.specs.CellAsks.{is_of_cell, is_of_own_event}
use Rattle.memory_fits.proofs.Fitting.{named_fits, own_fits}

module _ (x : u.Program) (p : s.Program) (accepts : Accepts x p) (limit : ℕ) (coarrays : List Declared) (n : ℕ) (fails_at : ℕ → ℕ) (words : ℕ) (t : List Entry) (declared : HoldWhatIsDeclared p coarrays) (fit : are_fit 0 (tables_of p).coarrays ≡ true)
    (valued : list_all has_first_values coarrays ≡ true) (core : IsCoreRun (program_rules p limit) (program_begins p coarrays n fails_at words) t) where
  pub accepted_named : (i : ℕ) (a : Ask) → StandsAt p limit coarrays n fails_at words t i a → is_of_cell a ≡ true → is_fit_after coarrays n t i a ≡ true
  accepted_named i a h e =
      named_fits p limit coarrays n fails_at words t valued core ((program_means x).means accepts.unbroken p accepts.meaning) ((program_typed coarrays x).means accepts.unbroken p accepts.meaning declared)
      (all_small p.main.variables p.coarrays 0 fit) i a h e

  pub accepted_own : AreDeclaredBy p coarrays → (i : ℕ) (a : Ask) → StandsAt p limit coarrays n fails_at words t i a → is_of_own_event a ≡ true → is_fit_after coarrays n t i a ≡ true
  accepted_own own i a h e =
      own_fits p limit coarrays n fails_at words t valued core ((program_means x).means accepts.unbroken p accepts.meaning) ((program_typed coarrays x).means accepts.unbroken p accepts.meaning declared)
      (all_small p.main.variables p.coarrays 0 fit) own i a h e
