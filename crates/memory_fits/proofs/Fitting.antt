-- The next ask of an image for a lock, an event or an atom fits, and so does its next read.
use Rattle.std.proofs.Common.{◌≡◌, ℕ, zero, suc, ◌<◌, Bool, true, ◌&&◌, List, [], ◌∷◌, length, map, slice_get, refl, sym, ap, ◌∙◌, subst, nat_eq, nat_le, nat_lt, arith}
use Rattle.std.specs.Prelude.{ℤ, pos, Option, Some}
use Rattle.std.specs.List.{list_all}
use Rattle.std.proofs.lemmas.Bool.{and_from, and_parts, eq-eqb, eqb-true, le-leb, lt-ltb}
use Rattle.std.proofs.lemmas.List.{length-map}
use Rattle.trace_theory.specs.Entries.{Each}
use Rattle.caf_base.specs.declared.place.ImageNo.{ImageNo}
use Rattle.caf_base.specs.declared.span.Span.{Span}
use Rattle.caf_base.specs.Spans.{offsets_from}
use Rattle.caf_events.specs.declared.ask.Ask.{Ask}
use Rattle.caf_events.specs.declared.ask.Ask.TheVariants as asking
use Rattle.caf_events.specs.declared.event.Entry.{Entry}
use Rattle.checked_tree.specs.Statements as s
use Rattle.tree_meaning.specs.Start.{own_coarrays}
use Rattle.made_code.specs.Ranks.{IsRankedProgram}
use Rattle.image_acts.specs.Frames.{joined}
use Rattle.object_rules.specs.Cells.{Content, Declared, MadeMemory, size_after, is_offset, is_within}
use Rattle.object_rules.specs.BoardRules.{is_image}
use Rattle.object_rules.specs.MemoryRules.{has_first_values, holds, is_values, is_lock, is_event, suits_atomic, is_cell_of, is_one_cell, is_own}
use Rattle.object_rules.specs.SpanTests.{is_span}
use Rattle.core_runs.specs.Beginnings.{IsOneOf}
use Rattle.core_runs.specs.CoreRuns.{IsCoreRun, said_by, of_memory}
use Rattle.core_runs.specs.Lawful.{made_memory}
use Rattle.wait_reason.specs.WaitsFor.{is_fit_after}
use Rattle.program_walks.specs.Runs.{program_rules, program_begins}
use Rattle.told_walks.specs.Asked.{own_cells}
use Rattle.told_programs.specs.First.{told_first}
use Rattle.walk_laws.specs.Fits.{StandsAt, first_cells, AreDeclaredBy}
use Rattle.walk_laws.proofs.Members.{told_by}
use Rattle.walk_laws.proofs.OwnSizes.{size_there}
use Rattle.walk_laws.proofs.Runs.{image_there}
use Rattle.cell_walks.specs.Fitting.{IsSmall, FitsCell, HasCell}
use Rattle.cell_statements.specs.Typed.{IsTypedProgram}
use Rattle.cell_statements.specs.Reading.{ProgramReads}
use Rattle.cell_statements.proofs.AllReads.{program_reads}
use Rattle.memory_fits.specs.CellAsks.{is_of_cell, is_of_own_event}
use Rattle.memory_fits.proofs.Runs.{lawful, stands_fit}

-- each coarray may be read
abbrev all_readable : ℕ → Bool
all_readable k = true

-- ---- one cell that is there
no_dims : (ds : List (ℕ × ℤ)) → nat_eq (length ds) 0 ≡ true → ds ≡ []
no_dims [] e = refl
no_dims (d ∷ ds) e = absurd (let f : suc (length ds) ≡ 0 = eqb-true (suc (length ds)) 0 e in omega arith)

within_one : (m : MadeMemory) (h : List Entry) (span : Span) (k : ℕ) → is_one_cell span ≡ true → size_after m h span.coarray ≡ Some k → span.start < k → is_within m h span ≡ true
within_one m h span k one e lt =
    let d = no_dims span.dims (and_parts (nat_eq (length span.dims) 0) (nat_lt span.start 65536) one).0 in
    subst (λ ds. list_all (is_offset (size_after m h span.coarray)) (offsets_from (pos span.start) ds) ≡ true) (sym d)
    (and_from (is_offset (size_after m h span.coarray) (pos span.start)) true (subst (λ z. is_offset z (pos span.start) ≡ true) (sym e) (lt-ltb span.start k lt)) refl)

low_place : (os : List Declared) (test : Content → Bool) (c : ℕ) → holds test (slice_get os c) ≡ true → c < length os
low_place [] test c h = absurd (cc)
low_place (d ∷ os) test zero h = omega arith
low_place (d ∷ os) test (suc c) h = let r = low_place os test c h in omega arith

module _ (p : s.Program) (limit : ℕ) (coarrays : List Declared) (n : ℕ) (fails_at : ℕ → ℕ) (words : ℕ) (t : List Entry) (declared : list_all has_first_values coarrays ≡ true)
    (core : IsCoreRun (program_rules p limit) (program_begins p coarrays n fails_at words) t) (ranked : IsRankedProgram p) (typed : IsTypedProgram coarrays p) (small : Each IsSmall (own_coarrays p)) where
  abbrev Stands : ℕ → Ask → Type 0
  Stands i a = StandsAt p limit coarrays n fails_at words t i a

  abbrev Fits : ℕ → Ask → Type 0
  Fits i a = is_fit_after coarrays n t i a ≡ true

  there : (owner : ImageNo) → IsOneOf n owner.0 → (b : Bool) → b ≡ true → (is_image n owner.0 && (nat_eq owner.0 owner.0 && b)) ≡ true
  there owner h b e = and_from (is_image n owner.0) (nat_eq owner.0 owner.0 && b) (image_there n owner.0 h) (and_from (nat_eq owner.0 owner.0) b (eq-eqb owner.0 owner.0 refl) e)

  -- ---- LOCK, UNLOCK, EVENT POST, atomic subroutines
  cell_fits : (i : ℕ) (a : Ask) (z : List (Option ℕ)) → FitsCell n i coarrays all_readable z a → is_of_cell a ≡ true → Fits i a
  cell_fits i (asking.Lock owner span) z f e = there owner f.0 (is_cell_of (made_memory coarrays owner.0) is_lock span) f.1
  cell_fits i (asking.TryLock owner span) z f e = there owner f.0 (is_cell_of (made_memory coarrays owner.0) is_lock span) f.1
  cell_fits i (asking.Unlock owner span) z f e = there owner f.0 (is_cell_of (made_memory coarrays owner.0) is_lock span) f.1
  cell_fits i (asking.Post owner span) z f e = there owner f.0 (is_cell_of (made_memory coarrays owner.0) is_event span) f.1
  cell_fits i (asking.Atomic owner op span x y) z f e = there owner f.0 (is_cell_of (made_memory coarrays owner.0) (suits_atomic op x y) span) f.1
  cell_fits i a z f e = absurd (cc)

  pub named_fits : (i : ℕ) (a : Ask) → Stands i a → is_of_cell a ≡ true → Fits i a
  named_fits i a h e =
      cell_fits i a (told_by (told_first p i n) (said_by i t)).sizes (stands_fit p limit coarrays n fails_at words t declared core all_readable ranked typed (program_reads all_readable (λ k. refl) p) small i a h) e

  -- ---- reads
  abbrev held : ℕ → Bool
  held k = holds is_values (slice_get coarrays k)

  -- a read of a coarray that holds values
  pub read_fits : (i : ℕ) (owner : ImageNo) (span : Span) → Stands i (asking.Read owner span) → held span.coarray ≡ true → Fits i (asking.Read owner span)
  read_fits i owner span h e =
      let f : FitsCell n i coarrays all_readable (told_by (told_first p i n) (said_by i t)).sizes (asking.Read owner span) =
      stands_fit p limit coarrays n fails_at words t declared core all_readable ranked typed (program_reads all_readable (λ k. refl) p) small i (asking.Read owner span) h in
      by (is_image n owner.0) (nat_eq owner.0 owner.0) (is_span span) (held span.coarray) (image_there n owner.0 f.0) (eq-eqb owner.0 owner.0 refl) f.1 e
    where
      by : (u v w x : Bool) → u ≡ true → v ≡ true → w ≡ true → x ≡ true → (u && (v && w && x)) ≡ true
      by u v w x d g q k = rw (d, g, q, k) refl

  -- where the program reads such alone, each read is one
  pub read_holds : ProgramReads held p → (i : ℕ) (owner : ImageNo) (span : Span) → Stands i (asking.Read owner span) → held span.coarray ≡ true
  read_holds reads i owner span h =
      let f : FitsCell n i coarrays held (told_by (told_first p i n) (said_by i t)).sizes (asking.Read owner span) =
      stands_fit p limit coarrays n fails_at words t declared core held ranked typed reads small i (asking.Read owner span) h in
      f.2

  -- ---- EVENT WAIT, EVENT_QUERY
  module _ (own : AreDeclaredBy p coarrays) where
    size_so : (i c : ℕ) → c < length coarrays → joined (slice_get (told_by (told_first p i n) (said_by i t)).sizes c) ≡ size_after (made_memory coarrays i) (of_memory i t) c
    size_so i c lt =
        let m : length (map own_cells (own_coarrays p)) ≡ length coarrays = ap length (sym own) ∙ length-map coarrays first_cells in
        size_there coarrays n i t (told_first p i n) c (lawful p limit coarrays n fails_at words t declared core) own (subst (λ z. c < z) (sym m) lt)

    within : (i : ℕ) (span : Span) → is_cell_of (made_memory coarrays i) is_event span ≡ true → HasCell (told_by (told_first p i n) (said_by i t)).sizes span → is_within (made_memory coarrays i) (of_memory i t) span ≡ true
    within i span c h =
        let q = and_parts (is_one_cell span) (holds is_event (slice_get coarrays span.coarray)) c in
        within_one (made_memory coarrays i) (of_memory i t) span h.0 q.0 (sym (size_so i span.coarray (low_place coarrays is_event span.coarray q.1)) ∙ h.1) h.2

    event_fits : (i : ℕ) → IsOneOf n i → (a : Ask) → FitsCell n i coarrays all_readable (told_by (told_first p i n) (said_by i t)).sizes a → is_of_own_event a ≡ true → Fits i a
    event_fits i one (asking.Wait owner span threshold) f e =
        subst (λ j. (is_image n j && (is_own (made_memory coarrays j) i (record { 0 = j }) && is_cell_of (made_memory coarrays j) is_event span && is_within (made_memory coarrays j) (of_memory j t) span && nat_le 1 threshold)) ≡ true) (sym f.0)
        (by (is_image n i) (nat_eq i i) (is_cell_of (made_memory coarrays i) is_event span) (is_within (made_memory coarrays i) (of_memory i t) span) (nat_le 1 threshold) (image_there n i one) (eq-eqb i i refl)
        cell (within i span cell f.3) (le-leb 1 threshold f.2))
      where
        cell : is_cell_of (made_memory coarrays i) is_event span ≡ true
        cell = f.1

        by : (u v w x y : Bool) → u ≡ true → v ≡ true → w ≡ true → x ≡ true → y ≡ true → (u && ((v && v) && w && x && y)) ≡ true
        by u v w x y d e f g q = rw (d, e, f, g, q) refl
    event_fits i one (asking.Query owner span) f e =
        subst (λ j. (is_image n j && (is_own (made_memory coarrays j) i (record { 0 = j }) && is_cell_of (made_memory coarrays j) is_event span && is_within (made_memory coarrays j) (of_memory j t) span)) ≡ true) (sym f.0)
        (by (is_image n i) (nat_eq i i) (is_cell_of (made_memory coarrays i) is_event span) (is_within (made_memory coarrays i) (of_memory i t) span) (image_there n i one) (eq-eqb i i refl)
        cell (within i span cell f.2))
      where
        cell : is_cell_of (made_memory coarrays i) is_event span ≡ true
        cell = f.1

        by : (u v w x : Bool) → u ≡ true → v ≡ true → w ≡ true → x ≡ true → (u && ((v && v) && w && x)) ≡ true
        by u v w x d e f g = rw (d, e, f, g) refl
    event_fits i one a f e = absurd (cc)

    pub own_fits : (i : ℕ) (a : Ask) → Stands i a → is_of_own_event a ≡ true → Fits i a
    own_fits i a h e = event_fits i h.image a (stands_fit p limit coarrays n fails_at words t declared core all_readable ranked typed (program_reads all_readable (λ k. refl) p) small i a h) e
