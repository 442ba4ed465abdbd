-- The final values of a run are told by what its images said and by what its coarrays hold.
use Rattle.std.proofs.Common.{◌≡◌, ℕ, zero, suc, true, false, List, [], ◌∷◌, ◌++◌, inl, inr, refl, ap, sym, ◌∙◌, subst}
use Rattle.std.specs.Prelude.{Option, Some, None, map}
use Rattle.std.specs.List.{list_any}
use Rattle.std.specs.Option.{option_map}
use Rattle.caf_base.specs.declared.value.Kind.{Kind}
use Rattle.caf_events.specs.declared.event.Entry.{Entry}
use Rattle.trace_theory.specs.Machines.{WalkTo}
use Rattle.checked_tree.specs.Statements as checked
use Rattle.image_acts.specs.Core.{Core}
use Rattle.image_lanes.specs.Lanes.{is_failure}
use Rattle.object_rules.specs.Cells.{Declared, MadeMemory, size_after}
use Rattle.object_rules.specs.MemoryRules.{value_there}
use Rattle.core_runs.specs.CoreRuns.{of_memory, said_by}
use Rattle.core_runs.specs.Lawful.{made_memory}
use Rattle.caf_report.specs.declared.report.Final.{Final}
use Rattle.final_values.specs.declared.listing.Form.{Form}
use Rattle.final_values.specs.declared.listing.Form.TheVariants as forms
use Rattle.final_values.specs.declared.listing.Listed.{Listed}
use Rattle.final_values.specs.Finals.{before, cells_from, of_coarray, held, final_with, final_of, image_finals}
use Rattle.program_walks.specs.Runs.{program_rules, program_begins}
use Rattle.program_run.specs.Finals.{AreImageFinals, AreOwnFinals, AreFinalsFrom, AreProgramFinals}
use Rattle.every_report.proofs.Waits.{one_stop}

-- an image's final values by its memory's history: the size of each coarray and the values of its cells tell them
module _ (m : MadeMemory) (g h : List Entry) (sizes : (c : ℕ) → size_after m h c ≡ size_after m g c) (values : (c o : ℕ) → value_there m h c o ≡ value_there m g c o) where
  cells_same : (c o n : ℕ) → cells_from m h c o n ≡ cells_from m g c o n
  cells_same c o zero = refl
  cells_same c o (suc n) = ap (λ v. before v (cells_from m h c (suc o) n)) (values c o) ∙ ap (before (value_there m g c o)) (cells_same c (suc o) n)

  of_size : (c : ℕ) (size : Option ℕ) → option_map (cells_from m h c 0) size ≡ option_map (cells_from m g c 0) size
  of_size c None = refl
  of_size c (Some n) = ap (λ vs. Some vs) (cells_same c 0 n)

  held_same : (core : Core) (x : ℕ) (k : Kind) (form : Form) → held core m h x k form ≡ held core m g x k form
  held_same core x k forms.Scalar = refl
  held_same core x k forms.Array = refl
  held_same core x k (forms.Coarray c) = ap (option_map (cells_from m h c 0)) (sizes c) ∙ of_size c (size_after m g c)

  pub image_same : (ls : List Listed) (i : ℕ) (core : Core) → image_finals ls i core m h ≡ image_finals ls i core m g
  image_same [] i core = refl
  image_same (l ∷ ls) i core =
      ap (λ v. final_with i l.name v ∷ map (final_of i core m h) ls) (held_same core l.variable l.kind l.form) ∙ ap (λ fs. final_of i core m g l ∷ fs) (image_same ls i core)

module _ (p : checked.Program) (limit : ℕ) (coarrays : List Declared) (n : ℕ) (fails_at : ℕ → ℕ) (words : ℕ) (listed : List Listed) (t u : List Entry)
    (said : (i : ℕ) → said_by i u ≡ said_by i t)
    (sizes : (i c : ℕ) → size_after (made_memory coarrays i) (of_memory i u) c ≡ size_after (made_memory coarrays i) (of_memory i t) c)
    (values : (i c o : ℕ) → value_there (made_memory coarrays i) (of_memory i u) c o ≡ value_there (made_memory coarrays i) (of_memory i t) c o) where
  one_image : (i : ℕ) (own other : List Final) → AreImageFinals p limit coarrays n fails_at words listed t i own → AreImageFinals p limit coarrays n fails_at words listed u i other → other ≡ own
  one_image i own other a b =
      let walks = subst (λ es. WalkTo (program_rules p limit).step ((program_begins p coarrays n fails_at words).first i) es b.at) (said i) b.stands.walks in
      let place = one_stop (program_rules p limit).step (said_by i t) ((program_begins p coarrays n fails_at words).first i) b.at a.at walks a.stands.walks b.stands.rests a.stands.rests in
      b.are
      ∙ image_same (made_memory coarrays i) (of_memory i t) (of_memory i u) (sizes i) (values i) listed i b.at.program.core
      ∙ ap (λ c. image_finals listed i c.program.core (made_memory coarrays i) (of_memory i t)) place
      ∙ sym a.are

  one_own : (i : ℕ) (own other : List Final) → AreOwnFinals p limit coarrays n fails_at words listed t i own → AreOwnFinals p limit coarrays n fails_at words listed u i other → other ≡ own
  one_own i own other (inl a) (inl b) = b.1 ∙ sym a.1
  one_own i own other (inl a) (inr b) = absurd (let e : true ≡ false = sym a.0 ∙ sym (ap (list_any (λ s. is_failure s.ask)) (said i)) ∙ b.0 in cc)
  one_own i own other (inr a) (inl b) = absurd (let e : true ≡ false = sym b.0 ∙ ap (list_any (λ s. is_failure s.ask)) (said i) ∙ a.0 in cc)
  one_own i own other (inr a) (inr b) = one_image i own other a.1 b.1

  one_from : (i images : ℕ) (fs gs : List Final) → AreFinalsFrom p limit coarrays n fails_at words listed t i images fs → AreFinalsFrom p limit coarrays n fails_at words listed u i images gs → gs ≡ fs
  one_from i zero fs gs a b = b ∙ sym a
  one_from i (suc more) fs gs (own, rest, first, others, is) (own', rest', first', others', is') =
      is' ∙ ap (λ l. l ++ rest') (one_own i own own' first first') ∙ ap (λ l. own ++ l) (one_from (suc i) more rest rest' others others') ∙ sym is

  pub finals_same : (fs gs : List Final) → AreProgramFinals p limit coarrays n fails_at words listed t fs → AreProgramFinals p limit coarrays n fails_at words listed u gs → gs ≡ fs
  finals_same fs gs = one_from 1 n fs gs
