-- Of whole statements that need more the place that their parts tell is that of the innermost construct that is open,
-- in each program to which they go on.
use Rattle.std.proofs.Common.{◌≡◌, true, false, List, ◌++◌, inl, refl, ap, sym, ◌∙◌, subst, arith}
use Rattle.caf_base.specs.declared.place.Pos.{Pos}
use Rattle.reader_theory.specs.Refusals.{Reads}
use Rattle.fortran_tree.specs.Units.{Program}
use Rattle.fortran_grammar.specs.Tokens.{Token}
use Rattle.fortran_grammar.specs.ProgramGrammar.{Sources}
use Rattle.program_reader.specs.Sequence.{start}
use Rattle.program_reader.specs.Nesting.{program_parts}
use Rattle.program_reader.specs.Unfinished.{Unfinished, behind, first_place}
use Rattle.program_reader.proofs.FlatUnits.{flat_program}
use Rattle.sequence_reader.specs.Statements.{whole_statements}
use Rattle.open_constructs.specs.Open.{extents, innermost, GoesOnTo, IsInnermostOpen}
use Rattle.open_constructs.proofs.Spans.{spans, top, innermost_left}
use Rattle.open_constructs.proofs.Trees.{opened_by_program}
use Rattle.open_constructs.proofs.States.{top_open, parts_leave}
use Rattle.open_constructs.proofs.Standing.{AllAt, elsewhere_at, all_own, parts_stand, rest_parts, another_place}
use Rattle.open_constructs.proofs.Whole.{no_conditions, levels_fit}
use Rattle.open_constructs.proofs.Going.{same_parts}
use Rattle.open_constructs.proofs.Closing.{goes_on}

module _ (ts : List Token) (at : Pos) (whole : whole_statements ts ≡ true) (u : Unfinished 64 ts at) where
  conditions : (behind start u.parts).conditions ≡ 0
  conditions = no_conditions 64 u.parts start u.word u.is_word (subst (λ z. whole_statements z ≡ true) u.same whole) (inl refl)

  some_program : (x : Program) × GoesOnTo ts x
  some_program =
      let (p, new) = another_place ts in
      let fits = levels_fit 64 u.parts start u.word u.is_word u.shallow (omega arith) in
      let (x, more, elsewhere, reads) = goes_on 64 ts p new u.parts u.word u.is_word u.shallow conditions (omega arith) in
      (x, record { more = more; elsewhere = elsewhere; reads = subst (λ z. Reads Sources (z ++ more) x) (sym u.same) reads })

  one_place : (x : Program) → GoesOnTo ts x → at ≡ innermost ts (extents x) (first_place ts)
  one_place x g =
      let (w, h, flat, e) = g.reads in
      let first = first_place ts in
      let begun = same_parts 64 u.parts (program_parts x) start u.word w g.more u.is_word u.shallow conditions (flat_program 64 x w h) flat (sym e ∙ ap (λ z. z ++ g.more) u.same) in
      let inside = parts_stand ts 64 true start u.parts u.word u.is_word (subst (AllAt ts true) u.same (all_own ts)) in
      let behind_them = parts_stand ts 64 false (behind start u.parts) begun.left begun.rest (rest_parts ts 64 (behind start u.parts) begun.left begun.rest begun.is_rest) (subst (AllAt ts false) (sym begun.over) (elsewhere_at ts g.more g.elsewhere)) in
      let (none, new) = another_place ts in
      u.place ∙ (top_open (behind start u.parts).blocks (behind start u.parts).scope first
      ∙ (ap (top first) (parts_leave 64 start u.parts u.word u.is_word)
      ∙ (sym (innermost_left ts none new first u.parts begun.left inside behind_them)
      ∙ (ap (λ l. innermost ts (spans none l) first) (sym begun.parts) ∙ ap (λ l. innermost ts l first) (opened_by_program none x)))))

  pub open_told : IsInnermostOpen ts at
  open_told = record { some = some_program; place = one_place }

pub open_once : (ts : List Token) (at there : Pos) → IsInnermostOpen ts at → IsInnermostOpen ts there → at ≡ there
open_once ts at there h k = let (x, g) = h.some in h.place x g ∙ sym (k.place x g)
