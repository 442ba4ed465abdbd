-- Where a program is spelled, its canonical tokens spell it.
use Rattle.std.proofs.Common.{ℕ, suc, List, codes, Option, Some, None, inl}
use Rattle.caf_base.specs.declared.place.Pos.{Pos}
use Rattle.fortran_tokens.specs.declared.token.Sign.TheVariants.{Colons}
use Rattle.fortran_tree.specs.declared.name.Name.{Name}
use Rattle.fortran_tree.specs.declared.unit.ModuleNature.{ModuleNature}
use Rattle.fortran_tree.specs.declared.unit.ModuleNature.TheVariants as natures
use Rattle.fortran_tree.specs.declared.unit.Recursion.{Recursion}
use Rattle.fortran_tree.specs.declared.unit.Recursion.TheVariants as recursions
use Rattle.fortran_tree.specs.Units as u
use Rattle.fortran_tree.specs.Units.{Use, Body, PrefixSpec, Heading, Procedure, Program}
use Rattle.fortran_grammar.specs.Tokens as t
use Rattle.fortran_grammar.specs.Phrases.{name, key}
use Rattle.fortran_grammar.specs.ActionGrammar.{declaration}
use Rattle.fortran_grammar.specs.ProgramGrammar as g
use Rattle.fortran_grammar.proofs.Canonical.{Fair, canon_token, canon_both, opened, fair_joined, fair_optional, fair_maybe_listed, fair_repeated}
use Rattle.fortran_grammar.proofs.FairStatements.{fair_declaration_type_spec, fair_declaration, fair_statements, at_top}

fair_name : (l d : ℕ) (n : Name) → Fair (name n) l d
fair_name l d n = tt

fair_nature : (x : ModuleNature) (l : ℕ) → Fair (g.nature x) l 0
fair_nature natures.Unstated l = ((tt, λ w a b. canon_token (t.sign Colons) l 0 (at_top l)))
fair_nature natures.Intrinsic l = (tt, (tt, tt))

fair_only : (l d : ℕ) (ns : List Name) → Fair (g.only_names ns) l d
fair_only l d ns = (tt, (tt, (tt, fair_maybe_listed name l d (fair_name l d) ns)))

fair_use : (l : ℕ) (x : Use) → Fair (g.use_statement x) l 0
fair_use l x = (tt, (fair_nature x.nature l, (tt, (fair_optional g.only_names l 0 (fair_only l 0) x.only, tt))))

fair_implicit : (l d : ℕ) (at : Pos) → Fair (g.implicit_none at) l d
fair_implicit l d at = (tt, (tt, tt))

fair_body : (l : ℕ) (b : Body) → Fair (g.body b) l 0
fair_body l b = (fair_optional g.implicit_none l 0 (fair_implicit l 0) b.implicit_none, (fair_repeated declaration l 0 (fair_declaration l) b.declarations, fair_statements b.statements l 0))

fair_recursion : (r : Recursion) (l d : ℕ) → Fair (g.recursion r) l d
fair_recursion recursions.Unstated l d = tt
fair_recursion recursions.Recursive l d = tt

fair_prefix_spec : (l d : ℕ) (x : PrefixSpec) → Fair (g.prefix_spec x) l d
fair_prefix_spec l d u.recursive = tt
fair_prefix_spec l d (u.result_type x) = fair_declaration_type_spec x l d

fair_dummies : (l d : ℕ) (ns : List Name) → Fair (g.dummies ns) l d
fair_dummies l d ns = (tt, (fair_maybe_listed name l (suc d) (fair_name l (suc d)) ns, tt))

fair_result : (l d : ℕ) (n : Name) → Fair (g.result n) l d
fair_result l d n = (tt, (tt, (tt, tt)))

fair_heading : (x : Heading) (l d : ℕ) → Fair (g.heading x) l d
fair_heading (u.subroutine r n ns) l d = (fair_recursion r l d, (tt, (tt, fair_optional g.dummies l d (fair_dummies l d) ns)))
fair_heading (u.function ps n ns r) l d = (fair_repeated g.prefix_spec l d (fair_prefix_spec l d) ps, (tt, (tt, (fair_dummies l d ns, fair_optional g.result l d (fair_result l d) r))))

fair_end_of_procedure : (w : List ℕ) (n : Option Name) (l d : ℕ) → Fair (g.end_of_procedure w n) l d
fair_end_of_procedure w None l d = (
  fair_joined (codes "end") w l d,
  λ v x y.
      let o = opened (t.word (codes "end")) l d v x y in
      let c = canon_both (key (codes "end")) (key w) l d (canon_token (t.word (codes "end")) l d o) (canon_token (t.word w) l d o) in
      record { word = c.word; is_word = inl c.is_word; shallow = c.shallow; same = c.same },
)
fair_end_of_procedure w (Some n) l d = (fair_joined (codes "end") w l d, tt)

fair_end_of_program : (n : Option Name) (l : ℕ) → Fair (g.end_of_program n) l 0
fair_end_of_program None l = (tt, λ v x y. canon_token (t.word (codes "end")) l 0 (at_top l))
fair_end_of_program (Some n) l = (fair_joined (codes "end") (codes "program") l 0, tt)

fair_internal_subprogram : (l : ℕ) (x : Procedure) → Fair (g.internal_subprogram x) l 0
fair_internal_subprogram l x = (fair_heading x.heading l 0, (tt, (fair_body l x.body, (fair_end_of_procedure (g.subprogram_keyword x.heading) x.end.name l 0, tt))))

fair_program_statement : (l d : ℕ) (n : Name) → Fair (g.program_statement n) l d
fair_program_statement l d n = (tt, (tt, tt))

fair_contained : (l : ℕ) (ps : List Procedure) → Fair (g.contained ps) l 0
fair_contained l ps = (tt, (tt, fair_repeated g.internal_subprogram l 0 (fair_internal_subprogram l) ps))

pub fair_program : (l : ℕ) (x : Program) → Fair (g.program x) l 0
fair_program l x = (
  fair_optional g.program_statement l 0 (fair_program_statement l 0) x.name,
  (
    fair_repeated g.use_statement l 0 (fair_use l) x.uses,
    (fair_body l x.body, (fair_optional g.contained l 0 (fair_contained l) x.procedures, (fair_end_of_program x.end.name l, tt))),
  ),
)
