-- A word of a program's phrase without its places is one of a program that is the same but for places.
use Rattle.std.proofs.Common.{◌≡◌, ℕ, true, List, Option, Some, None, map, refl, ap, sym, ◌∙◌, subst}
use Rattle.std.specs.Option.{option_map}
use Rattle.caf_base.specs.declared.place.Pos.{Pos}
use Rattle.reader_theory.specs.Words.{Mark}
use Rattle.fortran_tree.specs.declared.name.Name.{Name}
use Rattle.fortran_tree.specs.declared.unit.ModuleNature.{ModuleNature}
use Rattle.fortran_tree.specs.declared.unit.ModuleNature.TheVariants as natures
use Rattle.fortran_tree.specs.declared.unit.Recursion.{Recursion}
use Rattle.fortran_tree.specs.declared.unit.Recursion.TheVariants as recursions
use Rattle.fortran_tree.specs.Units as s
use Rattle.fortran_tree.specs.Units.{Use, Body, PrefixSpec, Heading, Procedure, Program}
use Rattle.fortran_grammar.specs.Tokens.{Token}
use Rattle.fortran_grammar.specs.Phrases.{Words, name, repeated}
use Rattle.fortran_grammar.specs.Laws.{placeless}
use Rattle.fortran_grammar.specs.ActionGrammar.{declaration}
use Rattle.fortran_grammar.specs.ProgramGrammar as g
use Rattle.print_again.specs.Unplaced as u
use Rattle.print_again.proofs.Placing.{Placed, starts, some_token, has_token, last_has, placed_name, placed_optional, placed_maybe_listed, placed_repeated}
use Rattle.print_again.proofs.PlacedStatements.{placed_declaration_type_spec, placed_declaration, placed_statements}

same_nature : (x : ModuleNature) (l d : ℕ) (w : List (Mark Token)) → Words (placeless (g.nature x)) l d w → Words (g.nature x) l d w
same_nature natures.Unstated l d w e = e
same_nature natures.Intrinsic l d w e = e

placed_only : (ns : List Name) → Placed g.only_names (map u.name) ns
placed_only ns l d w (x0, v0, h0, (x1, v1, h1, (x2, v2, h2, h3, k2), k1), k0) =
    let r = placed_maybe_listed name u.name placed_name ns l d v2 h3 in (r.0, r.1, (x0, v0, h0, (x1, v1, h1, (x2, v2, h2, r.2, k2), k1), k0))

placed_use : (x : Use) → Placed g.use_statement u.use_statement x
placed_use a l d w (x0, v0, h0, (x1, v1, h1, (x2, v2, h2, (x3, v3, h3, h4, k3), k2), k1), k0) =
    let f = starts x0 v0 w h0.1 k0 in
    let n = placed_name a.module_name l d x2 h2 in
    let r = placed_optional g.only_names (map u.name) placed_only a.only l d x3 h3 in (
      record { nature = a.nature; module_name = n.0; only = r.0; at = f.0 },
      λ i. record { nature = a.nature; module_name = n.1 i; only = r.1 i; at = u.nowhere },
      (f.1, (x0, v0, h0, (x1, v1, same_nature a.nature l d x1 h1, (x2, v2, n.2, (x3, v3, r.2, h4, k3), k2), k1), k0)),
    )

placed_implicit : (at : Pos) → Placed g.implicit_none u.implicit_none at
placed_implicit at l d w (x0, v0, h0, h1, k0) = let f = starts x0 v0 w h0.1 k0 in (f.0, refl, (f.1, (x0, v0, h0, h1, k0)))

placed_body : (b : Body) → Placed g.body u.body b
placed_body b l d w (x0, v0, h0, (x1, v1, h1, h2, k1), k0) =
    let a = placed_optional g.implicit_none u.implicit_none placed_implicit b.implicit_none l d x0 h0 in
    let r = placed_repeated declaration u.declaration placed_declaration b.declarations l d x1 h1 in
    let q = placed_statements b.statements l d v1 h2 in (
      record { implicit_none = a.0; declarations = r.0; statements = q.0 },
      λ i. record { implicit_none = a.1 i; declarations = r.1 i; statements = q.1 i },
      (x0, v0, a.2, (x1, v1, r.2, q.2, k1), k0),
    )

same_recursion : (r : Recursion) (l d : ℕ) (w : List (Mark Token)) → Words (placeless (g.recursion r)) l d w → Words (g.recursion r) l d w
same_recursion recursions.Unstated l d w e = e
same_recursion recursions.Recursive l d w e = e

placed_prefix_spec : (x : PrefixSpec) → Placed g.prefix_spec u.prefix_spec x
placed_prefix_spec s.recursive l d w e = (s.recursive, refl, e)
placed_prefix_spec (s.result_type a) l d w e = let r = placed_declaration_type_spec a l d w e in (s.result_type r.0, λ i. s.result_type (r.1 i), r.2)

placed_dummies : (ns : List Name) → Placed g.dummies (map u.name) ns
placed_dummies ns l d w (x0, v0, h0, (x1, v1, h1, h2, k1), k0) = let r = placed_maybe_listed name u.name placed_name ns l _ x1 h1 in (r.0, r.1, (x0, v0, h0, (x1, v1, r.2, h2, k1), k0))

placed_result : (n : Name) → Placed g.result u.name n
placed_result n l d w (x, v, hx, (x0, v0, h0, (x1, v1, h1, h2, k1), k0), e) = let r = placed_name n l _ x1 h1 in (r.0, r.1, (x, v, hx, (x0, v0, h0, (x1, v1, r.2, h2, k1), k0), e))

placed_heading : (x : Heading) → Placed g.heading u.heading x
placed_heading (s.subroutine r n ns) l d w (x0, v0, h0, (x1, v1, h1, (x2, v2, h2, h3, k2), k1), k0) =
    let m = placed_name n l d x2 h2 in
    let q = placed_optional g.dummies (map u.name) placed_dummies ns l d v2 h3 in
    (s.subroutine r m.0 q.0, λ i. s.subroutine r (m.1 i) (q.1 i), (x0, v0, same_recursion r l d x0 h0, (x1, v1, h1, (x2, v2, m.2, q.2, k2), k1), k0))
placed_heading (s.function ps n ns r) l d w (x0, v0, h0, (x1, v1, h1, (x2, v2, h2, (x3, v3, h3, h4, k3), k2), k1), k0) =
    let a = placed_repeated g.prefix_spec u.prefix_spec placed_prefix_spec ps l d x0 h0 in
    let m = placed_name n l d x2 h2 in
    let q = placed_dummies ns l d x3 h3 in
    let z = placed_optional g.result u.name placed_result r l d v3 h4 in
    (s.function a.0 m.0 q.0 z.0, λ i. s.function (a.1 i) (m.1 i) (q.1 i) (z.1 i), (x0, v0, a.2, (x1, v1, h1, (x2, v2, m.2, (x3, v3, q.2, z.2, k3), k2), k1), k0))

heading_token : (x : Heading) → has_token (g.heading x) ≡ true
heading_token (s.subroutine r n ns) = last_has (has_token (g.recursion r))
heading_token (s.function ps n ns r) = last_has (has_token (repeated g.prefix_spec ps))

-- the keyword at a subprogram's END has nothing to do with places
pub keyword_unplaced : (x : Heading) → g.subprogram_keyword (u.heading x) ≡ g.subprogram_keyword x
keyword_unplaced (s.subroutine r n ns) = refl
keyword_unplaced (s.function ps n ns r) = refl

placed_end_of_procedure : (k : List ℕ) (n : Option Name) → Placed (g.end_of_procedure k) (option_map u.name) n
placed_end_of_procedure k None l d w e = (None, refl, e)
placed_end_of_procedure k (Some n) l d w (x0, v0, h0, h1, k0) = let r = placed_name n l d v0 h1 in (Some r.0, λ i. Some (r.1 i), (x0, v0, h0, r.2, k0))

end_token : (k : List ℕ) (n : Option Name) → has_token (g.end_of_procedure k n) ≡ true
end_token k None = refl
end_token k (Some n) = refl

placed_end_of_program : (n : Option Name) → Placed g.end_of_program (option_map u.name) n
placed_end_of_program None l d w e = (None, refl, e)
placed_end_of_program (Some n) l d w (x0, v0, h0, h1, k0) = let r = placed_name n l d v0 h1 in (Some r.0, λ i. Some (r.1 i), (x0, v0, h0, r.2, k0))

end_of_program_token : (n : Option Name) → has_token (g.end_of_program n) ≡ true
end_of_program_token None = refl
end_of_program_token (Some n) = refl

placed_procedure : (x : Procedure) → Placed g.internal_subprogram u.procedure x
placed_procedure a l d w (x0, v0, h0, (x1, v1, h1, (x2, v2, h2, (x3, v3, h3, h4, k3), k2), k1), k0) =
    let r = placed_heading a.heading l d x0 h0 in
    let f = some_token (g.heading a.heading) l d x0 (heading_token a.heading) h0 in
    let m = placed_body a.body l d x2 h2 in
    let n = placed_end_of_procedure (g.subprogram_keyword a.heading) a.end.name l d x3 h3 in
    let z = some_token (g.end_of_procedure (g.subprogram_keyword a.heading) a.end.name) l d x3 (end_token (g.subprogram_keyword a.heading) a.end.name) h3 in
    let same : g.subprogram_keyword a.heading ≡ g.subprogram_keyword r.0 = sym (keyword_unplaced a.heading) ∙ (sym (ap g.subprogram_keyword r.1) ∙ keyword_unplaced r.0) in (
      record { heading = r.0; body = m.0; end = record { name = n.0; at = z.0 }; at = f.0 },
      λ i. record { heading = r.1 i; body = m.1 i; end = record { name = n.1 i; at = u.nowhere }; at = u.nowhere },
      (x0, v0, (f.1, r.2), (x1, v1, h1, (x2, v2, m.2, (x3, v3, (z.1, subst (λ k. Words (g.end_of_procedure k n.0) l d x3) same n.2), h4, k3), k2), k1), k0),
    )

placed_program_statement : (n : Name) → Placed g.program_statement u.name n
placed_program_statement n l d w (x0, v0, h0, (x1, v1, h1, h2, k1), k0) = let r = placed_name n l d x1 h1 in (r.0, r.1, (x0, v0, h0, (x1, v1, r.2, h2, k1), k0))

placed_contained : (ps : List Procedure) → Placed g.contained (map u.procedure) ps
placed_contained ps l d w (x0, v0, h0, (x1, v1, h1, h2, k1), k0) = let r = placed_repeated g.internal_subprogram u.procedure placed_procedure ps l d v1 h2 in (r.0, r.1, (x0, v0, h0, (x1, v1, h1, r.2, k1), k0))

pub placed_program : (x : Program) → Placed g.program u.program x
placed_program a l d w (x0, v0, h0, (x1, v1, h1, (x2, v2, h2, (x3, v3, h3, (x4, v4, h4, h5, k4), k3), k2), k1), k0) =
    let n = placed_optional g.program_statement u.name placed_program_statement a.name l d x0 h0 in
    let r = placed_repeated g.use_statement u.use_statement placed_use a.uses l d x1 h1 in
    let m = placed_body a.body l d x2 h2 in
    let q = placed_optional g.contained (map u.procedure) placed_contained a.procedures l d x3 h3 in
    let e = placed_end_of_program a.end.name l d x4 h4 in
    let z = some_token (g.end_of_program a.end.name) l d x4 (end_of_program_token a.end.name) h4 in (
      record { name = n.0; uses = r.0; body = m.0; procedures = q.0; end = record { name = e.0; at = z.0 } },
      λ i. record { name = n.1 i; uses = r.1 i; body = m.1 i; procedures = q.1 i; end = record { name = e.1 i; at = u.nowhere } },
      (x0, v0, n.2, (x1, v1, r.2, (x2, v2, m.2, (x3, v3, q.2, (x4, v4, (z.1, e.2), h5, k4), k3), k2), k1), k0),
    )
