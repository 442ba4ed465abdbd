-- A program without its places.
use Rattle.std.proofs.Common.{ℕ, List, Option, Some, None, map, sym, subst}
use Rattle.std.specs.Option.{option_map}
use Rattle.caf_base.specs.declared.place.Pos.{Pos}
use Rattle.fortran_tree.specs.declared.name.Name.{Name}
use Rattle.fortran_tree.specs.declared.unit.ModuleNature.{ModuleNature}
use Rattle.fortran_tree.specs.declared.unit.ModuleNature.TheVariants as natures
use Rattle.fortran_tree.specs.declared.unit.Recursion.{Recursion}
use Rattle.fortran_tree.specs.declared.unit.Recursion.TheVariants as recursions
use Rattle.fortran_tree.specs.Units as u
use Rattle.fortran_tree.specs.Units.{Use, Body, PrefixSpec, Heading, Procedure, Program}
use Rattle.fortran_grammar.specs.ProgramGrammar as g
use Rattle.print_again.specs.Unplaced as v
use Rattle.print_again.proofs.PlacedPrograms.{keyword_unplaced}
use Rattle.print_again.proofs.Emptied.{Emptied, emptied_nothing, emptied_token, emptied_both, emptied_either, emptied_from, emptied_name, emptied_joined, emptied_round, emptied_optional, emptied_maybe_listed, emptied_repeated}
use Rattle.print_again.proofs.EmptiedStatements.{emptied_declaration_type_spec, emptied_declaration, emptied_statements}

emptied_nature : (x : ModuleNature) → Emptied (g.nature x) (g.nature x)
emptied_nature natures.Unstated = emptied_either emptied_token emptied_nothing
emptied_nature natures.Intrinsic = emptied_both emptied_token (emptied_both emptied_token emptied_token)

emptied_only_names : (ns : List Name) → Emptied (g.only_names ns) (g.only_names (map v.name ns))
emptied_only_names ns = emptied_both emptied_token (emptied_both emptied_token (emptied_both emptied_token (emptied_maybe_listed v.name emptied_name ns)))

emptied_use : (x : Use) → Emptied (g.use_statement x) (g.use_statement (v.use_statement x))
emptied_use x = emptied_from (emptied_both emptied_token (emptied_both (emptied_nature x.nature) (emptied_both (emptied_name x.module_name) (emptied_both (emptied_optional (map v.name) emptied_only_names x.only) emptied_token))))

emptied_implicit : (at : Pos) → Emptied (g.implicit_none at) (g.implicit_none (v.implicit_none at))
emptied_implicit at = emptied_from (emptied_both emptied_token (emptied_both emptied_token emptied_token))

emptied_body : (b : Body) → Emptied (g.body b) (g.body (v.body b))
emptied_body b = emptied_both (emptied_optional v.implicit_none emptied_implicit b.implicit_none) (emptied_both (emptied_repeated v.declaration emptied_declaration b.declarations) (emptied_statements b.statements))

emptied_recursion : (r : Recursion) → Emptied (g.recursion r) (g.recursion r)
emptied_recursion recursions.Unstated = emptied_nothing
emptied_recursion recursions.Recursive = emptied_token

emptied_prefix : (x : PrefixSpec) → Emptied (g.prefix_spec x) (g.prefix_spec (v.prefix_spec x))
emptied_prefix u.recursive = emptied_token
emptied_prefix (u.result_type x) = emptied_declaration_type_spec x

emptied_dummies : (ns : List Name) → Emptied (g.dummies ns) (g.dummies (map v.name ns))
emptied_dummies ns = emptied_round (emptied_maybe_listed v.name emptied_name ns)

emptied_result : (n : Name) → Emptied (g.result n) (g.result (v.name n))
emptied_result n = emptied_both emptied_token (emptied_round (emptied_name n))

emptied_heading : (x : Heading) → Emptied (g.heading x) (g.heading (v.heading x))
emptied_heading (u.subroutine r n ns) = emptied_both (emptied_recursion r) (emptied_both emptied_token (emptied_both (emptied_name n) (emptied_optional (map v.name) emptied_dummies ns)))
emptied_heading (u.function ps n ns r) = emptied_both (emptied_repeated v.prefix_spec emptied_prefix ps) (emptied_both emptied_token (emptied_both (emptied_name n) (emptied_both (emptied_dummies ns) (emptied_optional v.name emptied_result r))))

emptied_end_of_procedure : (k : List ℕ) (n : Option Name) → Emptied (g.end_of_procedure k n) (g.end_of_procedure k (option_map v.name n))
emptied_end_of_procedure k None = emptied_either emptied_joined emptied_token
emptied_end_of_procedure k (Some n) = emptied_both emptied_joined (emptied_name n)

emptied_end : (x : Heading) (n : Option Name) → Emptied (g.end_of_procedure (g.subprogram_keyword x) n) (g.end_of_procedure (g.subprogram_keyword (v.heading x)) (option_map v.name n))
emptied_end x n = subst (λ k. Emptied (g.end_of_procedure (g.subprogram_keyword x) n) (g.end_of_procedure k (option_map v.name n))) (sym (keyword_unplaced x)) (emptied_end_of_procedure (g.subprogram_keyword x) n)

emptied_end_of_program : (n : Option Name) → Emptied (g.end_of_program n) (g.end_of_program (option_map v.name n))
emptied_end_of_program None = emptied_either emptied_token emptied_joined
emptied_end_of_program (Some n) = emptied_both emptied_joined (emptied_name n)

emptied_procedure : (x : Procedure) → Emptied (g.internal_subprogram x) (g.internal_subprogram (v.procedure x))
emptied_procedure x = emptied_both (emptied_from (emptied_heading x.heading)) (emptied_both emptied_token (emptied_both (emptied_body x.body) (emptied_both (emptied_from (emptied_end x.heading x.end.name)) emptied_token)))

emptied_program_statement : (n : Name) → Emptied (g.program_statement n) (g.program_statement (v.name n))
emptied_program_statement n = emptied_both emptied_token (emptied_both (emptied_name n) emptied_token)

emptied_contained : (ps : List Procedure) → Emptied (g.contained ps) (g.contained (map v.procedure ps))
emptied_contained ps = emptied_both emptied_token (emptied_both emptied_token (emptied_repeated v.procedure emptied_procedure ps))

pub emptied_program : (x : Program) → Emptied (g.program x) (g.program (v.program x))
emptied_program x = emptied_both (emptied_optional v.name emptied_program_statement x.name) (emptied_both (emptied_repeated v.use_statement emptied_use x.uses) (emptied_both (emptied_body x.body) (emptied_both (emptied_optional (map v.procedure) emptied_contained x.procedures) (emptied_both (emptied_from (emptied_end_of_program x.end.name)) emptied_token))))
