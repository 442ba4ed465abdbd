-- Files with their answers, worked out by another reading of the rules.
use Rattle.std.proofs.Common.{◌≡◌, true, [], ◌∷◌, refl, codes, Some, None}
use Rattle.fortran_tree.specs.declared.expr.NumberKind.TheVariants as kinds
use Rattle.fortran_tree.specs.declared.expr.Operator.TheVariants as operators
use Rattle.fortran_tree.specs.declared.expr.PrefixOperator.TheVariants as prefixes
use Rattle.fortran_tree.specs.declared.declaration.Intent.TheVariants as intents
use Rattle.fortran_tree.specs.declared.unit.ModuleNature.TheVariants as natures
use Rattle.fortran_tree.specs.declared.unit.Recursion.TheVariants as recursions
use Rattle.fortran_tree.specs.Expressions as f
use Rattle.fortran_tree.specs.Statements as s
use Rattle.fortran_tree.specs.Units as u
use Rattle.unit_tree.specs.Files as files
use Rattle.module_units.proofs.Trees.{p, n, accepted_file, answers_file}
use Rattle.module_units.specs.Flat.{flat}
use Rattle.rule_definitions.specs.Statements.{judged_statements}

-- module counters; integer :: total[*]; contains; subroutine add(k); integer, intent(in) :: k; total[1] = total[1] + k;
-- end subroutine add; end module counters; program p; use counters, only: bump => add, total; critical; call
-- bump(this_image()); end critical; sync all; if (this_image() == 1) print *, total; end program p
row_a : accepted_file (record { modules = ((record { name = (n (codes "counters") 1 8); uses = ([]); implicit_none = None; declarations = ((record { type_spec = (s.integer None); attributes = ([]); entities = ((record { name = (n (codes "total") 2 14); dimensions = ([]); coshape = (Some (s.explicit_coshape ([]) None)); initial = None }) ∷ []); at = (p 2 3) }) ∷ []); procedures = (Some ((record { heading = (u.subroutine recursions.Unstated (n (codes "add") 4 14) (Some ((n (codes "k") 4 18) ∷ []))); body = (record { implicit_none = None; declarations = ((record { type_spec = (s.integer None); attributes = ((s.intent intents.In) ∷ []); entities = ((record { name = (n (codes "k") 5 28); dimensions = ([]); coshape = None; initial = None }) ∷ []); at = (p 5 5) }) ∷ []); statements = (s.more_statements (s.action (s.assignment (f.part_ref (n (codes "total") 6 5) f.no_section_subscripts (f.image_selector (f.more_expressions (f.number 1 kinds.Unstated (p 6 11)) f.no_expressions) f.no_specifiers)) (f.binary operators.Add (f.designator (f.part_ref (n (codes "total") 6 16) f.no_section_subscripts (f.image_selector (f.more_expressions (f.number 1 kinds.Unstated (p 6 22)) f.no_expressions) f.no_specifiers))) (f.designator (f.part_ref (n (codes "k") 6 27) f.no_section_subscripts f.no_image_selector)) (p 6 16))) (p 6 5)) s.no_statements) }); end = record { name = (Some (n (codes "add") 7 18)); at = (p 7 3) }; at = (p 4 3) }) ∷ [])); end = record { name = (Some (n (codes "counters") 8 12)); at = (p 8 1) }; at = (p 1 1) }) ∷ []); main = record { name = (Some (n (codes "p") 9 9)); uses = ((record { nature = natures.Unstated; module_name = (n (codes "counters") 10 7); list = (files.only ((files.renamed (record { local = (n (codes "bump") 10 23); entity = (n (codes "add") 10 31) })) ∷ (files.named (n (codes "total") 10 36)) ∷ [])); at = (p 10 3) }) ∷ []); body = (record { implicit_none = None; declarations = ([]); statements = (s.more_statements (s.critical_construct s.absent (s.more_statements (s.action (s.call (n (codes "bump") 12 10) (Some (f.more_arguments None (f.function_reference (n (codes "this_image") 12 15) f.no_arguments) f.no_arguments))) (p 12 5)) s.no_statements) (p 11 3) (p 13 3)) (s.more_statements (s.action (s.sync_all None) (p 14 3)) (s.more_statements (s.action (s.if_statement (f.binary operators.Equal (f.function_reference (n (codes "this_image") 15 7) f.no_arguments) (f.number 1 kinds.Unstated (p 15 23)) (p 15 7)) (s.print s.free ((s.value (f.designator (f.part_ref (n (codes "total") 15 35) f.no_section_subscripts f.no_image_selector))) ∷ [])) (p 15 26)) (p 15 3)) s.no_statements))) }); procedures = None; end = record { name = (Some (n (codes "p") 16 13)); at = (p 16 1) } } }) ≡ true
unfolding judged_statements
row_a = refl

row_a_flat : flat (record { modules = ((record { name = (n (codes "counters") 1 8); uses = ([]); implicit_none = None; declarations = ((record { type_spec = (s.integer None); attributes = ([]); entities = ((record { name = (n (codes "total") 2 14); dimensions = ([]); coshape = (Some (s.explicit_coshape ([]) None)); initial = None }) ∷ []); at = (p 2 3) }) ∷ []); procedures = (Some ((record { heading = (u.subroutine recursions.Unstated (n (codes "add") 4 14) (Some ((n (codes "k") 4 18) ∷ []))); body = (record { implicit_none = None; declarations = ((record { type_spec = (s.integer None); attributes = ((s.intent intents.In) ∷ []); entities = ((record { name = (n (codes "k") 5 28); dimensions = ([]); coshape = None; initial = None }) ∷ []); at = (p 5 5) }) ∷ []); statements = (s.more_statements (s.action (s.assignment (f.part_ref (n (codes "total") 6 5) f.no_section_subscripts (f.image_selector (f.more_expressions (f.number 1 kinds.Unstated (p 6 11)) f.no_expressions) f.no_specifiers)) (f.binary operators.Add (f.designator (f.part_ref (n (codes "total") 6 16) f.no_section_subscripts (f.image_selector (f.more_expressions (f.number 1 kinds.Unstated (p 6 22)) f.no_expressions) f.no_specifiers))) (f.designator (f.part_ref (n (codes "k") 6 27) f.no_section_subscripts f.no_image_selector)) (p 6 16))) (p 6 5)) s.no_statements) }); end = record { name = (Some (n (codes "add") 7 18)); at = (p 7 3) }; at = (p 4 3) }) ∷ [])); end = record { name = (Some (n (codes "counters") 8 12)); at = (p 8 1) }; at = (p 1 1) }) ∷ []); main = record { name = (Some (n (codes "p") 9 9)); uses = ((record { nature = natures.Unstated; module_name = (n (codes "counters") 10 7); list = (files.only ((files.renamed (record { local = (n (codes "bump") 10 23); entity = (n (codes "add") 10 31) })) ∷ (files.named (n (codes "total") 10 36)) ∷ [])); at = (p 10 3) }) ∷ []); body = (record { implicit_none = None; declarations = ([]); statements = (s.more_statements (s.critical_construct s.absent (s.more_statements (s.action (s.call (n (codes "bump") 12 10) (Some (f.more_arguments None (f.function_reference (n (codes "this_image") 12 15) f.no_arguments) f.no_arguments))) (p 12 5)) s.no_statements) (p 11 3) (p 13 3)) (s.more_statements (s.action (s.sync_all None) (p 14 3)) (s.more_statements (s.action (s.if_statement (f.binary operators.Equal (f.function_reference (n (codes "this_image") 15 7) f.no_arguments) (f.number 1 kinds.Unstated (p 15 23)) (p 15 7)) (s.print s.free ((s.value (f.designator (f.part_ref (n (codes "total") 15 35) f.no_section_subscripts f.no_image_selector))) ∷ [])) (p 15 26)) (p 15 3)) s.no_statements))) }); procedures = None; end = record { name = (Some (n (codes "p") 16 13)); at = (p 16 1) } } }) ≡ (record { name = (Some (n (codes "p") 9 9)); uses = ([]); body = (record { implicit_none = None; declarations = ((record { type_spec = (s.integer None); attributes = ([]); entities = ((record { name = (n (codes "counters.total") 2 14); dimensions = ([]); coshape = (Some (s.explicit_coshape ([]) None)); initial = None }) ∷ []); at = (p 2 3) }) ∷ []); statements = (s.more_statements (s.critical_construct s.absent (s.more_statements (s.action (s.call (n (codes "counters.add") 12 10) (Some (f.more_arguments None (f.function_reference (n (codes "this_image") 12 15) f.no_arguments) f.no_arguments))) (p 12 5)) s.no_statements) (p 11 3) (p 13 3)) (s.more_statements (s.action (s.sync_all None) (p 14 3)) (s.more_statements (s.action (s.if_statement (f.binary operators.Equal (f.function_reference (n (codes "this_image") 15 7) f.no_arguments) (f.number 1 kinds.Unstated (p 15 23)) (p 15 7)) (s.print s.free ((s.value (f.designator (f.part_ref (n (codes "counters.total") 15 35) f.no_section_subscripts f.no_image_selector))) ∷ [])) (p 15 26)) (p 15 3)) s.no_statements))) }); procedures = (Some ((record { heading = (u.subroutine recursions.Unstated (n (codes "counters.add") 4 14) (Some ((n (codes "k") 4 18) ∷ []))); body = (record { implicit_none = None; declarations = ((record { type_spec = (s.integer None); attributes = ((s.intent intents.In) ∷ []); entities = ((record { name = (n (codes "k") 5 28); dimensions = ([]); coshape = None; initial = None }) ∷ []); at = (p 5 5) }) ∷ []); statements = (s.more_statements (s.action (s.assignment (f.part_ref (n (codes "counters.total") 6 5) f.no_section_subscripts (f.image_selector (f.more_expressions (f.number 1 kinds.Unstated (p 6 11)) f.no_expressions) f.no_specifiers)) (f.binary operators.Add (f.designator (f.part_ref (n (codes "counters.total") 6 16) f.no_section_subscripts (f.image_selector (f.more_expressions (f.number 1 kinds.Unstated (p 6 22)) f.no_expressions) f.no_specifiers))) (f.designator (f.part_ref (n (codes "k") 6 27) f.no_section_subscripts f.no_image_selector)) (p 6 16))) (p 6 5)) s.no_statements) }); end = record { name = (Some (n (codes "counters.add") 7 18)); at = (p 7 3) }; at = (p 4 3) }) ∷ [])); end = record { name = (Some (n (codes "p") 16 13)); at = (p 16 1) } })
row_a_flat = refl

-- module a; integer :: n = 1; end module; module b; integer :: n = 2; end module; use a; use b, only: m => n; print *,
-- n, m; end
row_b_second : accepted_file (record { modules = ((record { name = (n (codes "a") 1 8); uses = ([]); implicit_none = None; declarations = ((record { type_spec = (s.integer None); attributes = ([]); entities = ((record { name = (n (codes "n") 2 12); dimensions = ([]); coshape = None; initial = (Some (f.number 1 kinds.Unstated (p 2 16))) }) ∷ []); at = (p 2 1) }) ∷ []); procedures = None; end = record { name = None; at = (p 3 1) }; at = (p 1 1) }) ∷ (record { name = (n (codes "b") 4 8); uses = ([]); implicit_none = None; declarations = ((record { type_spec = (s.integer None); attributes = ([]); entities = ((record { name = (n (codes "n") 5 12); dimensions = ([]); coshape = None; initial = (Some (f.number 2 kinds.Unstated (p 5 16))) }) ∷ []); at = (p 5 1) }) ∷ []); procedures = None; end = record { name = None; at = (p 6 1) }; at = (p 4 1) }) ∷ []); main = record { name = None; uses = ((record { nature = natures.Unstated; module_name = (n (codes "a") 7 5); list = (files.all_but ([])); at = (p 7 1) }) ∷ (record { nature = natures.Unstated; module_name = (n (codes "b") 8 5); list = (files.only ((files.renamed (record { local = (n (codes "m") 8 14); entity = (n (codes "n") 8 19) })) ∷ [])); at = (p 8 1) }) ∷ []); body = (record { implicit_none = None; declarations = ([]); statements = (s.more_statements (s.action (s.print s.free ((s.value (f.designator (f.part_ref (n (codes "n") 9 10) f.no_section_subscripts f.no_image_selector))) ∷ (s.value (f.designator (f.part_ref (n (codes "m") 9 13) f.no_section_subscripts f.no_image_selector))) ∷ [])) (p 9 1)) s.no_statements) }); procedures = None; end = record { name = None; at = (p 10 1) } } }) ≡ true
unfolding judged_statements
row_b_second = refl

-- module a; integer :: n = 1; contains; subroutine s(k); integer, intent(in) :: k; integer :: n; n = k; print *, n; end
-- subroutine; subroutine t(); print *, n; end subroutine; end module; use a; call s(5); call t(); end
flat_local_beside_the_module_entity : accepted_file (record { modules = ((record { name = (n (codes "a") 1 8); uses = ([]); implicit_none = None; declarations = ((record { type_spec = (s.integer None); attributes = ([]); entities = ((record { name = (n (codes "n") 2 12); dimensions = ([]); coshape = None; initial = (Some (f.number 1 kinds.Unstated (p 2 16))) }) ∷ []); at = (p 2 1) }) ∷ []); procedures = (Some ((record { heading = (u.subroutine recursions.Unstated (n (codes "s") 4 12) (Some ((n (codes "k") 4 14) ∷ []))); body = (record { implicit_none = None; declarations = ((record { type_spec = (s.integer None); attributes = ((s.intent intents.In) ∷ []); entities = ((record { name = (n (codes "k") 5 24); dimensions = ([]); coshape = None; initial = None }) ∷ []); at = (p 5 1) }) ∷ (record { type_spec = (s.integer None); attributes = ([]); entities = ((record { name = (n (codes "n") 6 12); dimensions = ([]); coshape = None; initial = None }) ∷ []); at = (p 6 1) }) ∷ []); statements = (s.more_statements (s.action (s.assignment (f.part_ref (n (codes "n") 7 1) f.no_section_subscripts f.no_image_selector) (f.designator (f.part_ref (n (codes "k") 7 5) f.no_section_subscripts f.no_image_selector))) (p 7 1)) (s.more_statements (s.action (s.print s.free ((s.value (f.designator (f.part_ref (n (codes "n") 8 10) f.no_section_subscripts f.no_image_selector))) ∷ [])) (p 8 1)) s.no_statements)) }); end = record { name = None; at = (p 9 1) }; at = (p 4 1) }) ∷ (record { heading = (u.subroutine recursions.Unstated (n (codes "t") 10 12) (Some ([]))); body = (record { implicit_none = None; declarations = ([]); statements = (s.more_statements (s.action (s.print s.free ((s.value (f.designator (f.part_ref (n (codes "n") 11 10) f.no_section_subscripts f.no_image_selector))) ∷ [])) (p 11 1)) s.no_statements) }); end = record { name = None; at = (p 12 1) }; at = (p 10 1) }) ∷ [])); end = record { name = None; at = (p 13 1) }; at = (p 1 1) }) ∷ []); main = record { name = None; uses = ((record { nature = natures.Unstated; module_name = (n (codes "a") 14 5); list = (files.all_but ([])); at = (p 14 1) }) ∷ []); body = (record { implicit_none = None; declarations = ([]); statements = (s.more_statements (s.action (s.call (n (codes "s") 15 6) (Some (f.more_arguments None (f.number 5 kinds.Unstated (p 15 8)) f.no_arguments))) (p 15 1)) (s.more_statements (s.action (s.call (n (codes "t") 16 6) (Some f.no_arguments)) (p 16 1)) s.no_statements)) }); procedures = None; end = record { name = None; at = (p 17 1) } } }) ≡ true
unfolding judged_statements
flat_local_beside_the_module_entity = refl

flat_local_beside_the_module_entity_flat : flat (record { modules = ((record { name = (n (codes "a") 1 8); uses = ([]); implicit_none = None; declarations = ((record { type_spec = (s.integer None); attributes = ([]); entities = ((record { name = (n (codes "n") 2 12); dimensions = ([]); coshape = None; initial = (Some (f.number 1 kinds.Unstated (p 2 16))) }) ∷ []); at = (p 2 1) }) ∷ []); procedures = (Some ((record { heading = (u.subroutine recursions.Unstated (n (codes "s") 4 12) (Some ((n (codes "k") 4 14) ∷ []))); body = (record { implicit_none = None; declarations = ((record { type_spec = (s.integer None); attributes = ((s.intent intents.In) ∷ []); entities = ((record { name = (n (codes "k") 5 24); dimensions = ([]); coshape = None; initial = None }) ∷ []); at = (p 5 1) }) ∷ (record { type_spec = (s.integer None); attributes = ([]); entities = ((record { name = (n (codes "n") 6 12); dimensions = ([]); coshape = None; initial = None }) ∷ []); at = (p 6 1) }) ∷ []); statements = (s.more_statements (s.action (s.assignment (f.part_ref (n (codes "n") 7 1) f.no_section_subscripts f.no_image_selector) (f.designator (f.part_ref (n (codes "k") 7 5) f.no_section_subscripts f.no_image_selector))) (p 7 1)) (s.more_statements (s.action (s.print s.free ((s.value (f.designator (f.part_ref (n (codes "n") 8 10) f.no_section_subscripts f.no_image_selector))) ∷ [])) (p 8 1)) s.no_statements)) }); end = record { name = None; at = (p 9 1) }; at = (p 4 1) }) ∷ (record { heading = (u.subroutine recursions.Unstated (n (codes "t") 10 12) (Some ([]))); body = (record { implicit_none = None; declarations = ([]); statements = (s.more_statements (s.action (s.print s.free ((s.value (f.designator (f.part_ref (n (codes "n") 11 10) f.no_section_subscripts f.no_image_selector))) ∷ [])) (p 11 1)) s.no_statements) }); end = record { name = None; at = (p 12 1) }; at = (p 10 1) }) ∷ [])); end = record { name = None; at = (p 13 1) }; at = (p 1 1) }) ∷ []); main = record { name = None; uses = ((record { nature = natures.Unstated; module_name = (n (codes "a") 14 5); list = (files.all_but ([])); at = (p 14 1) }) ∷ []); body = (record { implicit_none = None; declarations = ([]); statements = (s.more_statements (s.action (s.call (n (codes "s") 15 6) (Some (f.more_arguments None (f.number 5 kinds.Unstated (p 15 8)) f.no_arguments))) (p 15 1)) (s.more_statements (s.action (s.call (n (codes "t") 16 6) (Some f.no_arguments)) (p 16 1)) s.no_statements)) }); procedures = None; end = record { name = None; at = (p 17 1) } } }) ≡ (record { name = None; uses = ([]); body = (record { implicit_none = None; declarations = ((record { type_spec = (s.integer None); attributes = ([]); entities = ((record { name = (n (codes "a.n") 2 12); dimensions = ([]); coshape = None; initial = (Some (f.number 1 kinds.Unstated (p 2 16))) }) ∷ []); at = (p 2 1) }) ∷ []); statements = (s.more_statements (s.action (s.call (n (codes "a.s") 15 6) (Some (f.more_arguments None (f.number 5 kinds.Unstated (p 15 8)) f.no_arguments))) (p 15 1)) (s.more_statements (s.action (s.call (n (codes "a.t") 16 6) (Some f.no_arguments)) (p 16 1)) s.no_statements)) }); procedures = (Some ((record { heading = (u.subroutine recursions.Unstated (n (codes "a.s") 4 12) (Some ((n (codes "k") 4 14) ∷ []))); body = (record { implicit_none = None; declarations = ((record { type_spec = (s.integer None); attributes = ((s.intent intents.In) ∷ []); entities = ((record { name = (n (codes "k") 5 24); dimensions = ([]); coshape = None; initial = None }) ∷ []); at = (p 5 1) }) ∷ (record { type_spec = (s.integer None); attributes = ([]); entities = ((record { name = (n (codes "n") 6 12); dimensions = ([]); coshape = None; initial = None }) ∷ []); at = (p 6 1) }) ∷ []); statements = (s.more_statements (s.action (s.assignment (f.part_ref (n (codes "n") 7 1) f.no_section_subscripts f.no_image_selector) (f.designator (f.part_ref (n (codes "k") 7 5) f.no_section_subscripts f.no_image_selector))) (p 7 1)) (s.more_statements (s.action (s.print s.free ((s.value (f.designator (f.part_ref (n (codes "n") 8 10) f.no_section_subscripts f.no_image_selector))) ∷ [])) (p 8 1)) s.no_statements)) }); end = record { name = None; at = (p 9 1) }; at = (p 4 1) }) ∷ (record { heading = (u.subroutine recursions.Unstated (n (codes "a.t") 10 12) (Some ([]))); body = (record { implicit_none = None; declarations = ([]); statements = (s.more_statements (s.action (s.print s.free ((s.value (f.designator (f.part_ref (n (codes "a.n") 11 10) f.no_section_subscripts f.no_image_selector))) ∷ [])) (p 11 1)) s.no_statements) }); end = record { name = None; at = (p 12 1) }; at = (p 10 1) }) ∷ [])); end = record { name = None; at = (p 17 1) } })
flat_local_beside_the_module_entity_flat = refl

-- module a; contains; integer function f(n); integer, intent(in) :: n; f = n + 1; end function f; end module; use a;
-- print *, f(2); end
flat_function_without_result : accepted_file (record { modules = ((record { name = (n (codes "a") 1 8); uses = ([]); implicit_none = None; declarations = ([]); procedures = (Some ((record { heading = (u.function ((u.result_type (s.integer None)) ∷ []) (n (codes "f") 3 18) ((n (codes "n") 3 20) ∷ []) None); body = (record { implicit_none = None; declarations = ((record { type_spec = (s.integer None); attributes = ((s.intent intents.In) ∷ []); entities = ((record { name = (n (codes "n") 4 24); dimensions = ([]); coshape = None; initial = None }) ∷ []); at = (p 4 1) }) ∷ []); statements = (s.more_statements (s.action (s.assignment (f.part_ref (n (codes "f") 5 1) f.no_section_subscripts f.no_image_selector) (f.binary operators.Add (f.designator (f.part_ref (n (codes "n") 5 5) f.no_section_subscripts f.no_image_selector)) (f.number 1 kinds.Unstated (p 5 9)) (p 5 5))) (p 5 1)) s.no_statements) }); end = record { name = (Some (n (codes "f") 6 14)); at = (p 6 1) }; at = (p 3 1) }) ∷ [])); end = record { name = None; at = (p 7 1) }; at = (p 1 1) }) ∷ []); main = record { name = None; uses = ((record { nature = natures.Unstated; module_name = (n (codes "a") 8 5); list = (files.all_but ([])); at = (p 8 1) }) ∷ []); body = (record { implicit_none = None; declarations = ([]); statements = (s.more_statements (s.action (s.print s.free ((s.value (f.designator (f.part_ref (n (codes "f") 9 10) (f.more_section_subscripts (f.subscript (f.number 2 kinds.Unstated (p 9 12))) f.no_section_subscripts) f.no_image_selector))) ∷ [])) (p 9 1)) s.no_statements) }); procedures = None; end = record { name = None; at = (p 10 1) } } }) ≡ true
unfolding judged_statements
flat_function_without_result = refl

flat_function_without_result_flat : flat (record { modules = ((record { name = (n (codes "a") 1 8); uses = ([]); implicit_none = None; declarations = ([]); procedures = (Some ((record { heading = (u.function ((u.result_type (s.integer None)) ∷ []) (n (codes "f") 3 18) ((n (codes "n") 3 20) ∷ []) None); body = (record { implicit_none = None; declarations = ((record { type_spec = (s.integer None); attributes = ((s.intent intents.In) ∷ []); entities = ((record { name = (n (codes "n") 4 24); dimensions = ([]); coshape = None; initial = None }) ∷ []); at = (p 4 1) }) ∷ []); statements = (s.more_statements (s.action (s.assignment (f.part_ref (n (codes "f") 5 1) f.no_section_subscripts f.no_image_selector) (f.binary operators.Add (f.designator (f.part_ref (n (codes "n") 5 5) f.no_section_subscripts f.no_image_selector)) (f.number 1 kinds.Unstated (p 5 9)) (p 5 5))) (p 5 1)) s.no_statements) }); end = record { name = (Some (n (codes "f") 6 14)); at = (p 6 1) }; at = (p 3 1) }) ∷ [])); end = record { name = None; at = (p 7 1) }; at = (p 1 1) }) ∷ []); main = record { name = None; uses = ((record { nature = natures.Unstated; module_name = (n (codes "a") 8 5); list = (files.all_but ([])); at = (p 8 1) }) ∷ []); body = (record { implicit_none = None; declarations = ([]); statements = (s.more_statements (s.action (s.print s.free ((s.value (f.designator (f.part_ref (n (codes "f") 9 10) (f.more_section_subscripts (f.subscript (f.number 2 kinds.Unstated (p 9 12))) f.no_section_subscripts) f.no_image_selector))) ∷ [])) (p 9 1)) s.no_statements) }); procedures = None; end = record { name = None; at = (p 10 1) } } }) ≡ (record { name = None; uses = ([]); body = (record { implicit_none = None; declarations = ([]); statements = (s.more_statements (s.action (s.print s.free ((s.value (f.designator (f.part_ref (n (codes "a.f") 9 10) (f.more_section_subscripts (f.subscript (f.number 2 kinds.Unstated (p 9 12))) f.no_section_subscripts) f.no_image_selector))) ∷ [])) (p 9 1)) s.no_statements) }); procedures = (Some ((record { heading = (u.function ((u.result_type (s.integer None)) ∷ []) (n (codes "a.f") 3 18) ((n (codes "n") 3 20) ∷ []) None); body = (record { implicit_none = None; declarations = ((record { type_spec = (s.integer None); attributes = ((s.intent intents.In) ∷ []); entities = ((record { name = (n (codes "n") 4 24); dimensions = ([]); coshape = None; initial = None }) ∷ []); at = (p 4 1) }) ∷ []); statements = (s.more_statements (s.action (s.assignment (f.part_ref (n (codes "a.f") 5 1) f.no_section_subscripts f.no_image_selector) (f.binary operators.Add (f.designator (f.part_ref (n (codes "n") 5 5) f.no_section_subscripts f.no_image_selector)) (f.number 1 kinds.Unstated (p 5 9)) (p 5 5))) (p 5 1)) s.no_statements) }); end = record { name = (Some (n (codes "a.f") 6 14)); at = (p 6 1) }; at = (p 3 1) }) ∷ [])); end = record { name = None; at = (p 10 1) } })
flat_function_without_result_flat = refl

-- module a; contains; function f(n); integer :: f; integer, intent(in) :: n; f = n + 1; end function; end module; use
-- a, g => f; print *, g(2); end
flat_function_declared_inside : accepted_file (record { modules = ((record { name = (n (codes "a") 1 8); uses = ([]); implicit_none = None; declarations = ([]); procedures = (Some ((record { heading = (u.function ([]) (n (codes "f") 3 10) ((n (codes "n") 3 12) ∷ []) None); body = (record { implicit_none = None; declarations = ((record { type_spec = (s.integer None); attributes = ([]); entities = ((record { name = (n (codes "f") 4 12); dimensions = ([]); coshape = None; initial = None }) ∷ []); at = (p 4 1) }) ∷ (record { type_spec = (s.integer None); attributes = ((s.intent intents.In) ∷ []); entities = ((record { name = (n (codes "n") 5 24); dimensions = ([]); coshape = None; initial = None }) ∷ []); at = (p 5 1) }) ∷ []); statements = (s.more_statements (s.action (s.assignment (f.part_ref (n (codes "f") 6 1) f.no_section_subscripts f.no_image_selector) (f.binary operators.Add (f.designator (f.part_ref (n (codes "n") 6 5) f.no_section_subscripts f.no_image_selector)) (f.number 1 kinds.Unstated (p 6 9)) (p 6 5))) (p 6 1)) s.no_statements) }); end = record { name = None; at = (p 7 1) }; at = (p 3 1) }) ∷ [])); end = record { name = None; at = (p 8 1) }; at = (p 1 1) }) ∷ []); main = record { name = None; uses = ((record { nature = natures.Unstated; module_name = (n (codes "a") 9 5); list = (files.all_but ((record { local = (n (codes "g") 9 8); entity = (n (codes "f") 9 13) }) ∷ [])); at = (p 9 1) }) ∷ []); body = (record { implicit_none = None; declarations = ([]); statements = (s.more_statements (s.action (s.print s.free ((s.value (f.designator (f.part_ref (n (codes "g") 10 10) (f.more_section_subscripts (f.subscript (f.number 2 kinds.Unstated (p 10 12))) f.no_section_subscripts) f.no_image_selector))) ∷ [])) (p 10 1)) s.no_statements) }); procedures = None; end = record { name = None; at = (p 11 1) } } }) ≡ true
unfolding judged_statements
flat_function_declared_inside = refl

flat_function_declared_inside_flat : flat (record { modules = ((record { name = (n (codes "a") 1 8); uses = ([]); implicit_none = None; declarations = ([]); procedures = (Some ((record { heading = (u.function ([]) (n (codes "f") 3 10) ((n (codes "n") 3 12) ∷ []) None); body = (record { implicit_none = None; declarations = ((record { type_spec = (s.integer None); attributes = ([]); entities = ((record { name = (n (codes "f") 4 12); dimensions = ([]); coshape = None; initial = None }) ∷ []); at = (p 4 1) }) ∷ (record { type_spec = (s.integer None); attributes = ((s.intent intents.In) ∷ []); entities = ((record { name = (n (codes "n") 5 24); dimensions = ([]); coshape = None; initial = None }) ∷ []); at = (p 5 1) }) ∷ []); statements = (s.more_statements (s.action (s.assignment (f.part_ref (n (codes "f") 6 1) f.no_section_subscripts f.no_image_selector) (f.binary operators.Add (f.designator (f.part_ref (n (codes "n") 6 5) f.no_section_subscripts f.no_image_selector)) (f.number 1 kinds.Unstated (p 6 9)) (p 6 5))) (p 6 1)) s.no_statements) }); end = record { name = None; at = (p 7 1) }; at = (p 3 1) }) ∷ [])); end = record { name = None; at = (p 8 1) }; at = (p 1 1) }) ∷ []); main = record { name = None; uses = ((record { nature = natures.Unstated; module_name = (n (codes "a") 9 5); list = (files.all_but ((record { local = (n (codes "g") 9 8); entity = (n (codes "f") 9 13) }) ∷ [])); at = (p 9 1) }) ∷ []); body = (record { implicit_none = None; declarations = ([]); statements = (s.more_statements (s.action (s.print s.free ((s.value (f.designator (f.part_ref (n (codes "g") 10 10) (f.more_section_subscripts (f.subscript (f.number 2 kinds.Unstated (p 10 12))) f.no_section_subscripts) f.no_image_selector))) ∷ [])) (p 10 1)) s.no_statements) }); procedures = None; end = record { name = None; at = (p 11 1) } } }) ≡ (record { name = None; uses = ([]); body = (record { implicit_none = None; declarations = ([]); statements = (s.more_statements (s.action (s.print s.free ((s.value (f.designator (f.part_ref (n (codes "a.f") 10 10) (f.more_section_subscripts (f.subscript (f.number 2 kinds.Unstated (p 10 12))) f.no_section_subscripts) f.no_image_selector))) ∷ [])) (p 10 1)) s.no_statements) }); procedures = (Some ((record { heading = (u.function ([]) (n (codes "a.f") 3 10) ((n (codes "n") 3 12) ∷ []) None); body = (record { implicit_none = None; declarations = ((record { type_spec = (s.integer None); attributes = ([]); entities = ((record { name = (n (codes "a.f") 4 12); dimensions = ([]); coshape = None; initial = None }) ∷ []); at = (p 4 1) }) ∷ (record { type_spec = (s.integer None); attributes = ((s.intent intents.In) ∷ []); entities = ((record { name = (n (codes "n") 5 24); dimensions = ([]); coshape = None; initial = None }) ∷ []); at = (p 5 1) }) ∷ []); statements = (s.more_statements (s.action (s.assignment (f.part_ref (n (codes "a.f") 6 1) f.no_section_subscripts f.no_image_selector) (f.binary operators.Add (f.designator (f.part_ref (n (codes "n") 6 5) f.no_section_subscripts f.no_image_selector)) (f.number 1 kinds.Unstated (p 6 9)) (p 6 5))) (p 6 1)) s.no_statements) }); end = record { name = None; at = (p 7 1) }; at = (p 3 1) }) ∷ [])); end = record { name = None; at = (p 11 1) } })
flat_function_declared_inside_flat = refl

-- module a; contains; recursive function f(n) result(r); integer :: r; integer, intent(in) :: n; r = 1; if (n > 1) r =
-- n * f(n - 1); end function; end module; use a; print *, f(5); end
flat_function_with_result : accepted_file (record { modules = ((record { name = (n (codes "a") 1 8); uses = ([]); implicit_none = None; declarations = ([]); procedures = (Some ((record { heading = (u.function ([]) (n (codes "f") 3 20) ((n (codes "n") 3 22) ∷ []) (Some (n (codes "r") 3 32))); body = (record { implicit_none = None; declarations = ((record { type_spec = (s.integer None); attributes = ([]); entities = ((record { name = (n (codes "r") 4 12); dimensions = ([]); coshape = None; initial = None }) ∷ []); at = (p 4 1) }) ∷ (record { type_spec = (s.integer None); attributes = ((s.intent intents.In) ∷ []); entities = ((record { name = (n (codes "n") 5 24); dimensions = ([]); coshape = None; initial = None }) ∷ []); at = (p 5 1) }) ∷ []); statements = (s.more_statements (s.action (s.assignment (f.part_ref (n (codes "r") 6 1) f.no_section_subscripts f.no_image_selector) (f.number 1 kinds.Unstated (p 6 5))) (p 6 1)) (s.more_statements (s.action (s.if_statement (f.binary operators.Greater (f.designator (f.part_ref (n (codes "n") 7 5) f.no_section_subscripts f.no_image_selector)) (f.number 1 kinds.Unstated (p 7 9)) (p 7 5)) (s.assignment (f.part_ref (n (codes "r") 7 12) f.no_section_subscripts f.no_image_selector) (f.binary operators.Multiply (f.designator (f.part_ref (n (codes "n") 7 16) f.no_section_subscripts f.no_image_selector)) (f.designator (f.part_ref (n (codes "f") 7 20) (f.more_section_subscripts (f.subscript (f.binary operators.Subtract (f.designator (f.part_ref (n (codes "n") 7 22) f.no_section_subscripts f.no_image_selector)) (f.number 1 kinds.Unstated (p 7 26)) (p 7 22))) f.no_section_subscripts) f.no_image_selector)) (p 7 16))) (p 7 12)) (p 7 1)) s.no_statements)) }); end = record { name = None; at = (p 8 1) }; at = (p 3 1) }) ∷ [])); end = record { name = None; at = (p 9 1) }; at = (p 1 1) }) ∷ []); main = record { name = None; uses = ((record { nature = natures.Unstated; module_name = (n (codes "a") 10 5); list = (files.all_but ([])); at = (p 10 1) }) ∷ []); body = (record { implicit_none = None; declarations = ([]); statements = (s.more_statements (s.action (s.print s.free ((s.value (f.designator (f.part_ref (n (codes "f") 11 10) (f.more_section_subscripts (f.subscript (f.number 5 kinds.Unstated (p 11 12))) f.no_section_subscripts) f.no_image_selector))) ∷ [])) (p 11 1)) s.no_statements) }); procedures = None; end = record { name = None; at = (p 12 1) } } }) ≡ true
unfolding judged_statements
flat_function_with_result = refl

flat_function_with_result_flat : flat (record { modules = ((record { name = (n (codes "a") 1 8); uses = ([]); implicit_none = None; declarations = ([]); procedures = (Some ((record { heading = (u.function ([]) (n (codes "f") 3 20) ((n (codes "n") 3 22) ∷ []) (Some (n (codes "r") 3 32))); body = (record { implicit_none = None; declarations = ((record { type_spec = (s.integer None); attributes = ([]); entities = ((record { name = (n (codes "r") 4 12); dimensions = ([]); coshape = None; initial = None }) ∷ []); at = (p 4 1) }) ∷ (record { type_spec = (s.integer None); attributes = ((s.intent intents.In) ∷ []); entities = ((record { name = (n (codes "n") 5 24); dimensions = ([]); coshape = None; initial = None }) ∷ []); at = (p 5 1) }) ∷ []); statements = (s.more_statements (s.action (s.assignment (f.part_ref (n (codes "r") 6 1) f.no_section_subscripts f.no_image_selector) (f.number 1 kinds.Unstated (p 6 5))) (p 6 1)) (s.more_statements (s.action (s.if_statement (f.binary operators.Greater (f.designator (f.part_ref (n (codes "n") 7 5) f.no_section_subscripts f.no_image_selector)) (f.number 1 kinds.Unstated (p 7 9)) (p 7 5)) (s.assignment (f.part_ref (n (codes "r") 7 12) f.no_section_subscripts f.no_image_selector) (f.binary operators.Multiply (f.designator (f.part_ref (n (codes "n") 7 16) f.no_section_subscripts f.no_image_selector)) (f.designator (f.part_ref (n (codes "f") 7 20) (f.more_section_subscripts (f.subscript (f.binary operators.Subtract (f.designator (f.part_ref (n (codes "n") 7 22) f.no_section_subscripts f.no_image_selector)) (f.number 1 kinds.Unstated (p 7 26)) (p 7 22))) f.no_section_subscripts) f.no_image_selector)) (p 7 16))) (p 7 12)) (p 7 1)) s.no_statements)) }); end = record { name = None; at = (p 8 1) }; at = (p 3 1) }) ∷ [])); end = record { name = None; at = (p 9 1) }; at = (p 1 1) }) ∷ []); main = record { name = None; uses = ((record { nature = natures.Unstated; module_name = (n (codes "a") 10 5); list = (files.all_but ([])); at = (p 10 1) }) ∷ []); body = (record { implicit_none = None; declarations = ([]); statements = (s.more_statements (s.action (s.print s.free ((s.value (f.designator (f.part_ref (n (codes "f") 11 10) (f.more_section_subscripts (f.subscript (f.number 5 kinds.Unstated (p 11 12))) f.no_section_subscripts) f.no_image_selector))) ∷ [])) (p 11 1)) s.no_statements) }); procedures = None; end = record { name = None; at = (p 12 1) } } }) ≡ (record { name = None; uses = ([]); body = (record { implicit_none = None; declarations = ([]); statements = (s.more_statements (s.action (s.print s.free ((s.value (f.designator (f.part_ref (n (codes "a.f") 11 10) (f.more_section_subscripts (f.subscript (f.number 5 kinds.Unstated (p 11 12))) f.no_section_subscripts) f.no_image_selector))) ∷ [])) (p 11 1)) s.no_statements) }); procedures = (Some ((record { heading = (u.function ([]) (n (codes "a.f") 3 20) ((n (codes "n") 3 22) ∷ []) (Some (n (codes "r") 3 32))); body = (record { implicit_none = None; declarations = ((record { type_spec = (s.integer None); attributes = ([]); entities = ((record { name = (n (codes "r") 4 12); dimensions = ([]); coshape = None; initial = None }) ∷ []); at = (p 4 1) }) ∷ (record { type_spec = (s.integer None); attributes = ((s.intent intents.In) ∷ []); entities = ((record { name = (n (codes "n") 5 24); dimensions = ([]); coshape = None; initial = None }) ∷ []); at = (p 5 1) }) ∷ []); statements = (s.more_statements (s.action (s.assignment (f.part_ref (n (codes "r") 6 1) f.no_section_subscripts f.no_image_selector) (f.number 1 kinds.Unstated (p 6 5))) (p 6 1)) (s.more_statements (s.action (s.if_statement (f.binary operators.Greater (f.designator (f.part_ref (n (codes "n") 7 5) f.no_section_subscripts f.no_image_selector)) (f.number 1 kinds.Unstated (p 7 9)) (p 7 5)) (s.assignment (f.part_ref (n (codes "r") 7 12) f.no_section_subscripts f.no_image_selector) (f.binary operators.Multiply (f.designator (f.part_ref (n (codes "n") 7 16) f.no_section_subscripts f.no_image_selector)) (f.designator (f.part_ref (n (codes "a.f") 7 20) (f.more_section_subscripts (f.subscript (f.binary operators.Subtract (f.designator (f.part_ref (n (codes "n") 7 22) f.no_section_subscripts f.no_image_selector)) (f.number 1 kinds.Unstated (p 7 26)) (p 7 22))) f.no_section_subscripts) f.no_image_selector)) (p 7 16))) (p 7 12)) (p 7 1)) s.no_statements)) }); end = record { name = None; at = (p 8 1) }; at = (p 3 1) }) ∷ [])); end = record { name = None; at = (p 12 1) } })
flat_function_with_result_flat = refl

-- module a; integer :: n = 1; contains; subroutine s(); n = n + 1; end subroutine; end module; module b; integer :: n =
-- 10; contains; subroutine s(); n = n + 1; end subroutine; end module; use a, sa => s, na => n; use b, sb => s, nb =>
-- n; call sa(); call sb(); print *, na, nb; end
flat_two_modules_of_like_names : accepted_file (record { modules = ((record { name = (n (codes "a") 1 8); uses = ([]); implicit_none = None; declarations = ((record { type_spec = (s.integer None); attributes = ([]); entities = ((record { name = (n (codes "n") 2 12); dimensions = ([]); coshape = None; initial = (Some (f.number 1 kinds.Unstated (p 2 16))) }) ∷ []); at = (p 2 1) }) ∷ []); procedures = (Some ((record { heading = (u.subroutine recursions.Unstated (n (codes "s") 4 12) (Some ([]))); body = (record { implicit_none = None; declarations = ([]); statements = (s.more_statements (s.action (s.assignment (f.part_ref (n (codes "n") 5 1) f.no_section_subscripts f.no_image_selector) (f.binary operators.Add (f.designator (f.part_ref (n (codes "n") 5 5) f.no_section_subscripts f.no_image_selector)) (f.number 1 kinds.Unstated (p 5 9)) (p 5 5))) (p 5 1)) s.no_statements) }); end = record { name = None; at = (p 6 1) }; at = (p 4 1) }) ∷ [])); end = record { name = None; at = (p 7 1) }; at = (p 1 1) }) ∷ (record { name = (n (codes "b") 8 8); uses = ([]); implicit_none = None; declarations = ((record { type_spec = (s.integer None); attributes = ([]); entities = ((record { name = (n (codes "n") 9 12); dimensions = ([]); coshape = None; initial = (Some (f.number 10 kinds.Unstated (p 9 16))) }) ∷ []); at = (p 9 1) }) ∷ []); procedures = (Some ((record { heading = (u.subroutine recursions.Unstated (n (codes "s") 11 12) (Some ([]))); body = (record { implicit_none = None; declarations = ([]); statements = (s.more_statements (s.action (s.assignment (f.part_ref (n (codes "n") 12 1) f.no_section_subscripts f.no_image_selector) (f.binary operators.Add (f.designator (f.part_ref (n (codes "n") 12 5) f.no_section_subscripts f.no_image_selector)) (f.number 1 kinds.Unstated (p 12 9)) (p 12 5))) (p 12 1)) s.no_statements) }); end = record { name = None; at = (p 13 1) }; at = (p 11 1) }) ∷ [])); end = record { name = None; at = (p 14 1) }; at = (p 8 1) }) ∷ []); main = record { name = None; uses = ((record { nature = natures.Unstated; module_name = (n (codes "a") 15 5); list = (files.all_but ((record { local = (n (codes "sa") 15 8); entity = (n (codes "s") 15 14) }) ∷ (record { local = (n (codes "na") 15 17); entity = (n (codes "n") 15 23) }) ∷ [])); at = (p 15 1) }) ∷ (record { nature = natures.Unstated; module_name = (n (codes "b") 16 5); list = (files.all_but ((record { local = (n (codes "sb") 16 8); entity = (n (codes "s") 16 14) }) ∷ (record { local = (n (codes "nb") 16 17); entity = (n (codes "n") 16 23) }) ∷ [])); at = (p 16 1) }) ∷ []); body = (record { implicit_none = None; declarations = ([]); statements = (s.more_statements (s.action (s.call (n (codes "sa") 17 6) (Some f.no_arguments)) (p 17 1)) (s.more_statements (s.action (s.call (n (codes "sb") 18 6) (Some f.no_arguments)) (p 18 1)) (s.more_statements (s.action (s.print s.free ((s.value (f.designator (f.part_ref (n (codes "na") 19 10) f.no_section_subscripts f.no_image_selector))) ∷ (s.value (f.designator (f.part_ref (n (codes "nb") 19 14) f.no_section_subscripts f.no_image_selector))) ∷ [])) (p 19 1)) s.no_statements))) }); procedures = None; end = record { name = None; at = (p 20 1) } } }) ≡ true
unfolding judged_statements
flat_two_modules_of_like_names = refl

-- module a; integer :: x = 2; end module; module b; use a, y => x; contains; subroutine s(); y = y * 3; end subroutine;
-- end module; module c; use b, z => y; contains; subroutine t(); call s(); z = z + 1; end subroutine; end module; use
-- c; call t(); print *, z; end
flat_chain_of_modules : accepted_file (record { modules = ((record { name = (n (codes "a") 1 8); uses = ([]); implicit_none = None; declarations = ((record { type_spec = (s.integer None); attributes = ([]); entities = ((record { name = (n (codes "x") 2 12); dimensions = ([]); coshape = None; initial = (Some (f.number 2 kinds.Unstated (p 2 16))) }) ∷ []); at = (p 2 1) }) ∷ []); procedures = None; end = record { name = None; at = (p 3 1) }; at = (p 1 1) }) ∷ (record { name = (n (codes "b") 4 8); uses = ((record { nature = natures.Unstated; module_name = (n (codes "a") 5 5); list = (files.all_but ((record { local = (n (codes "y") 5 8); entity = (n (codes "x") 5 13) }) ∷ [])); at = (p 5 1) }) ∷ []); implicit_none = None; declarations = ([]); procedures = (Some ((record { heading = (u.subroutine recursions.Unstated (n (codes "s") 7 12) (Some ([]))); body = (record { implicit_none = None; declarations = ([]); statements = (s.more_statements (s.action (s.assignment (f.part_ref (n (codes "y") 8 1) f.no_section_subscripts f.no_image_selector) (f.binary operators.Multiply (f.designator (f.part_ref (n (codes "y") 8 5) f.no_section_subscripts f.no_image_selector)) (f.number 3 kinds.Unstated (p 8 9)) (p 8 5))) (p 8 1)) s.no_statements) }); end = record { name = None; at = (p 9 1) }; at = (p 7 1) }) ∷ [])); end = record { name = None; at = (p 10 1) }; at = (p 4 1) }) ∷ (record { name = (n (codes "c") 11 8); uses = ((record { nature = natures.Unstated; module_name = (n (codes "b") 12 5); list = (files.all_but ((record { local = (n (codes "z") 12 8); entity = (n (codes "y") 12 13) }) ∷ [])); at = (p 12 1) }) ∷ []); implicit_none = None; declarations = ([]); procedures = (Some ((record { heading = (u.subroutine recursions.Unstated (n (codes "t") 14 12) (Some ([]))); body = (record { implicit_none = None; declarations = ([]); statements = (s.more_statements (s.action (s.call (n (codes "s") 15 6) (Some f.no_arguments)) (p 15 1)) (s.more_statements (s.action (s.assignment (f.part_ref (n (codes "z") 16 1) f.no_section_subscripts f.no_image_selector) (f.binary operators.Add (f.designator (f.part_ref (n (codes "z") 16 5) f.no_section_subscripts f.no_image_selector)) (f.number 1 kinds.Unstated (p 16 9)) (p 16 5))) (p 16 1)) s.no_statements)) }); end = record { name = None; at = (p 17 1) }; at = (p 14 1) }) ∷ [])); end = record { name = None; at = (p 18 1) }; at = (p 11 1) }) ∷ []); main = record { name = None; uses = ((record { nature = natures.Unstated; module_name = (n (codes "c") 19 5); list = (files.all_but ([])); at = (p 19 1) }) ∷ []); body = (record { implicit_none = None; declarations = ([]); statements = (s.more_statements (s.action (s.call (n (codes "t") 20 6) (Some f.no_arguments)) (p 20 1)) (s.more_statements (s.action (s.print s.free ((s.value (f.designator (f.part_ref (n (codes "z") 21 10) f.no_section_subscripts f.no_image_selector))) ∷ [])) (p 21 1)) s.no_statements)) }); procedures = None; end = record { name = None; at = (p 22 1) } } }) ≡ true
unfolding judged_statements
flat_chain_of_modules = refl

flat_chain_of_modules_flat : flat (record { modules = ((record { name = (n (codes "a") 1 8); uses = ([]); implicit_none = None; declarations = ((record { type_spec = (s.integer None); attributes = ([]); entities = ((record { name = (n (codes "x") 2 12); dimensions = ([]); coshape = None; initial = (Some (f.number 2 kinds.Unstated (p 2 16))) }) ∷ []); at = (p 2 1) }) ∷ []); procedures = None; end = record { name = None; at = (p 3 1) }; at = (p 1 1) }) ∷ (record { name = (n (codes "b") 4 8); uses = ((record { nature = natures.Unstated; module_name = (n (codes "a") 5 5); list = (files.all_but ((record { local = (n (codes "y") 5 8); entity = (n (codes "x") 5 13) }) ∷ [])); at = (p 5 1) }) ∷ []); implicit_none = None; declarations = ([]); procedures = (Some ((record { heading = (u.subroutine recursions.Unstated (n (codes "s") 7 12) (Some ([]))); body = (record { implicit_none = None; declarations = ([]); statements = (s.more_statements (s.action (s.assignment (f.part_ref (n (codes "y") 8 1) f.no_section_subscripts f.no_image_selector) (f.binary operators.Multiply (f.designator (f.part_ref (n (codes "y") 8 5) f.no_section_subscripts f.no_image_selector)) (f.number 3 kinds.Unstated (p 8 9)) (p 8 5))) (p 8 1)) s.no_statements) }); end = record { name = None; at = (p 9 1) }; at = (p 7 1) }) ∷ [])); end = record { name = None; at = (p 10 1) }; at = (p 4 1) }) ∷ (record { name = (n (codes "c") 11 8); uses = ((record { nature = natures.Unstated; module_name = (n (codes "b") 12 5); list = (files.all_but ((record { local = (n (codes "z") 12 8); entity = (n (codes "y") 12 13) }) ∷ [])); at = (p 12 1) }) ∷ []); implicit_none = None; declarations = ([]); procedures = (Some ((record { heading = (u.subroutine recursions.Unstated (n (codes "t") 14 12) (Some ([]))); body = (record { implicit_none = None; declarations = ([]); statements = (s.more_statements (s.action (s.call (n (codes "s") 15 6) (Some f.no_arguments)) (p 15 1)) (s.more_statements (s.action (s.assignment (f.part_ref (n (codes "z") 16 1) f.no_section_subscripts f.no_image_selector) (f.binary operators.Add (f.designator (f.part_ref (n (codes "z") 16 5) f.no_section_subscripts f.no_image_selector)) (f.number 1 kinds.Unstated (p 16 9)) (p 16 5))) (p 16 1)) s.no_statements)) }); end = record { name = None; at = (p 17 1) }; at = (p 14 1) }) ∷ [])); end = record { name = None; at = (p 18 1) }; at = (p 11 1) }) ∷ []); main = record { name = None; uses = ((record { nature = natures.Unstated; module_name = (n (codes "c") 19 5); list = (files.all_but ([])); at = (p 19 1) }) ∷ []); body = (record { implicit_none = None; declarations = ([]); statements = (s.more_statements (s.action (s.call (n (codes "t") 20 6) (Some f.no_arguments)) (p 20 1)) (s.more_statements (s.action (s.print s.free ((s.value (f.designator (f.part_ref (n (codes "z") 21 10) f.no_section_subscripts f.no_image_selector))) ∷ [])) (p 21 1)) s.no_statements)) }); procedures = None; end = record { name = None; at = (p 22 1) } } }) ≡ (record { name = None; uses = ([]); body = (record { implicit_none = None; declarations = ((record { type_spec = (s.integer None); attributes = ([]); entities = ((record { name = (n (codes "a.x") 2 12); dimensions = ([]); coshape = None; initial = (Some (f.number 2 kinds.Unstated (p 2 16))) }) ∷ []); at = (p 2 1) }) ∷ []); statements = (s.more_statements (s.action (s.call (n (codes "c.t") 20 6) (Some f.no_arguments)) (p 20 1)) (s.more_statements (s.action (s.print s.free ((s.value (f.designator (f.part_ref (n (codes "a.x") 21 10) f.no_section_subscripts f.no_image_selector))) ∷ [])) (p 21 1)) s.no_statements)) }); procedures = (Some ((record { heading = (u.subroutine recursions.Unstated (n (codes "b.s") 7 12) (Some ([]))); body = (record { implicit_none = None; declarations = ([]); statements = (s.more_statements (s.action (s.assignment (f.part_ref (n (codes "a.x") 8 1) f.no_section_subscripts f.no_image_selector) (f.binary operators.Multiply (f.designator (f.part_ref (n (codes "a.x") 8 5) f.no_section_subscripts f.no_image_selector)) (f.number 3 kinds.Unstated (p 8 9)) (p 8 5))) (p 8 1)) s.no_statements) }); end = record { name = None; at = (p 9 1) }; at = (p 7 1) }) ∷ (record { heading = (u.subroutine recursions.Unstated (n (codes "c.t") 14 12) (Some ([]))); body = (record { implicit_none = None; declarations = ([]); statements = (s.more_statements (s.action (s.call (n (codes "b.s") 15 6) (Some f.no_arguments)) (p 15 1)) (s.more_statements (s.action (s.assignment (f.part_ref (n (codes "a.x") 16 1) f.no_section_subscripts f.no_image_selector) (f.binary operators.Add (f.designator (f.part_ref (n (codes "a.x") 16 5) f.no_section_subscripts f.no_image_selector)) (f.number 1 kinds.Unstated (p 16 9)) (p 16 5))) (p 16 1)) s.no_statements)) }); end = record { name = None; at = (p 17 1) }; at = (p 14 1) }) ∷ [])); end = record { name = None; at = (p 22 1) } })
flat_chain_of_modules_flat = refl

-- module a; use iso_fortran_env, only: wide => int64; integer, parameter :: k = wide; end module; use a, only: k;
-- integer(k) :: x; x = 3000000000_k; print *, x; end
flat_constant_in_a_kind : accepted_file (record { modules = ((record { name = (n (codes "a") 1 8); uses = ((record { nature = natures.Unstated; module_name = (n (codes "iso_fortran_env") 2 5); list = (files.only ((files.renamed (record { local = (n (codes "wide") 2 28); entity = (n (codes "int64") 2 36) })) ∷ [])); at = (p 2 1) }) ∷ []); implicit_none = None; declarations = ((record { type_spec = (s.integer None); attributes = (s.parameter ∷ []); entities = ((record { name = (n (codes "k") 3 23); dimensions = ([]); coshape = None; initial = (Some (f.designator (f.part_ref (n (codes "wide") 3 27) f.no_section_subscripts f.no_image_selector))) }) ∷ []); at = (p 3 1) }) ∷ []); procedures = None; end = record { name = None; at = (p 4 1) }; at = (p 1 1) }) ∷ []); main = record { name = None; uses = ((record { nature = natures.Unstated; module_name = (n (codes "a") 5 5); list = (files.only ((files.named (n (codes "k") 5 14)) ∷ [])); at = (p 5 1) }) ∷ []); body = (record { implicit_none = None; declarations = ((record { type_spec = (s.integer (Some (f.designator (f.part_ref (n (codes "k") 6 9) f.no_section_subscripts f.no_image_selector)))); attributes = ([]); entities = ((record { name = (n (codes "x") 6 15); dimensions = ([]); coshape = None; initial = None }) ∷ []); at = (p 6 1) }) ∷ []); statements = (s.more_statements (s.action (s.assignment (f.part_ref (n (codes "x") 7 1) f.no_section_subscripts f.no_image_selector) (f.number 3000000000 (kinds.Named (codes "k")) (p 7 5))) (p 7 1)) (s.more_statements (s.action (s.print s.free ((s.value (f.designator (f.part_ref (n (codes "x") 8 10) f.no_section_subscripts f.no_image_selector))) ∷ [])) (p 8 1)) s.no_statements)) }); procedures = None; end = record { name = None; at = (p 9 1) } } }) ≡ true
unfolding judged_statements
flat_constant_in_a_kind = refl

-- module a; integer, parameter :: n = 3; integer :: v(n) = [1, 2, 3]; end module; use a; integer :: w(n); w(1) = v(n);
-- print *, w(1), size(w); end
flat_initial_value_and_bounds : accepted_file (record { modules = ((record { name = (n (codes "a") 1 8); uses = ([]); implicit_none = None; declarations = ((record { type_spec = (s.integer None); attributes = (s.parameter ∷ []); entities = ((record { name = (n (codes "n") 2 23); dimensions = ([]); coshape = None; initial = (Some (f.number 3 kinds.Unstated (p 2 27))) }) ∷ []); at = (p 2 1) }) ∷ (record { type_spec = (s.integer None); attributes = ([]); entities = ((record { name = (n (codes "v") 3 12); dimensions = ((s.explicit (record { lower = None; upper = (f.designator (f.part_ref (n (codes "n") 3 14) f.no_section_subscripts f.no_image_selector)) })) ∷ []); coshape = None; initial = (Some (f.array_constructor (f.more_expressions (f.number 1 kinds.Unstated (p 3 20)) (f.more_expressions (f.number 2 kinds.Unstated (p 3 23)) (f.more_expressions (f.number 3 kinds.Unstated (p 3 26)) f.no_expressions))) (p 3 19))) }) ∷ []); at = (p 3 1) }) ∷ []); procedures = None; end = record { name = None; at = (p 4 1) }; at = (p 1 1) }) ∷ []); main = record { name = None; uses = ((record { nature = natures.Unstated; module_name = (n (codes "a") 5 5); list = (files.all_but ([])); at = (p 5 1) }) ∷ []); body = (record { implicit_none = None; declarations = ((record { type_spec = (s.integer None); attributes = ([]); entities = ((record { name = (n (codes "w") 6 12); dimensions = ((s.explicit (record { lower = None; upper = (f.designator (f.part_ref (n (codes "n") 6 14) f.no_section_subscripts f.no_image_selector)) })) ∷ []); coshape = None; initial = None }) ∷ []); at = (p 6 1) }) ∷ []); statements = (s.more_statements (s.action (s.assignment (f.part_ref (n (codes "w") 7 1) (f.more_section_subscripts (f.subscript (f.number 1 kinds.Unstated (p 7 3))) f.no_section_subscripts) f.no_image_selector) (f.designator (f.part_ref (n (codes "v") 7 8) (f.more_section_subscripts (f.subscript (f.designator (f.part_ref (n (codes "n") 7 10) f.no_section_subscripts f.no_image_selector))) f.no_section_subscripts) f.no_image_selector))) (p 7 1)) (s.more_statements (s.action (s.print s.free ((s.value (f.designator (f.part_ref (n (codes "w") 8 10) (f.more_section_subscripts (f.subscript (f.number 1 kinds.Unstated (p 8 12))) f.no_section_subscripts) f.no_image_selector))) ∷ (s.value (f.designator (f.part_ref (n (codes "size") 8 16) (f.more_section_subscripts (f.subscript (f.designator (f.part_ref (n (codes "w") 8 21) f.no_section_subscripts f.no_image_selector))) f.no_section_subscripts) f.no_image_selector))) ∷ [])) (p 8 1)) s.no_statements)) }); procedures = None; end = record { name = None; at = (p 9 1) } } }) ≡ true
unfolding judged_statements
flat_initial_value_and_bounds = refl

-- module a; integer :: i; integer, allocatable :: v(:); end module; use a; allocate (v(3)); do i = 1, 3; v(i) = i * i;
-- end do; print *, v; deallocate (v); end
flat_do_variable_and_allocatable : accepted_file (record { modules = ((record { name = (n (codes "a") 1 8); uses = ([]); implicit_none = None; declarations = ((record { type_spec = (s.integer None); attributes = ([]); entities = ((record { name = (n (codes "i") 2 12); dimensions = ([]); coshape = None; initial = None }) ∷ []); at = (p 2 1) }) ∷ (record { type_spec = (s.integer None); attributes = (s.allocatable ∷ []); entities = ((record { name = (n (codes "v") 3 25); dimensions = ((s.deferred (p 3 27)) ∷ []); coshape = None; initial = None }) ∷ []); at = (p 3 1) }) ∷ []); procedures = None; end = record { name = None; at = (p 4 1) }; at = (p 1 1) }) ∷ []); main = record { name = None; uses = ((record { nature = natures.Unstated; module_name = (n (codes "a") 5 5); list = (files.all_but ([])); at = (p 5 1) }) ∷ []); body = (record { implicit_none = None; declarations = ([]); statements = (s.more_statements (s.action (s.allocate ((record { name = (n (codes "v") 6 11); bounds = ((s.explicit (record { lower = None; upper = (f.number 3 kinds.Unstated (p 6 13)) })) ∷ []); cobounds = None }) ∷ []) f.no_specifiers) (p 6 1)) (s.more_statements (s.do_construct None (s.counted (n (codes "i") 7 4) (f.number 1 kinds.Unstated (p 7 8)) (f.number 3 kinds.Unstated (p 7 11)) None) (s.more_statements (s.action (s.assignment (f.part_ref (n (codes "v") 8 1) (f.more_section_subscripts (f.subscript (f.designator (f.part_ref (n (codes "i") 8 3) f.no_section_subscripts f.no_image_selector))) f.no_section_subscripts) f.no_image_selector) (f.binary operators.Multiply (f.designator (f.part_ref (n (codes "i") 8 8) f.no_section_subscripts f.no_image_selector)) (f.designator (f.part_ref (n (codes "i") 8 12) f.no_section_subscripts f.no_image_selector)) (p 8 8))) (p 8 1)) s.no_statements) (p 7 1) (record { name = None; at = (p 9 1) })) (s.more_statements (s.action (s.print s.free ((s.value (f.designator (f.part_ref (n (codes "v") 10 10) f.no_section_subscripts f.no_image_selector))) ∷ [])) (p 10 1)) (s.more_statements (s.action (s.deallocate ((n (codes "v") 11 13) ∷ []) f.no_specifiers) (p 11 1)) s.no_statements)))) }); procedures = None; end = record { name = None; at = (p 12 1) } } }) ≡ true
unfolding judged_statements
flat_do_variable_and_allocatable = refl

-- module a; contains; integer function twice(n); integer, intent(in) :: n; twice = 2 * n; end function; end module; use
-- a, abs => twice; print *, abs(-4); end
flat_new_name_of_an_intrinsic : accepted_file (record { modules = ((record { name = (n (codes "a") 1 8); uses = ([]); implicit_none = None; declarations = ([]); procedures = (Some ((record { heading = (u.function ((u.result_type (s.integer None)) ∷ []) (n (codes "twice") 3 18) ((n (codes "n") 3 24) ∷ []) None); body = (record { implicit_none = None; declarations = ((record { type_spec = (s.integer None); attributes = ((s.intent intents.In) ∷ []); entities = ((record { name = (n (codes "n") 4 24); dimensions = ([]); coshape = None; initial = None }) ∷ []); at = (p 4 1) }) ∷ []); statements = (s.more_statements (s.action (s.assignment (f.part_ref (n (codes "twice") 5 1) f.no_section_subscripts f.no_image_selector) (f.binary operators.Multiply (f.number 2 kinds.Unstated (p 5 9)) (f.designator (f.part_ref (n (codes "n") 5 13) f.no_section_subscripts f.no_image_selector)) (p 5 9))) (p 5 1)) s.no_statements) }); end = record { name = None; at = (p 6 1) }; at = (p 3 1) }) ∷ [])); end = record { name = None; at = (p 7 1) }; at = (p 1 1) }) ∷ []); main = record { name = None; uses = ((record { nature = natures.Unstated; module_name = (n (codes "a") 8 5); list = (files.all_but ((record { local = (n (codes "abs") 8 8); entity = (n (codes "twice") 8 15) }) ∷ [])); at = (p 8 1) }) ∷ []); body = (record { implicit_none = None; declarations = ([]); statements = (s.more_statements (s.action (s.print s.free ((s.value (f.designator (f.part_ref (n (codes "abs") 9 10) (f.more_section_subscripts (f.subscript (f.prefix prefixes.Minus (f.number 4 kinds.Unstated (p 9 15)) (p 9 14))) f.no_section_subscripts) f.no_image_selector))) ∷ [])) (p 9 1)) s.no_statements) }); procedures = None; end = record { name = None; at = (p 10 1) } } }) ≡ true
unfolding judged_statements
flat_new_name_of_an_intrinsic = refl

-- module a; integer :: x; integer :: x; end module; end
flat_21_in_a_module : answers_file (record { modules = ((record { name = (n (codes "a") 1 8); uses = ([]); implicit_none = None; declarations = ((record { type_spec = (s.integer None); attributes = ([]); entities = ((record { name = (n (codes "x") 2 12); dimensions = ([]); coshape = None; initial = None }) ∷ []); at = (p 2 1) }) ∷ (record { type_spec = (s.integer None); attributes = ([]); entities = ((record { name = (n (codes "x") 3 12); dimensions = ([]); coshape = None; initial = None }) ∷ []); at = (p 3 1) }) ∷ []); procedures = None; end = record { name = None; at = (p 4 1) }; at = (p 1 1) }) ∷ []); main = record { name = None; uses = ([]); body = (record { implicit_none = None; declarations = ([]); statements = s.no_statements }); procedures = None; end = record { name = None; at = (p 5 1) } } }) 21 3 12 ≡ true
unfolding judged_statements
flat_21_in_a_module = refl

-- module a; contains; integer function f(f); integer :: f; end function; end module; end
flat_21_dummy_and_function : answers_file (record { modules = ((record { name = (n (codes "a") 1 8); uses = ([]); implicit_none = None; declarations = ([]); procedures = (Some ((record { heading = (u.function ((u.result_type (s.integer None)) ∷ []) (n (codes "f") 3 18) ((n (codes "f") 3 20) ∷ []) None); body = (record { implicit_none = None; declarations = ((record { type_spec = (s.integer None); attributes = ([]); entities = ((record { name = (n (codes "f") 4 12); dimensions = ([]); coshape = None; initial = None }) ∷ []); at = (p 4 1) }) ∷ []); statements = s.no_statements }); end = record { name = None; at = (p 5 1) }; at = (p 3 1) }) ∷ [])); end = record { name = None; at = (p 6 1) }; at = (p 1 1) }) ∷ []); main = record { name = None; uses = ([]); body = (record { implicit_none = None; declarations = ([]); statements = s.no_statements }); procedures = None; end = record { name = None; at = (p 7 1) } } }) 21 3 20 ≡ true
unfolding judged_statements
flat_21_dummy_and_function = refl

-- module a; contains; subroutine s(); integer :: x = 1; end subroutine; end module; end
flat_28_in_a_procedure_of_a_module : answers_file (record { modules = ((record { name = (n (codes "a") 1 8); uses = ([]); implicit_none = None; declarations = ([]); procedures = (Some ((record { heading = (u.subroutine recursions.Unstated (n (codes "s") 3 12) (Some ([]))); body = (record { implicit_none = None; declarations = ((record { type_spec = (s.integer None); attributes = ([]); entities = ((record { name = (n (codes "x") 4 12); dimensions = ([]); coshape = None; initial = (Some (f.number 1 kinds.Unstated (p 4 16))) }) ∷ []); at = (p 4 1) }) ∷ []); statements = s.no_statements }); end = record { name = None; at = (p 5 1) }; at = (p 3 1) }) ∷ [])); end = record { name = None; at = (p 6 1) }; at = (p 1 1) }) ∷ []); main = record { name = None; uses = ([]); body = (record { implicit_none = None; declarations = ([]); statements = s.no_statements }); procedures = None; end = record { name = None; at = (p 7 1) } } }) 28 4 16 ≡ true
unfolding judged_statements
flat_28_in_a_procedure_of_a_module = refl

-- module a; integer :: x(40000); end module; module b; integer :: y(40000); end module; end
flat_30_of_modules_together : answers_file (record { modules = ((record { name = (n (codes "a") 1 8); uses = ([]); implicit_none = None; declarations = ((record { type_spec = (s.integer None); attributes = ([]); entities = ((record { name = (n (codes "x") 2 12); dimensions = ((s.explicit (record { lower = None; upper = (f.number 40000 kinds.Unstated (p 2 14)) })) ∷ []); coshape = None; initial = None }) ∷ []); at = (p 2 1) }) ∷ []); procedures = None; end = record { name = None; at = (p 3 1) }; at = (p 1 1) }) ∷ (record { name = (n (codes "b") 4 8); uses = ([]); implicit_none = None; declarations = ((record { type_spec = (s.integer None); attributes = ([]); entities = ((record { name = (n (codes "y") 5 12); dimensions = ((s.explicit (record { lower = None; upper = (f.number 40000 kinds.Unstated (p 5 14)) })) ∷ []); coshape = None; initial = None }) ∷ []); at = (p 5 1) }) ∷ []); procedures = None; end = record { name = None; at = (p 6 1) }; at = (p 4 1) }) ∷ []); main = record { name = None; uses = ([]); body = (record { implicit_none = None; declarations = ([]); statements = s.no_statements }); procedures = None; end = record { name = None; at = (p 7 1) } } }) 30 5 12 ≡ true
unfolding judged_statements
flat_30_of_modules_together = refl

-- module a; integer :: x; contains; subroutine s(); x = .true.; end subroutine; end module; end
flat_32_in_a_module : answers_file (record { modules = ((record { name = (n (codes "a") 1 8); uses = ([]); implicit_none = None; declarations = ((record { type_spec = (s.integer None); attributes = ([]); entities = ((record { name = (n (codes "x") 2 12); dimensions = ([]); coshape = None; initial = None }) ∷ []); at = (p 2 1) }) ∷ []); procedures = (Some ((record { heading = (u.subroutine recursions.Unstated (n (codes "s") 4 12) (Some ([]))); body = (record { implicit_none = None; declarations = ([]); statements = (s.more_statements (s.action (s.assignment (f.part_ref (n (codes "x") 5 1) f.no_section_subscripts f.no_image_selector) (f.logical true (p 5 5))) (p 5 1)) s.no_statements) }); end = record { name = None; at = (p 6 1) }; at = (p 4 1) }) ∷ [])); end = record { name = None; at = (p 7 1) }; at = (p 1 1) }) ∷ []); main = record { name = None; uses = ([]); body = (record { implicit_none = None; declarations = ([]); statements = s.no_statements }); procedures = None; end = record { name = None; at = (p 8 1) } } }) 32 5 1 ≡ true
unfolding judged_statements
flat_32_in_a_module = refl

-- module a; contains; subroutine s(k); integer :: k; end subroutine; end module; use a; call s(k=1); end
flat_45_keyword_of_a_module_procedure : answers_file (record { modules = ((record { name = (n (codes "a") 1 8); uses = ([]); implicit_none = None; declarations = ([]); procedures = (Some ((record { heading = (u.subroutine recursions.Unstated (n (codes "s") 3 12) (Some ((n (codes "k") 3 14) ∷ []))); body = (record { implicit_none = None; declarations = ((record { type_spec = (s.integer None); attributes = ([]); entities = ((record { name = (n (codes "k") 4 12); dimensions = ([]); coshape = None; initial = None }) ∷ []); at = (p 4 1) }) ∷ []); statements = s.no_statements }); end = record { name = None; at = (p 5 1) }; at = (p 3 1) }) ∷ [])); end = record { name = None; at = (p 6 1) }; at = (p 1 1) }) ∷ []); main = record { name = None; uses = ((record { nature = natures.Unstated; module_name = (n (codes "a") 7 5); list = (files.all_but ([])); at = (p 7 1) }) ∷ []); body = (record { implicit_none = None; declarations = ([]); statements = (s.more_statements (s.action (s.call (n (codes "s") 8 6) (Some (f.more_arguments (Some (n (codes "k") 8 8)) (f.number 1 kinds.Unstated (p 8 10)) f.no_arguments))) (p 8 1)) s.no_statements) }); procedures = None; end = record { name = None; at = (p 9 1) } } }) 45 8 8 ≡ true
unfolding judged_statements
flat_45_keyword_of_a_module_procedure = refl

-- module a; integer :: x; end module; use a; call x(); end
flat_47_unit_and_variable : answers_file (record { modules = ((record { name = (n (codes "a") 1 8); uses = ([]); implicit_none = None; declarations = ((record { type_spec = (s.integer None); attributes = ([]); entities = ((record { name = (n (codes "x") 2 12); dimensions = ([]); coshape = None; initial = None }) ∷ []); at = (p 2 1) }) ∷ []); procedures = None; end = record { name = None; at = (p 3 1) }; at = (p 1 1) }) ∷ []); main = record { name = None; uses = ((record { nature = natures.Unstated; module_name = (n (codes "a") 4 5); list = (files.all_but ([])); at = (p 4 1) }) ∷ []); body = (record { implicit_none = None; declarations = ([]); statements = (s.more_statements (s.action (s.call (n (codes "x") 5 6) (Some f.no_arguments)) (p 5 1)) s.no_statements) }); procedures = None; end = record { name = None; at = (p 6 1) } } }) 47 5 6 ≡ true
unfolding judged_statements
flat_47_unit_and_variable = refl

-- use iso_fortran_env, only: wide => int64; integer(wide) :: x; x = 5_wide; print *, x; end
no_module_renamed : accepted_file (record { modules = ([]); main = record { name = None; uses = ((record { nature = natures.Unstated; module_name = (n (codes "iso_fortran_env") 1 5); list = (files.only ((files.renamed (record { local = (n (codes "wide") 1 28); entity = (n (codes "int64") 1 36) })) ∷ [])); at = (p 1 1) }) ∷ []); body = (record { implicit_none = None; declarations = ((record { type_spec = (s.integer (Some (f.designator (f.part_ref (n (codes "wide") 2 9) f.no_section_subscripts f.no_image_selector)))); attributes = ([]); entities = ((record { name = (n (codes "x") 2 18); dimensions = ([]); coshape = None; initial = None }) ∷ []); at = (p 2 1) }) ∷ []); statements = (s.more_statements (s.action (s.assignment (f.part_ref (n (codes "x") 3 1) f.no_section_subscripts f.no_image_selector) (f.number 5 (kinds.Named (codes "wide")) (p 3 5))) (p 3 1)) (s.more_statements (s.action (s.print s.free ((s.value (f.designator (f.part_ref (n (codes "x") 4 10) f.no_section_subscripts f.no_image_selector))) ∷ [])) (p 4 1)) s.no_statements)) }); procedures = None; end = record { name = None; at = (p 5 1) } } }) ≡ true
unfolding judged_statements
no_module_renamed = refl

no_module_renamed_flat : flat (record { modules = ([]); main = record { name = None; uses = ((record { nature = natures.Unstated; module_name = (n (codes "iso_fortran_env") 1 5); list = (files.only ((files.renamed (record { local = (n (codes "wide") 1 28); entity = (n (codes "int64") 1 36) })) ∷ [])); at = (p 1 1) }) ∷ []); body = (record { implicit_none = None; declarations = ((record { type_spec = (s.integer (Some (f.designator (f.part_ref (n (codes "wide") 2 9) f.no_section_subscripts f.no_image_selector)))); attributes = ([]); entities = ((record { name = (n (codes "x") 2 18); dimensions = ([]); coshape = None; initial = None }) ∷ []); at = (p 2 1) }) ∷ []); statements = (s.more_statements (s.action (s.assignment (f.part_ref (n (codes "x") 3 1) f.no_section_subscripts f.no_image_selector) (f.number 5 (kinds.Named (codes "wide")) (p 3 5))) (p 3 1)) (s.more_statements (s.action (s.print s.free ((s.value (f.designator (f.part_ref (n (codes "x") 4 10) f.no_section_subscripts f.no_image_selector))) ∷ [])) (p 4 1)) s.no_statements)) }); procedures = None; end = record { name = None; at = (p 5 1) } } }) ≡ (record { name = None; uses = ((record { nature = natures.Unstated; module_name = (n (codes "iso_fortran_env") 1 5); only = None; at = (p 1 1) }) ∷ []); body = (record { implicit_none = None; declarations = ((record { type_spec = (s.integer (Some (f.designator (f.part_ref (n (codes "int64") 2 9) f.no_section_subscripts f.no_image_selector)))); attributes = ([]); entities = ((record { name = (n (codes "x") 2 18); dimensions = ([]); coshape = None; initial = None }) ∷ []); at = (p 2 1) }) ∷ []); statements = (s.more_statements (s.action (s.assignment (f.part_ref (n (codes "x") 3 1) f.no_section_subscripts f.no_image_selector) (f.number 5 (kinds.Named (codes "int64")) (p 3 5))) (p 3 1)) (s.more_statements (s.action (s.print s.free ((s.value (f.designator (f.part_ref (n (codes "x") 4 10) f.no_section_subscripts f.no_image_selector))) ∷ [])) (p 4 1)) s.no_statements)) }); procedures = None; end = record { name = None; at = (p 5 1) } })
no_module_renamed_flat = refl
