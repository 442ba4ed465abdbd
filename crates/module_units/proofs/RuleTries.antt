-- Files with their answers, worked out by another reading of the rules.
use Rattle.std.proofs.Common.{◌≡◌, true, [], ◌∷◌, refl, codes, Some, None}
use Rattle.fortran_tree.specs.declared.expr.NumberKind.TheVariants as kinds
use Rattle.fortran_tree.specs.declared.expr.Operator.TheVariants as operators
use Rattle.fortran_tree.specs.declared.expr.PrefixOperator.TheVariants as prefixes
use Rattle.fortran_tree.specs.declared.declaration.Intent.TheVariants as intents
use Rattle.fortran_tree.specs.declared.unit.ModuleNature.TheVariants as natures
use Rattle.fortran_tree.specs.declared.unit.Recursion.TheVariants as recursions
use Rattle.fortran_tree.specs.Expressions as f
use Rattle.fortran_tree.specs.Statements as s
use Rattle.fortran_tree.specs.Units as u
use Rattle.unit_tree.specs.Files as files
use Rattle.module_units.proofs.Trees.{p, n, breaks_first, accepted_file, answers_file}
use Rattle.rule_definitions.specs.Statements.{judged_statements}

-- module a; integer :: n = 1; end module; module b; integer :: n = 2; end module; use a; use b; print *, n; end
row_b : breaks_first (record { modules = ((record { name = (n (codes "a") 1 8); uses = ([]); implicit_none = None; declarations = ((record { type_spec = (s.integer None); attributes = ([]); entities = ((record { name = (n (codes "n") 2 12); dimensions = ([]); coshape = None; initial = (Some (f.number 1 kinds.Unstated (p 2 16))) }) ∷ []); at = (p 2 1) }) ∷ []); procedures = None; end = record { name = None; at = (p 3 1) }; at = (p 1 1) }) ∷ (record { name = (n (codes "b") 4 8); uses = ([]); implicit_none = None; declarations = ((record { type_spec = (s.integer None); attributes = ([]); entities = ((record { name = (n (codes "n") 5 12); dimensions = ([]); coshape = None; initial = (Some (f.number 2 kinds.Unstated (p 5 16))) }) ∷ []); at = (p 5 1) }) ∷ []); procedures = None; end = record { name = None; at = (p 6 1) }; at = (p 4 1) }) ∷ []); main = record { name = None; uses = ((record { nature = natures.Unstated; module_name = (n (codes "a") 7 5); list = (files.all_but ([])); at = (p 7 1) }) ∷ (record { nature = natures.Unstated; module_name = (n (codes "b") 8 5); list = (files.all_but ([])); at = (p 8 1) }) ∷ []); body = (record { implicit_none = None; declarations = ([]); statements = (s.more_statements (s.action (s.print s.free ((s.value (f.designator (f.part_ref (n (codes "n") 9 10) f.no_section_subscripts f.no_image_selector))) ∷ [])) (p 9 1)) s.no_statements) }); procedures = None; end = record { name = None; at = (p 10 1) } } }) 60 9 10 ≡ true
row_b = refl

-- module a; integer :: n = 1; end module; module b; integer :: n = 2; end module; use a; use b, only: m => n; print *,
-- n, m; end
row_b_second : accepted_file (record { modules = ((record { name = (n (codes "a") 1 8); uses = ([]); implicit_none = None; declarations = ((record { type_spec = (s.integer None); attributes = ([]); entities = ((record { name = (n (codes "n") 2 12); dimensions = ([]); coshape = None; initial = (Some (f.number 1 kinds.Unstated (p 2 16))) }) ∷ []); at = (p 2 1) }) ∷ []); procedures = None; end = record { name = None; at = (p 3 1) }; at = (p 1 1) }) ∷ (record { name = (n (codes "b") 4 8); uses = ([]); implicit_none = None; declarations = ((record { type_spec = (s.integer None); attributes = ([]); entities = ((record { name = (n (codes "n") 5 12); dimensions = ([]); coshape = None; initial = (Some (f.number 2 kinds.Unstated (p 5 16))) }) ∷ []); at = (p 5 1) }) ∷ []); procedures = None; end = record { name = None; at = (p 6 1) }; at = (p 4 1) }) ∷ []); main = record { name = None; uses = ((record { nature = natures.Unstated; module_name = (n (codes "a") 7 5); list = (files.all_but ([])); at = (p 7 1) }) ∷ (record { nature = natures.Unstated; module_name = (n (codes "b") 8 5); list = (files.only ((files.renamed (record { local = (n (codes "m") 8 14); entity = (n (codes "n") 8 19) })) ∷ [])); at = (p 8 1) }) ∷ []); body = (record { implicit_none = None; declarations = ([]); statements = (s.more_statements (s.action (s.print s.free ((s.value (f.designator (f.part_ref (n (codes "n") 9 10) f.no_section_subscripts f.no_image_selector))) ∷ (s.value (f.designator (f.part_ref (n (codes "m") 9 13) f.no_section_subscripts f.no_image_selector))) ∷ [])) (p 9 1)) s.no_statements) }); procedures = None; end = record { name = None; at = (p 10 1) } } }) ≡ true
unfolding judged_statements
row_b_second = refl

-- use c; end
row_c : breaks_first (record { modules = ([]); main = record { name = None; uses = ((record { nature = natures.Unstated; module_name = (n (codes "c") 1 5); list = (files.all_but ([])); at = (p 1 1) }) ∷ []); body = (record { implicit_none = None; declarations = ([]); statements = s.no_statements }); procedures = None; end = record { name = None; at = (p 2 1) } } }) 20 1 5 ≡ true
row_c = refl

-- module a; use b; end module; module b; end module; end
file_20_later_module : breaks_first (record { modules = ((record { name = (n (codes "a") 1 8); uses = ((record { nature = natures.Unstated; module_name = (n (codes "b") 2 5); list = (files.all_but ([])); at = (p 2 1) }) ∷ []); implicit_none = None; declarations = ([]); procedures = None; end = record { name = None; at = (p 3 1) }; at = (p 1 1) }) ∷ (record { name = (n (codes "b") 4 8); uses = ([]); implicit_none = None; declarations = ([]); procedures = None; end = record { name = None; at = (p 5 1) }; at = (p 4 1) }) ∷ []); main = record { name = None; uses = ([]); body = (record { implicit_none = None; declarations = ([]); statements = s.no_statements }); procedures = None; end = record { name = None; at = (p 6 1) } } }) 20 2 5 ≡ true
file_20_later_module = refl

-- module a; use a; end module; end
file_20_itself : breaks_first (record { modules = ((record { name = (n (codes "a") 1 8); uses = ((record { nature = natures.Unstated; module_name = (n (codes "a") 2 5); list = (files.all_but ([])); at = (p 2 1) }) ∷ []); implicit_none = None; declarations = ([]); procedures = None; end = record { name = None; at = (p 3 1) }; at = (p 1 1) }) ∷ []); main = record { name = None; uses = ([]); body = (record { implicit_none = None; declarations = ([]); statements = s.no_statements }); procedures = None; end = record { name = None; at = (p 4 1) } } }) 20 2 5 ≡ true
file_20_itself = refl

-- module a; integer :: x; end module; use a, only: x, y; end
file_20_only : breaks_first (record { modules = ((record { name = (n (codes "a") 1 8); uses = ([]); implicit_none = None; declarations = ((record { type_spec = (s.integer None); attributes = ([]); entities = ((record { name = (n (codes "x") 2 12); dimensions = ([]); coshape = None; initial = None }) ∷ []); at = (p 2 1) }) ∷ []); procedures = None; end = record { name = None; at = (p 3 1) }; at = (p 1 1) }) ∷ []); main = record { name = None; uses = ((record { nature = natures.Unstated; module_name = (n (codes "a") 4 5); list = (files.only ((files.named (n (codes "x") 4 14)) ∷ (files.named (n (codes "y") 4 17)) ∷ [])); at = (p 4 1) }) ∷ []); body = (record { implicit_none = None; declarations = ([]); statements = s.no_statements }); procedures = None; end = record { name = None; at = (p 5 1) } } }) 20 4 17 ≡ true
file_20_only = refl

-- module a; integer :: x; end module; use a, only: x => y; end
file_20_only_renamed : breaks_first (record { modules = ((record { name = (n (codes "a") 1 8); uses = ([]); implicit_none = None; declarations = ((record { type_spec = (s.integer None); attributes = ([]); entities = ((record { name = (n (codes "x") 2 12); dimensions = ([]); coshape = None; initial = None }) ∷ []); at = (p 2 1) }) ∷ []); procedures = None; end = record { name = None; at = (p 3 1) }; at = (p 1 1) }) ∷ []); main = record { name = None; uses = ((record { nature = natures.Unstated; module_name = (n (codes "a") 4 5); list = (files.only ((files.renamed (record { local = (n (codes "x") 4 14); entity = (n (codes "y") 4 19) })) ∷ [])); at = (p 4 1) }) ∷ []); body = (record { implicit_none = None; declarations = ([]); statements = s.no_statements }); procedures = None; end = record { name = None; at = (p 5 1) } } }) 20 4 19 ≡ true
file_20_only_renamed = refl

-- module a; integer :: x; end module; use a, x => y; end
file_20_rename : breaks_first (record { modules = ((record { name = (n (codes "a") 1 8); uses = ([]); implicit_none = None; declarations = ((record { type_spec = (s.integer None); attributes = ([]); entities = ((record { name = (n (codes "x") 2 12); dimensions = ([]); coshape = None; initial = None }) ∷ []); at = (p 2 1) }) ∷ []); procedures = None; end = record { name = None; at = (p 3 1) }; at = (p 1 1) }) ∷ []); main = record { name = None; uses = ((record { nature = natures.Unstated; module_name = (n (codes "a") 4 5); list = (files.all_but ((record { local = (n (codes "x") 4 8); entity = (n (codes "y") 4 13) }) ∷ [])); at = (p 4 1) }) ∷ []); body = (record { implicit_none = None; declarations = ([]); statements = s.no_statements }); procedures = None; end = record { name = None; at = (p 5 1) } } }) 20 4 13 ≡ true
file_20_rename = refl

-- module a; integer :: x; end module; use a, y => x; y = 1; x = 2; end
file_20_old_name_of_a_rename : breaks_first (record { modules = ((record { name = (n (codes "a") 1 8); uses = ([]); implicit_none = None; declarations = ((record { type_spec = (s.integer None); attributes = ([]); entities = ((record { name = (n (codes "x") 2 12); dimensions = ([]); coshape = None; initial = None }) ∷ []); at = (p 2 1) }) ∷ []); procedures = None; end = record { name = None; at = (p 3 1) }; at = (p 1 1) }) ∷ []); main = record { name = None; uses = ((record { nature = natures.Unstated; module_name = (n (codes "a") 4 5); list = (files.all_but ((record { local = (n (codes "y") 4 8); entity = (n (codes "x") 4 13) }) ∷ [])); at = (p 4 1) }) ∷ []); body = (record { implicit_none = None; declarations = ([]); statements = (s.more_statements (s.action (s.assignment (f.part_ref (n (codes "y") 5 1) f.no_section_subscripts f.no_image_selector) (f.number 1 kinds.Unstated (p 5 5))) (p 5 1)) (s.more_statements (s.action (s.assignment (f.part_ref (n (codes "x") 6 1) f.no_section_subscripts f.no_image_selector) (f.number 2 kinds.Unstated (p 6 5))) (p 6 1)) s.no_statements)) }); procedures = None; end = record { name = None; at = (p 7 1) } } }) 20 6 1 ≡ true
file_20_old_name_of_a_rename = refl

-- module a; integer :: x, y; end module; use a, only: x; x = y; end
file_20_name_not_listed : breaks_first (record { modules = ((record { name = (n (codes "a") 1 8); uses = ([]); implicit_none = None; declarations = ((record { type_spec = (s.integer None); attributes = ([]); entities = ((record { name = (n (codes "x") 2 12); dimensions = ([]); coshape = None; initial = None }) ∷ (record { name = (n (codes "y") 2 15); dimensions = ([]); coshape = None; initial = None }) ∷ []); at = (p 2 1) }) ∷ []); procedures = None; end = record { name = None; at = (p 3 1) }; at = (p 1 1) }) ∷ []); main = record { name = None; uses = ((record { nature = natures.Unstated; module_name = (n (codes "a") 4 5); list = (files.only ((files.named (n (codes "x") 4 14)) ∷ [])); at = (p 4 1) }) ∷ []); body = (record { implicit_none = None; declarations = ([]); statements = (s.more_statements (s.action (s.assignment (f.part_ref (n (codes "x") 5 1) f.no_section_subscripts f.no_image_selector) (f.designator (f.part_ref (n (codes "y") 5 5) f.no_section_subscripts f.no_image_selector))) (p 5 1)) s.no_statements) }); procedures = None; end = record { name = None; at = (p 6 1) } } }) 20 5 5 ≡ true
file_20_name_not_listed = refl

-- use iso_fortran_env, only: i => real64; end
file_20_unknown_name_of_the_environment : breaks_first (record { modules = ([]); main = record { name = None; uses = ((record { nature = natures.Unstated; module_name = (n (codes "iso_fortran_env") 1 5); list = (files.only ((files.renamed (record { local = (n (codes "i") 1 28); entity = (n (codes "real64") 1 33) })) ∷ [])); at = (p 1 1) }) ∷ []); body = (record { implicit_none = None; declarations = ([]); statements = s.no_statements }); procedures = None; end = record { name = None; at = (p 2 1) } } }) 20 1 33 ≡ true
file_20_unknown_name_of_the_environment = refl

-- module a; use iso_fortran_env; end module; integer(int64) :: x; end
file_20_environment_not_used_here : breaks_first (record { modules = ((record { name = (n (codes "a") 1 8); uses = ((record { nature = natures.Unstated; module_name = (n (codes "iso_fortran_env") 2 5); list = (files.all_but ([])); at = (p 2 1) }) ∷ []); implicit_none = None; declarations = ([]); procedures = None; end = record { name = None; at = (p 3 1) }; at = (p 1 1) }) ∷ []); main = record { name = None; uses = ([]); body = (record { implicit_none = None; declarations = ((record { type_spec = (s.integer (Some (f.designator (f.part_ref (n (codes "int64") 4 9) f.no_section_subscripts f.no_image_selector)))); attributes = ([]); entities = ((record { name = (n (codes "x") 4 19); dimensions = ([]); coshape = None; initial = None }) ∷ []); at = (p 4 1) }) ∷ []); statements = s.no_statements }); procedures = None; end = record { name = None; at = (p 5 1) } } }) 20 4 9 ≡ true
file_20_environment_not_used_here = refl

-- module a; use iso_fortran_env; end module; use a; integer(int64) :: x; x = 2_int64 ** 40; print *, x; end
file_20_environment_through_a_module : accepted_file (record { modules = ((record { name = (n (codes "a") 1 8); uses = ((record { nature = natures.Unstated; module_name = (n (codes "iso_fortran_env") 2 5); list = (files.all_but ([])); at = (p 2 1) }) ∷ []); implicit_none = None; declarations = ([]); procedures = None; end = record { name = None; at = (p 3 1) }; at = (p 1 1) }) ∷ []); main = record { name = None; uses = ((record { nature = natures.Unstated; module_name = (n (codes "a") 4 5); list = (files.all_but ([])); at = (p 4 1) }) ∷ []); body = (record { implicit_none = None; declarations = ((record { type_spec = (s.integer (Some (f.designator (f.part_ref (n (codes "int64") 5 9) f.no_section_subscripts f.no_image_selector)))); attributes = ([]); entities = ((record { name = (n (codes "x") 5 19); dimensions = ([]); coshape = None; initial = None }) ∷ []); at = (p 5 1) }) ∷ []); statements = (s.more_statements (s.action (s.assignment (f.part_ref (n (codes "x") 6 1) f.no_section_subscripts f.no_image_selector) (f.binary operators.Power (f.number 2 (kinds.Named (codes "int64")) (p 6 5)) (f.number 40 kinds.Unstated (p 6 16)) (p 6 5))) (p 6 1)) (s.more_statements (s.action (s.print s.free ((s.value (f.designator (f.part_ref (n (codes "x") 7 10) f.no_section_subscripts f.no_image_selector))) ∷ [])) (p 7 1)) s.no_statements)) }); procedures = None; end = record { name = None; at = (p 8 1) } } }) ≡ true
unfolding judged_statements
file_20_environment_through_a_module = refl

-- module a; contains; subroutine s(); x = 1; end subroutine; end module; integer :: x; end
file_20_name_of_the_main_program_in_a_module : breaks_first (record { modules = ((record { name = (n (codes "a") 1 8); uses = ([]); implicit_none = None; declarations = ([]); procedures = (Some ((record { heading = (u.subroutine recursions.Unstated (n (codes "s") 3 12) (Some ([]))); body = (record { implicit_none = None; declarations = ([]); statements = (s.more_statements (s.action (s.assignment (f.part_ref (n (codes "x") 4 1) f.no_section_subscripts f.no_image_selector) (f.number 1 kinds.Unstated (p 4 5))) (p 4 1)) s.no_statements) }); end = record { name = None; at = (p 5 1) }; at = (p 3 1) }) ∷ [])); end = record { name = None; at = (p 6 1) }; at = (p 1 1) }) ∷ []); main = record { name = None; uses = ([]); body = (record { implicit_none = None; declarations = ((record { type_spec = (s.integer None); attributes = ([]); entities = ((record { name = (n (codes "x") 7 12); dimensions = ([]); coshape = None; initial = None }) ∷ []); at = (p 7 1) }) ∷ []); statements = s.no_statements }); procedures = None; end = record { name = None; at = (p 8 1) } } }) 20 4 1 ≡ true
file_20_name_of_the_main_program_in_a_module = refl

-- module a; integer :: x; end module; module b; contains; subroutine s(); x = 1; end subroutine; end module; end
file_20_name_of_another_module : breaks_first (record { modules = ((record { name = (n (codes "a") 1 8); uses = ([]); implicit_none = None; declarations = ((record { type_spec = (s.integer None); attributes = ([]); entities = ((record { name = (n (codes "x") 2 12); dimensions = ([]); coshape = None; initial = None }) ∷ []); at = (p 2 1) }) ∷ []); procedures = None; end = record { name = None; at = (p 3 1) }; at = (p 1 1) }) ∷ (record { name = (n (codes "b") 4 8); uses = ([]); implicit_none = None; declarations = ([]); procedures = (Some ((record { heading = (u.subroutine recursions.Unstated (n (codes "s") 6 12) (Some ([]))); body = (record { implicit_none = None; declarations = ([]); statements = (s.more_statements (s.action (s.assignment (f.part_ref (n (codes "x") 7 1) f.no_section_subscripts f.no_image_selector) (f.number 1 kinds.Unstated (p 7 5))) (p 7 1)) s.no_statements) }); end = record { name = None; at = (p 8 1) }; at = (p 6 1) }) ∷ [])); end = record { name = None; at = (p 9 1) }; at = (p 4 1) }) ∷ []); main = record { name = None; uses = ([]); body = (record { implicit_none = None; declarations = ([]); statements = s.no_statements }); procedures = None; end = record { name = None; at = (p 10 1) } } }) 20 7 1 ≡ true
file_20_name_of_another_module = refl

-- integer :: i; i = .true.; j = 1; end
file_20_before_32_above_it : breaks_first (record { modules = ([]); main = record { name = None; uses = ([]); body = (record { implicit_none = None; declarations = ((record { type_spec = (s.integer None); attributes = ([]); entities = ((record { name = (n (codes "i") 1 12); dimensions = ([]); coshape = None; initial = None }) ∷ []); at = (p 1 1) }) ∷ []); statements = (s.more_statements (s.action (s.assignment (f.part_ref (n (codes "i") 2 1) f.no_section_subscripts f.no_image_selector) (f.logical true (p 2 5))) (p 2 1)) (s.more_statements (s.action (s.assignment (f.part_ref (n (codes "j") 3 1) f.no_section_subscripts f.no_image_selector) (f.number 1 kinds.Unstated (p 3 5))) (p 3 1)) s.no_statements)) }); procedures = None; end = record { name = None; at = (p 4 1) } } }) 20 3 1 ≡ true
file_20_before_32_above_it = refl

-- print *, abs(1:z); end
file_20_in_a_triplet_that_is_59 : breaks_first (record { modules = ([]); main = record { name = None; uses = ([]); body = (record { implicit_none = None; declarations = ([]); statements = (s.more_statements (s.action (s.print s.free ((s.value (f.designator (f.part_ref (n (codes "abs") 1 10) (f.more_section_subscripts (f.triplet (f.given (f.number 1 kinds.Unstated (p 1 14))) (f.given (f.designator (f.part_ref (n (codes "z") 1 16) f.no_section_subscripts f.no_image_selector))) f.missing (p 1 14)) f.no_section_subscripts) f.no_image_selector))) ∷ [])) (p 1 1)) s.no_statements) }); procedures = None; end = record { name = None; at = (p 2 1) } } }) 20 1 16 ≡ true
file_20_in_a_triplet_that_is_59 = refl

-- print *, 1_k; end
file_20_kind_of_a_literal : breaks_first (record { modules = ([]); main = record { name = None; uses = ([]); body = (record { implicit_none = None; declarations = ([]); statements = (s.more_statements (s.action (s.print s.free ((s.value (f.number 1 (kinds.Named (codes "k")) (p 1 10))) ∷ [])) (p 1 1)) s.no_statements) }); procedures = None; end = record { name = None; at = (p 2 1) } } }) 20 1 10 ≡ true
file_20_kind_of_a_literal = refl

-- type(event_type) :: e[*]; end
file_20_type : breaks_first (record { modules = ([]); main = record { name = None; uses = ([]); body = (record { implicit_none = None; declarations = ((record { type_spec = (s.derived (n (codes "event_type") 1 6)); attributes = ([]); entities = ((record { name = (n (codes "e") 1 21); dimensions = ([]); coshape = (Some (s.explicit_coshape ([]) None)); initial = None }) ∷ []); at = (p 1 1) }) ∷ []); statements = s.no_statements }); procedures = None; end = record { name = None; at = (p 2 1) } } }) 20 1 6 ≡ true
file_20_type = refl

-- module a; integer, parameter :: x = y; integer, parameter :: y = 1; end module; end
file_20_used_above_its_declaration : answers_file (record { modules = ((record { name = (n (codes "a") 1 8); uses = ([]); implicit_none = None; declarations = ((record { type_spec = (s.integer None); attributes = (s.parameter ∷ []); entities = ((record { name = (n (codes "x") 2 23); dimensions = ([]); coshape = None; initial = (Some (f.designator (f.part_ref (n (codes "y") 2 27) f.no_section_subscripts f.no_image_selector))) }) ∷ []); at = (p 2 1) }) ∷ (record { type_spec = (s.integer None); attributes = (s.parameter ∷ []); entities = ((record { name = (n (codes "y") 3 23); dimensions = ([]); coshape = None; initial = (Some (f.number 1 kinds.Unstated (p 3 27))) }) ∷ []); at = (p 3 1) }) ∷ []); procedures = None; end = record { name = None; at = (p 4 1) }; at = (p 1 1) }) ∷ []); main = record { name = None; uses = ([]); body = (record { implicit_none = None; declarations = ([]); statements = s.no_statements }); procedures = None; end = record { name = None; at = (p 5 1) } } }) 20 2 27 ≡ true
unfolding judged_statements
file_20_used_above_its_declaration = refl

-- module a; use iso_fortran_env, only: ev => event_type; end module; use a; print *, ev; end
file_20_type_name_as_a_value : answers_file (record { modules = ((record { name = (n (codes "a") 1 8); uses = ((record { nature = natures.Unstated; module_name = (n (codes "iso_fortran_env") 2 5); list = (files.only ((files.renamed (record { local = (n (codes "ev") 2 28); entity = (n (codes "event_type") 2 34) })) ∷ [])); at = (p 2 1) }) ∷ []); implicit_none = None; declarations = ([]); procedures = None; end = record { name = None; at = (p 3 1) }; at = (p 1 1) }) ∷ []); main = record { name = None; uses = ((record { nature = natures.Unstated; module_name = (n (codes "a") 4 5); list = (files.all_but ([])); at = (p 4 1) }) ∷ []); body = (record { implicit_none = None; declarations = ([]); statements = (s.more_statements (s.action (s.print s.free ((s.value (f.designator (f.part_ref (n (codes "ev") 5 10) f.no_section_subscripts f.no_image_selector))) ∷ [])) (p 5 1)) s.no_statements) }); procedures = None; end = record { name = None; at = (p 6 1) } } }) 20 5 10 ≡ true
unfolding judged_statements
file_20_type_name_as_a_value = refl

-- module a; end module b; end
file_41_module : breaks_first (record { modules = ((record { name = (n (codes "a") 1 8); uses = ([]); implicit_none = None; declarations = ([]); procedures = None; end = record { name = (Some (n (codes "b") 2 12)); at = (p 2 1) }; at = (p 1 1) }) ∷ []); main = record { name = None; uses = ([]); body = (record { implicit_none = None; declarations = ([]); statements = s.no_statements }); procedures = None; end = record { name = None; at = (p 3 1) } } }) 41 2 12 ≡ true
file_41_module = refl

-- module a; contains; subroutine s(); end subroutine t; end module a; end
file_41_procedure_of_a_module : answers_file (record { modules = ((record { name = (n (codes "a") 1 8); uses = ([]); implicit_none = None; declarations = ([]); procedures = (Some ((record { heading = (u.subroutine recursions.Unstated (n (codes "s") 3 12) (Some ([]))); body = (record { implicit_none = None; declarations = ([]); statements = s.no_statements }); end = record { name = (Some (n (codes "t") 4 16)); at = (p 4 1) }; at = (p 3 1) }) ∷ [])); end = record { name = (Some (n (codes "a") 5 12)); at = (p 5 1) }; at = (p 1 1) }) ∷ []); main = record { name = None; uses = ([]); body = (record { implicit_none = None; declarations = ([]); statements = s.no_statements }); procedures = None; end = record { name = None; at = (p 6 1) } } }) 41 4 16 ≡ true
unfolding judged_statements
file_41_procedure_of_a_module = refl

-- module a; contains; subroutine s(); end subroutine s; end module a; end
file_41_procedure_of_a_module_that_agrees : accepted_file (record { modules = ((record { name = (n (codes "a") 1 8); uses = ([]); implicit_none = None; declarations = ([]); procedures = (Some ((record { heading = (u.subroutine recursions.Unstated (n (codes "s") 3 12) (Some ([]))); body = (record { implicit_none = None; declarations = ([]); statements = s.no_statements }); end = record { name = (Some (n (codes "s") 4 16)); at = (p 4 1) }; at = (p 3 1) }) ∷ [])); end = record { name = (Some (n (codes "a") 5 12)); at = (p 5 1) }; at = (p 1 1) }) ∷ []); main = record { name = None; uses = ([]); body = (record { implicit_none = None; declarations = ([]); statements = s.no_statements }); procedures = None; end = record { name = None; at = (p 6 1) } } }) ≡ true
unfolding judged_statements
file_41_procedure_of_a_module_that_agrees = refl

-- module a; end module a; program p; end program a
file_41_program_behind_a_module : answers_file (record { modules = ((record { name = (n (codes "a") 1 8); uses = ([]); implicit_none = None; declarations = ([]); procedures = None; end = record { name = (Some (n (codes "a") 2 12)); at = (p 2 1) }; at = (p 1 1) }) ∷ []); main = record { name = (Some (n (codes "p") 3 9)); uses = ([]); body = (record { implicit_none = None; declarations = ([]); statements = s.no_statements }); procedures = None; end = record { name = (Some (n (codes "a") 4 13)); at = (p 4 1) } } }) 41 4 13 ≡ true
unfolding judged_statements
file_41_program_behind_a_module = refl

-- module a; integer :: n; end module; module b; integer :: n; end module; use a; use b; n = 1; end
file_60_two_modules : breaks_first (record { modules = ((record { name = (n (codes "a") 1 8); uses = ([]); implicit_none = None; declarations = ((record { type_spec = (s.integer None); attributes = ([]); entities = ((record { name = (n (codes "n") 2 12); dimensions = ([]); coshape = None; initial = None }) ∷ []); at = (p 2 1) }) ∷ []); procedures = None; end = record { name = None; at = (p 3 1) }; at = (p 1 1) }) ∷ (record { name = (n (codes "b") 4 8); uses = ([]); implicit_none = None; declarations = ((record { type_spec = (s.integer None); attributes = ([]); entities = ((record { name = (n (codes "n") 5 12); dimensions = ([]); coshape = None; initial = None }) ∷ []); at = (p 5 1) }) ∷ []); procedures = None; end = record { name = None; at = (p 6 1) }; at = (p 4 1) }) ∷ []); main = record { name = None; uses = ((record { nature = natures.Unstated; module_name = (n (codes "a") 7 5); list = (files.all_but ([])); at = (p 7 1) }) ∷ (record { nature = natures.Unstated; module_name = (n (codes "b") 8 5); list = (files.all_but ([])); at = (p 8 1) }) ∷ []); body = (record { implicit_none = None; declarations = ([]); statements = (s.more_statements (s.action (s.assignment (f.part_ref (n (codes "n") 9 1) f.no_section_subscripts f.no_image_selector) (f.number 1 kinds.Unstated (p 9 5))) (p 9 1)) s.no_statements) }); procedures = None; end = record { name = None; at = (p 10 1) } } }) 60 9 1 ≡ true
file_60_two_modules = refl

-- module a; integer :: n; end module; module b; integer :: n; end module; use a; use b; print *, 1; end
file_60_not_referenced : accepted_file (record { modules = ((record { name = (n (codes "a") 1 8); uses = ([]); implicit_none = None; declarations = ((record { type_spec = (s.integer None); attributes = ([]); entities = ((record { name = (n (codes "n") 2 12); dimensions = ([]); coshape = None; initial = None }) ∷ []); at = (p 2 1) }) ∷ []); procedures = None; end = record { name = None; at = (p 3 1) }; at = (p 1 1) }) ∷ (record { name = (n (codes "b") 4 8); uses = ([]); implicit_none = None; declarations = ((record { type_spec = (s.integer None); attributes = ([]); entities = ((record { name = (n (codes "n") 5 12); dimensions = ([]); coshape = None; initial = None }) ∷ []); at = (p 5 1) }) ∷ []); procedures = None; end = record { name = None; at = (p 6 1) }; at = (p 4 1) }) ∷ []); main = record { name = None; uses = ((record { nature = natures.Unstated; module_name = (n (codes "a") 7 5); list = (files.all_but ([])); at = (p 7 1) }) ∷ (record { nature = natures.Unstated; module_name = (n (codes "b") 8 5); list = (files.all_but ([])); at = (p 8 1) }) ∷ []); body = (record { implicit_none = None; declarations = ([]); statements = (s.more_statements (s.action (s.print s.free ((s.value (f.number 1 kinds.Unstated (p 9 10))) ∷ [])) (p 9 1)) s.no_statements) }); procedures = None; end = record { name = None; at = (p 10 1) } } }) ≡ true
unfolding judged_statements
file_60_not_referenced = refl

-- module a; integer :: n = 7; end module; module b; use a; end module; use a; use b; print *, n; end
file_60_same_entity_twice : accepted_file (record { modules = ((record { name = (n (codes "a") 1 8); uses = ([]); implicit_none = None; declarations = ((record { type_spec = (s.integer None); attributes = ([]); entities = ((record { name = (n (codes "n") 2 12); dimensions = ([]); coshape = None; initial = (Some (f.number 7 kinds.Unstated (p 2 16))) }) ∷ []); at = (p 2 1) }) ∷ []); procedures = None; end = record { name = None; at = (p 3 1) }; at = (p 1 1) }) ∷ (record { name = (n (codes "b") 4 8); uses = ((record { nature = natures.Unstated; module_name = (n (codes "a") 5 5); list = (files.all_but ([])); at = (p 5 1) }) ∷ []); implicit_none = None; declarations = ([]); procedures = None; end = record { name = None; at = (p 6 1) }; at = (p 4 1) }) ∷ []); main = record { name = None; uses = ((record { nature = natures.Unstated; module_name = (n (codes "a") 7 5); list = (files.all_but ([])); at = (p 7 1) }) ∷ (record { nature = natures.Unstated; module_name = (n (codes "b") 8 5); list = (files.all_but ([])); at = (p 8 1) }) ∷ []); body = (record { implicit_none = None; declarations = ([]); statements = (s.more_statements (s.action (s.print s.free ((s.value (f.designator (f.part_ref (n (codes "n") 9 10) f.no_section_subscripts f.no_image_selector))) ∷ [])) (p 9 1)) s.no_statements) }); procedures = None; end = record { name = None; at = (p 10 1) } } }) ≡ true
unfolding judged_statements
file_60_same_entity_twice = refl

-- module a; integer :: n = 7; end module; use a, m => n, k => n; m = 8; print *, k; end
file_60_same_entity_under_two_names : accepted_file (record { modules = ((record { name = (n (codes "a") 1 8); uses = ([]); implicit_none = None; declarations = ((record { type_spec = (s.integer None); attributes = ([]); entities = ((record { name = (n (codes "n") 2 12); dimensions = ([]); coshape = None; initial = (Some (f.number 7 kinds.Unstated (p 2 16))) }) ∷ []); at = (p 2 1) }) ∷ []); procedures = None; end = record { name = None; at = (p 3 1) }; at = (p 1 1) }) ∷ []); main = record { name = None; uses = ((record { nature = natures.Unstated; module_name = (n (codes "a") 4 5); list = (files.all_but ((record { local = (n (codes "m") 4 8); entity = (n (codes "n") 4 13) }) ∷ (record { local = (n (codes "k") 4 16); entity = (n (codes "n") 4 21) }) ∷ [])); at = (p 4 1) }) ∷ []); body = (record { implicit_none = None; declarations = ([]); statements = (s.more_statements (s.action (s.assignment (f.part_ref (n (codes "m") 5 1) f.no_section_subscripts f.no_image_selector) (f.number 8 kinds.Unstated (p 5 5))) (p 5 1)) (s.more_statements (s.action (s.print s.free ((s.value (f.designator (f.part_ref (n (codes "k") 6 10) f.no_section_subscripts f.no_image_selector))) ∷ [])) (p 6 1)) s.no_statements)) }); procedures = None; end = record { name = None; at = (p 7 1) } } }) ≡ true
unfolding judged_statements
file_60_same_entity_under_two_names = refl

-- module a; integer :: n; end module; module b; integer :: n; end module; module c; use a; use b; end module; use c,
-- only: n; n = 1; end
file_60_through_only_of_a_module_with_two : breaks_first (record { modules = ((record { name = (n (codes "a") 1 8); uses = ([]); implicit_none = None; declarations = ((record { type_spec = (s.integer None); attributes = ([]); entities = ((record { name = (n (codes "n") 2 12); dimensions = ([]); coshape = None; initial = None }) ∷ []); at = (p 2 1) }) ∷ []); procedures = None; end = record { name = None; at = (p 3 1) }; at = (p 1 1) }) ∷ (record { name = (n (codes "b") 4 8); uses = ([]); implicit_none = None; declarations = ((record { type_spec = (s.integer None); attributes = ([]); entities = ((record { name = (n (codes "n") 5 12); dimensions = ([]); coshape = None; initial = None }) ∷ []); at = (p 5 1) }) ∷ []); procedures = None; end = record { name = None; at = (p 6 1) }; at = (p 4 1) }) ∷ (record { name = (n (codes "c") 7 8); uses = ((record { nature = natures.Unstated; module_name = (n (codes "a") 8 5); list = (files.all_but ([])); at = (p 8 1) }) ∷ (record { nature = natures.Unstated; module_name = (n (codes "b") 9 5); list = (files.all_but ([])); at = (p 9 1) }) ∷ []); implicit_none = None; declarations = ([]); procedures = None; end = record { name = None; at = (p 10 1) }; at = (p 7 1) }) ∷ []); main = record { name = None; uses = ((record { nature = natures.Unstated; module_name = (n (codes "c") 11 5); list = (files.only ((files.named (n (codes "n") 11 14)) ∷ [])); at = (p 11 1) }) ∷ []); body = (record { implicit_none = None; declarations = ([]); statements = (s.more_statements (s.action (s.assignment (f.part_ref (n (codes "n") 12 1) f.no_section_subscripts f.no_image_selector) (f.number 1 kinds.Unstated (p 12 5))) (p 12 1)) s.no_statements) }); procedures = None; end = record { name = None; at = (p 13 1) } } }) 60 12 1 ≡ true
file_60_through_only_of_a_module_with_two = refl

-- module a; integer :: n; end module; module b; integer :: n; end module; use a; use b; call s(3); contains; subroutine
-- s(n); integer, intent(in) :: n; print *, n; end subroutine; end
file_60_hidden_by_a_dummy : accepted_file (record { modules = ((record { name = (n (codes "a") 1 8); uses = ([]); implicit_none = None; declarations = ((record { type_spec = (s.integer None); attributes = ([]); entities = ((record { name = (n (codes "n") 2 12); dimensions = ([]); coshape = None; initial = None }) ∷ []); at = (p 2 1) }) ∷ []); procedures = None; end = record { name = None; at = (p 3 1) }; at = (p 1 1) }) ∷ (record { name = (n (codes "b") 4 8); uses = ([]); implicit_none = None; declarations = ((record { type_spec = (s.integer None); attributes = ([]); entities = ((record { name = (n (codes "n") 5 12); dimensions = ([]); coshape = None; initial = None }) ∷ []); at = (p 5 1) }) ∷ []); procedures = None; end = record { name = None; at = (p 6 1) }; at = (p 4 1) }) ∷ []); main = record { name = None; uses = ((record { nature = natures.Unstated; module_name = (n (codes "a") 7 5); list = (files.all_but ([])); at = (p 7 1) }) ∷ (record { nature = natures.Unstated; module_name = (n (codes "b") 8 5); list = (files.all_but ([])); at = (p 8 1) }) ∷ []); body = (record { implicit_none = None; declarations = ([]); statements = (s.more_statements (s.action (s.call (n (codes "s") 9 6) (Some (f.more_arguments None (f.number 3 kinds.Unstated (p 9 8)) f.no_arguments))) (p 9 1)) s.no_statements) }); procedures = (Some ((record { heading = (u.subroutine recursions.Unstated (n (codes "s") 11 12) (Some ((n (codes "n") 11 14) ∷ []))); body = (record { implicit_none = None; declarations = ((record { type_spec = (s.integer None); attributes = ((s.intent intents.In) ∷ []); entities = ((record { name = (n (codes "n") 12 24); dimensions = ([]); coshape = None; initial = None }) ∷ []); at = (p 12 1) }) ∷ []); statements = (s.more_statements (s.action (s.print s.free ((s.value (f.designator (f.part_ref (n (codes "n") 13 10) f.no_section_subscripts f.no_image_selector))) ∷ [])) (p 13 1)) s.no_statements) }); end = record { name = None; at = (p 14 1) }; at = (p 11 1) }) ∷ [])); end = record { name = None; at = (p 15 1) } } }) ≡ true
unfolding judged_statements
file_60_hidden_by_a_dummy = refl

-- module a; integer :: n; end module; module b; integer :: n; end module; use a; use b; contains; subroutine s(); print
-- *, n; end subroutine; end
file_60_in_a_procedure : breaks_first (record { modules = ((record { name = (n (codes "a") 1 8); uses = ([]); implicit_none = None; declarations = ((record { type_spec = (s.integer None); attributes = ([]); entities = ((record { name = (n (codes "n") 2 12); dimensions = ([]); coshape = None; initial = None }) ∷ []); at = (p 2 1) }) ∷ []); procedures = None; end = record { name = None; at = (p 3 1) }; at = (p 1 1) }) ∷ (record { name = (n (codes "b") 4 8); uses = ([]); implicit_none = None; declarations = ((record { type_spec = (s.integer None); attributes = ([]); entities = ((record { name = (n (codes "n") 5 12); dimensions = ([]); coshape = None; initial = None }) ∷ []); at = (p 5 1) }) ∷ []); procedures = None; end = record { name = None; at = (p 6 1) }; at = (p 4 1) }) ∷ []); main = record { name = None; uses = ((record { nature = natures.Unstated; module_name = (n (codes "a") 7 5); list = (files.all_but ([])); at = (p 7 1) }) ∷ (record { nature = natures.Unstated; module_name = (n (codes "b") 8 5); list = (files.all_but ([])); at = (p 8 1) }) ∷ []); body = (record { implicit_none = None; declarations = ([]); statements = s.no_statements }); procedures = (Some ((record { heading = (u.subroutine recursions.Unstated (n (codes "s") 10 12) (Some ([]))); body = (record { implicit_none = None; declarations = ([]); statements = (s.more_statements (s.action (s.print s.free ((s.value (f.designator (f.part_ref (n (codes "n") 11 10) f.no_section_subscripts f.no_image_selector))) ∷ [])) (p 11 1)) s.no_statements) }); end = record { name = None; at = (p 12 1) }; at = (p 10 1) }) ∷ [])); end = record { name = None; at = (p 13 1) } } }) 60 11 10 ≡ true
file_60_in_a_procedure = refl

-- module a; integer :: n; end module; module b; integer :: n; end module; use a; use b; n = y; end
file_60_and_20_the_first_place : breaks_first (record { modules = ((record { name = (n (codes "a") 1 8); uses = ([]); implicit_none = None; declarations = ((record { type_spec = (s.integer None); attributes = ([]); entities = ((record { name = (n (codes "n") 2 12); dimensions = ([]); coshape = None; initial = None }) ∷ []); at = (p 2 1) }) ∷ []); procedures = None; end = record { name = None; at = (p 3 1) }; at = (p 1 1) }) ∷ (record { name = (n (codes "b") 4 8); uses = ([]); implicit_none = None; declarations = ((record { type_spec = (s.integer None); attributes = ([]); entities = ((record { name = (n (codes "n") 5 12); dimensions = ([]); coshape = None; initial = None }) ∷ []); at = (p 5 1) }) ∷ []); procedures = None; end = record { name = None; at = (p 6 1) }; at = (p 4 1) }) ∷ []); main = record { name = None; uses = ((record { nature = natures.Unstated; module_name = (n (codes "a") 7 5); list = (files.all_but ([])); at = (p 7 1) }) ∷ (record { nature = natures.Unstated; module_name = (n (codes "b") 8 5); list = (files.all_but ([])); at = (p 8 1) }) ∷ []); body = (record { implicit_none = None; declarations = ([]); statements = (s.more_statements (s.action (s.assignment (f.part_ref (n (codes "n") 9 1) f.no_section_subscripts f.no_image_selector) (f.designator (f.part_ref (n (codes "y") 9 5) f.no_section_subscripts f.no_image_selector))) (p 9 1)) s.no_statements) }); procedures = None; end = record { name = None; at = (p 10 1) } } }) 60 9 1 ≡ true
file_60_and_20_the_first_place = refl

-- module a; end module; module a; end module; end
file_61_two_modules : breaks_first (record { modules = ((record { name = (n (codes "a") 1 8); uses = ([]); implicit_none = None; declarations = ([]); procedures = None; end = record { name = None; at = (p 2 1) }; at = (p 1 1) }) ∷ (record { name = (n (codes "a") 3 8); uses = ([]); implicit_none = None; declarations = ([]); procedures = None; end = record { name = None; at = (p 4 1) }; at = (p 3 1) }) ∷ []); main = record { name = None; uses = ([]); body = (record { implicit_none = None; declarations = ([]); statements = s.no_statements }); procedures = None; end = record { name = None; at = (p 5 1) } } }) 61 3 8 ≡ true
file_61_two_modules = refl

-- module a; end module; program a; end program
file_61_program : breaks_first (record { modules = ((record { name = (n (codes "a") 1 8); uses = ([]); implicit_none = None; declarations = ([]); procedures = None; end = record { name = None; at = (p 2 1) }; at = (p 1 1) }) ∷ []); main = record { name = (Some (n (codes "a") 3 9)); uses = ([]); body = (record { implicit_none = None; declarations = ([]); statements = s.no_statements }); procedures = None; end = record { name = None; at = (p 4 1) } } }) 61 3 9 ≡ true
file_61_program = refl

-- module a; integer :: x; end module; use a; integer :: x; end
file_61_declared_and_used : breaks_first (record { modules = ((record { name = (n (codes "a") 1 8); uses = ([]); implicit_none = None; declarations = ((record { type_spec = (s.integer None); attributes = ([]); entities = ((record { name = (n (codes "x") 2 12); dimensions = ([]); coshape = None; initial = None }) ∷ []); at = (p 2 1) }) ∷ []); procedures = None; end = record { name = None; at = (p 3 1) }; at = (p 1 1) }) ∷ []); main = record { name = None; uses = ((record { nature = natures.Unstated; module_name = (n (codes "a") 4 5); list = (files.all_but ([])); at = (p 4 1) }) ∷ []); body = (record { implicit_none = None; declarations = ((record { type_spec = (s.integer None); attributes = ([]); entities = ((record { name = (n (codes "x") 5 12); dimensions = ([]); coshape = None; initial = None }) ∷ []); at = (p 5 1) }) ∷ []); statements = s.no_statements }); procedures = None; end = record { name = None; at = (p 6 1) } } }) 61 5 12 ≡ true
file_61_declared_and_used = refl

-- module a; integer :: x; end module; use a; contains; subroutine x(); end subroutine; end
file_61_procedure_and_used : breaks_first (record { modules = ((record { name = (n (codes "a") 1 8); uses = ([]); implicit_none = None; declarations = ((record { type_spec = (s.integer None); attributes = ([]); entities = ((record { name = (n (codes "x") 2 12); dimensions = ([]); coshape = None; initial = None }) ∷ []); at = (p 2 1) }) ∷ []); procedures = None; end = record { name = None; at = (p 3 1) }; at = (p 1 1) }) ∷ []); main = record { name = None; uses = ((record { nature = natures.Unstated; module_name = (n (codes "a") 4 5); list = (files.all_but ([])); at = (p 4 1) }) ∷ []); body = (record { implicit_none = None; declarations = ([]); statements = s.no_statements }); procedures = (Some ((record { heading = (u.subroutine recursions.Unstated (n (codes "x") 6 12) (Some ([]))); body = (record { implicit_none = None; declarations = ([]); statements = s.no_statements }); end = record { name = None; at = (p 7 1) }; at = (p 6 1) }) ∷ [])); end = record { name = None; at = (p 8 1) } } }) 61 6 12 ≡ true
file_61_procedure_and_used = refl

-- module a; integer :: x; end module; module b; use a; integer :: x; end module; end
file_61_in_a_module : breaks_first (record { modules = ((record { name = (n (codes "a") 1 8); uses = ([]); implicit_none = None; declarations = ((record { type_spec = (s.integer None); attributes = ([]); entities = ((record { name = (n (codes "x") 2 12); dimensions = ([]); coshape = None; initial = None }) ∷ []); at = (p 2 1) }) ∷ []); procedures = None; end = record { name = None; at = (p 3 1) }; at = (p 1 1) }) ∷ (record { name = (n (codes "b") 4 8); uses = ((record { nature = natures.Unstated; module_name = (n (codes "a") 5 5); list = (files.all_but ([])); at = (p 5 1) }) ∷ []); implicit_none = None; declarations = ((record { type_spec = (s.integer None); attributes = ([]); entities = ((record { name = (n (codes "x") 6 12); dimensions = ([]); coshape = None; initial = None }) ∷ []); at = (p 6 1) }) ∷ []); procedures = None; end = record { name = None; at = (p 7 1) }; at = (p 4 1) }) ∷ []); main = record { name = None; uses = ([]); body = (record { implicit_none = None; declarations = ([]); statements = s.no_statements }); procedures = None; end = record { name = None; at = (p 8 1) } } }) 61 6 12 ≡ true
file_61_in_a_module = refl

-- use iso_fortran_env; integer :: int32; end
file_61_environment : breaks_first (record { modules = ([]); main = record { name = None; uses = ((record { nature = natures.Unstated; module_name = (n (codes "iso_fortran_env") 1 5); list = (files.all_but ([])); at = (p 1 1) }) ∷ []); body = (record { implicit_none = None; declarations = ((record { type_spec = (s.integer None); attributes = ([]); entities = ((record { name = (n (codes "int32") 2 12); dimensions = ([]); coshape = None; initial = None }) ∷ []); at = (p 2 1) }) ∷ []); statements = s.no_statements }); procedures = None; end = record { name = None; at = (p 3 1) } } }) 61 2 12 ≡ true
file_61_environment = refl

-- use iso_fortran_env, only: int64; integer :: int32; int32 = 3; print *, int32; end
file_61_environment_by_only : accepted_file (record { modules = ([]); main = record { name = None; uses = ((record { nature = natures.Unstated; module_name = (n (codes "iso_fortran_env") 1 5); list = (files.only ((files.named (n (codes "int64") 1 28)) ∷ [])); at = (p 1 1) }) ∷ []); body = (record { implicit_none = None; declarations = ((record { type_spec = (s.integer None); attributes = ([]); entities = ((record { name = (n (codes "int32") 2 12); dimensions = ([]); coshape = None; initial = None }) ∷ []); at = (p 2 1) }) ∷ []); statements = (s.more_statements (s.action (s.assignment (f.part_ref (n (codes "int32") 3 1) f.no_section_subscripts f.no_image_selector) (f.number 3 kinds.Unstated (p 3 9))) (p 3 1)) (s.more_statements (s.action (s.print s.free ((s.value (f.designator (f.part_ref (n (codes "int32") 4 10) f.no_section_subscripts f.no_image_selector))) ∷ [])) (p 4 1)) s.no_statements)) }); procedures = None; end = record { name = None; at = (p 5 1) } } }) ≡ true
unfolding judged_statements
file_61_environment_by_only = refl

-- module a; integer :: x = 4; end module; use a, y => x; integer :: x = 5; print *, x, y; end
file_61_renamed_away : accepted_file (record { modules = ((record { name = (n (codes "a") 1 8); uses = ([]); implicit_none = None; declarations = ((record { type_spec = (s.integer None); attributes = ([]); entities = ((record { name = (n (codes "x") 2 12); dimensions = ([]); coshape = None; initial = (Some (f.number 4 kinds.Unstated (p 2 16))) }) ∷ []); at = (p 2 1) }) ∷ []); procedures = None; end = record { name = None; at = (p 3 1) }; at = (p 1 1) }) ∷ []); main = record { name = None; uses = ((record { nature = natures.Unstated; module_name = (n (codes "a") 4 5); list = (files.all_but ((record { local = (n (codes "y") 4 8); entity = (n (codes "x") 4 13) }) ∷ [])); at = (p 4 1) }) ∷ []); body = (record { implicit_none = None; declarations = ((record { type_spec = (s.integer None); attributes = ([]); entities = ((record { name = (n (codes "x") 5 12); dimensions = ([]); coshape = None; initial = (Some (f.number 5 kinds.Unstated (p 5 16))) }) ∷ []); at = (p 5 1) }) ∷ []); statements = (s.more_statements (s.action (s.print s.free ((s.value (f.designator (f.part_ref (n (codes "x") 6 10) f.no_section_subscripts f.no_image_selector))) ∷ (s.value (f.designator (f.part_ref (n (codes "y") 6 13) f.no_section_subscripts f.no_image_selector))) ∷ [])) (p 6 1)) s.no_statements) }); procedures = None; end = record { name = None; at = (p 7 1) } } }) ≡ true
unfolding judged_statements
file_61_renamed_away = refl

-- module a; integer :: x = 4; end module; use a; call s(); print *, x; contains; subroutine s(); integer :: x; x = 9;
-- print *, x; end subroutine; end
file_61_local_of_a_procedure_is_none : accepted_file (record { modules = ((record { name = (n (codes "a") 1 8); uses = ([]); implicit_none = None; declarations = ((record { type_spec = (s.integer None); attributes = ([]); entities = ((record { name = (n (codes "x") 2 12); dimensions = ([]); coshape = None; initial = (Some (f.number 4 kinds.Unstated (p 2 16))) }) ∷ []); at = (p 2 1) }) ∷ []); procedures = None; end = record { name = None; at = (p 3 1) }; at = (p 1 1) }) ∷ []); main = record { name = None; uses = ((record { nature = natures.Unstated; module_name = (n (codes "a") 4 5); list = (files.all_but ([])); at = (p 4 1) }) ∷ []); body = (record { implicit_none = None; declarations = ([]); statements = (s.more_statements (s.action (s.call (n (codes "s") 5 6) (Some f.no_arguments)) (p 5 1)) (s.more_statements (s.action (s.print s.free ((s.value (f.designator (f.part_ref (n (codes "x") 6 10) f.no_section_subscripts f.no_image_selector))) ∷ [])) (p 6 1)) s.no_statements)) }); procedures = (Some ((record { heading = (u.subroutine recursions.Unstated (n (codes "s") 8 12) (Some ([]))); body = (record { implicit_none = None; declarations = ((record { type_spec = (s.integer None); attributes = ([]); entities = ((record { name = (n (codes "x") 9 12); dimensions = ([]); coshape = None; initial = None }) ∷ []); at = (p 9 1) }) ∷ []); statements = (s.more_statements (s.action (s.assignment (f.part_ref (n (codes "x") 10 1) f.no_section_subscripts f.no_image_selector) (f.number 9 kinds.Unstated (p 10 5))) (p 10 1)) (s.more_statements (s.action (s.print s.free ((s.value (f.designator (f.part_ref (n (codes "x") 11 10) f.no_section_subscripts f.no_image_selector))) ∷ [])) (p 11 1)) s.no_statements)) }); end = record { name = None; at = (p 12 1) }; at = (p 8 1) }) ∷ [])); end = record { name = None; at = (p 13 1) } } }) ≡ true
unfolding judged_statements
file_61_local_of_a_procedure_is_none = refl

-- module iso_fortran_env; end module; end
file_61_module_of_the_environment : breaks_first (record { modules = ((record { name = (n (codes "iso_fortran_env") 1 8); uses = ([]); implicit_none = None; declarations = ([]); procedures = None; end = record { name = None; at = (p 2 1) }; at = (p 1 1) }) ∷ []); main = record { name = None; uses = ([]); body = (record { implicit_none = None; declarations = ([]); statements = s.no_statements }); procedures = None; end = record { name = None; at = (p 3 1) } } }) 61 1 8 ≡ true
file_61_module_of_the_environment = refl

-- module a; integer :: a = 3; end module; use a; print *, a; end
file_61_module_and_its_own_name_inside : accepted_file (record { modules = ((record { name = (n (codes "a") 1 8); uses = ([]); implicit_none = None; declarations = ((record { type_spec = (s.integer None); attributes = ([]); entities = ((record { name = (n (codes "a") 2 12); dimensions = ([]); coshape = None; initial = (Some (f.number 3 kinds.Unstated (p 2 16))) }) ∷ []); at = (p 2 1) }) ∷ []); procedures = None; end = record { name = None; at = (p 3 1) }; at = (p 1 1) }) ∷ []); main = record { name = None; uses = ((record { nature = natures.Unstated; module_name = (n (codes "a") 4 5); list = (files.all_but ([])); at = (p 4 1) }) ∷ []); body = (record { implicit_none = None; declarations = ([]); statements = (s.more_statements (s.action (s.print s.free ((s.value (f.designator (f.part_ref (n (codes "a") 5 10) f.no_section_subscripts f.no_image_selector))) ∷ [])) (p 5 1)) s.no_statements) }); procedures = None; end = record { name = None; at = (p 6 1) } } }) ≡ true
unfolding judged_statements
file_61_module_and_its_own_name_inside = refl

-- module a; contains; subroutine s(); print *, abs(-1); end subroutine; end module; use a; integer :: abs; abs = 1; end
file_62_intrinsic : breaks_first (record { modules = ((record { name = (n (codes "a") 1 8); uses = ([]); implicit_none = None; declarations = ([]); procedures = (Some ((record { heading = (u.subroutine recursions.Unstated (n (codes "s") 3 12) (Some ([]))); body = (record { implicit_none = None; declarations = ([]); statements = (s.more_statements (s.action (s.print s.free ((s.value (f.designator (f.part_ref (n (codes "abs") 4 10) (f.more_section_subscripts (f.subscript (f.prefix prefixes.Minus (f.number 1 kinds.Unstated (p 4 15)) (p 4 14))) f.no_section_subscripts) f.no_image_selector))) ∷ [])) (p 4 1)) s.no_statements) }); end = record { name = None; at = (p 5 1) }; at = (p 3 1) }) ∷ [])); end = record { name = None; at = (p 6 1) }; at = (p 1 1) }) ∷ []); main = record { name = None; uses = ((record { nature = natures.Unstated; module_name = (n (codes "a") 7 5); list = (files.all_but ([])); at = (p 7 1) }) ∷ []); body = (record { implicit_none = None; declarations = ((record { type_spec = (s.integer None); attributes = ([]); entities = ((record { name = (n (codes "abs") 8 12); dimensions = ([]); coshape = None; initial = None }) ∷ []); at = (p 8 1) }) ∷ []); statements = (s.more_statements (s.action (s.assignment (f.part_ref (n (codes "abs") 9 1) f.no_section_subscripts f.no_image_selector) (f.number 1 kinds.Unstated (p 9 7))) (p 9 1)) s.no_statements) }); procedures = None; end = record { name = None; at = (p 10 1) } } }) 62 8 12 ≡ true
file_62_intrinsic = refl

-- module a; contains; subroutine s(); print *, 1; end subroutine; end module; use a; integer :: abs; abs = 1; call s();
-- print *, abs; end
file_62_intrinsic_not_referred_to : accepted_file (record { modules = ((record { name = (n (codes "a") 1 8); uses = ([]); implicit_none = None; declarations = ([]); procedures = (Some ((record { heading = (u.subroutine recursions.Unstated (n (codes "s") 3 12) (Some ([]))); body = (record { implicit_none = None; declarations = ([]); statements = (s.more_statements (s.action (s.print s.free ((s.value (f.number 1 kinds.Unstated (p 4 10))) ∷ [])) (p 4 1)) s.no_statements) }); end = record { name = None; at = (p 5 1) }; at = (p 3 1) }) ∷ [])); end = record { name = None; at = (p 6 1) }; at = (p 1 1) }) ∷ []); main = record { name = None; uses = ((record { nature = natures.Unstated; module_name = (n (codes "a") 7 5); list = (files.all_but ([])); at = (p 7 1) }) ∷ []); body = (record { implicit_none = None; declarations = ((record { type_spec = (s.integer None); attributes = ([]); entities = ((record { name = (n (codes "abs") 8 12); dimensions = ([]); coshape = None; initial = None }) ∷ []); at = (p 8 1) }) ∷ []); statements = (s.more_statements (s.action (s.assignment (f.part_ref (n (codes "abs") 9 1) f.no_section_subscripts f.no_image_selector) (f.number 1 kinds.Unstated (p 9 7))) (p 9 1)) (s.more_statements (s.action (s.call (n (codes "s") 10 6) (Some f.no_arguments)) (p 10 1)) (s.more_statements (s.action (s.print s.free ((s.value (f.designator (f.part_ref (n (codes "abs") 11 10) f.no_section_subscripts f.no_image_selector))) ∷ [])) (p 11 1)) s.no_statements))) }); procedures = None; end = record { name = None; at = (p 12 1) } } }) ≡ true
unfolding judged_statements
file_62_intrinsic_not_referred_to = refl

-- module a; integer, parameter :: k = huge(1); end module; use a; contains; subroutine huge(); end subroutine; end
file_62_procedure_of_the_main_program : breaks_first (record { modules = ((record { name = (n (codes "a") 1 8); uses = ([]); implicit_none = None; declarations = ((record { type_spec = (s.integer None); attributes = (s.parameter ∷ []); entities = ((record { name = (n (codes "k") 2 23); dimensions = ([]); coshape = None; initial = (Some (f.designator (f.part_ref (n (codes "huge") 2 27) (f.more_section_subscripts (f.subscript (f.number 1 kinds.Unstated (p 2 32))) f.no_section_subscripts) f.no_image_selector))) }) ∷ []); at = (p 2 1) }) ∷ []); procedures = None; end = record { name = None; at = (p 3 1) }; at = (p 1 1) }) ∷ []); main = record { name = None; uses = ((record { nature = natures.Unstated; module_name = (n (codes "a") 4 5); list = (files.all_but ([])); at = (p 4 1) }) ∷ []); body = (record { implicit_none = None; declarations = ([]); statements = s.no_statements }); procedures = (Some ((record { heading = (u.subroutine recursions.Unstated (n (codes "huge") 6 12) (Some ([]))); body = (record { implicit_none = None; declarations = ([]); statements = s.no_statements }); end = record { name = None; at = (p 7 1) }; at = (p 6 1) }) ∷ [])); end = record { name = None; at = (p 8 1) } } }) 62 6 12 ≡ true
file_62_procedure_of_the_main_program = refl

-- module a; use iso_fortran_env; integer(int64) :: x; end module; integer :: int64; end
file_62_name_of_the_environment : breaks_first (record { modules = ((record { name = (n (codes "a") 1 8); uses = ((record { nature = natures.Unstated; module_name = (n (codes "iso_fortran_env") 2 5); list = (files.all_but ([])); at = (p 2 1) }) ∷ []); implicit_none = None; declarations = ((record { type_spec = (s.integer (Some (f.designator (f.part_ref (n (codes "int64") 3 9) f.no_section_subscripts f.no_image_selector)))); attributes = ([]); entities = ((record { name = (n (codes "x") 3 19); dimensions = ([]); coshape = None; initial = None }) ∷ []); at = (p 3 1) }) ∷ []); procedures = None; end = record { name = None; at = (p 4 1) }; at = (p 1 1) }) ∷ []); main = record { name = None; uses = ([]); body = (record { implicit_none = None; declarations = ((record { type_spec = (s.integer None); attributes = ([]); entities = ((record { name = (n (codes "int64") 5 12); dimensions = ([]); coshape = None; initial = None }) ∷ []); at = (p 5 1) }) ∷ []); statements = s.no_statements }); procedures = None; end = record { name = None; at = (p 6 1) } } }) 62 5 12 ≡ true
file_62_name_of_the_environment = refl

-- module a; use iso_fortran_env, k => int64; integer(k) :: x; end module; integer :: int64; end
file_62_in_the_module_by_a_new_name : breaks_first (record { modules = ((record { name = (n (codes "a") 1 8); uses = ((record { nature = natures.Unstated; module_name = (n (codes "iso_fortran_env") 2 5); list = (files.all_but ((record { local = (n (codes "k") 2 22); entity = (n (codes "int64") 2 27) }) ∷ [])); at = (p 2 1) }) ∷ []); implicit_none = None; declarations = ((record { type_spec = (s.integer (Some (f.designator (f.part_ref (n (codes "k") 3 9) f.no_section_subscripts f.no_image_selector)))); attributes = ([]); entities = ((record { name = (n (codes "x") 3 15); dimensions = ([]); coshape = None; initial = None }) ∷ []); at = (p 3 1) }) ∷ []); procedures = None; end = record { name = None; at = (p 4 1) }; at = (p 1 1) }) ∷ []); main = record { name = None; uses = ([]); body = (record { implicit_none = None; declarations = ((record { type_spec = (s.integer None); attributes = ([]); entities = ((record { name = (n (codes "int64") 5 12); dimensions = ([]); coshape = None; initial = None }) ∷ []); at = (p 5 1) }) ∷ []); statements = s.no_statements }); procedures = None; end = record { name = None; at = (p 6 1) } } }) 62 3 9 ≡ true
file_62_in_the_module_by_a_new_name = refl

-- use iso_fortran_env, only: k => int64; integer :: int64; integer(k) :: x; end
file_62_by_a_new_name_in_the_main_program : breaks_first (record { modules = ([]); main = record { name = None; uses = ((record { nature = natures.Unstated; module_name = (n (codes "iso_fortran_env") 1 5); list = (files.only ((files.renamed (record { local = (n (codes "k") 1 28); entity = (n (codes "int64") 1 33) })) ∷ [])); at = (p 1 1) }) ∷ []); body = (record { implicit_none = None; declarations = ((record { type_spec = (s.integer None); attributes = ([]); entities = ((record { name = (n (codes "int64") 2 12); dimensions = ([]); coshape = None; initial = None }) ∷ []); at = (p 2 1) }) ∷ (record { type_spec = (s.integer (Some (f.designator (f.part_ref (n (codes "k") 3 9) f.no_section_subscripts f.no_image_selector)))); attributes = ([]); entities = ((record { name = (n (codes "x") 3 15); dimensions = ([]); coshape = None; initial = None }) ∷ []); at = (p 3 1) }) ∷ []); statements = s.no_statements }); procedures = None; end = record { name = None; at = (p 4 1) } } }) 62 3 9 ≡ true
file_62_by_a_new_name_in_the_main_program = refl

-- use iso_fortran_env, k => int64; call s(); contains; subroutine s(); integer :: int64; int64 = 3; print *, 1_k; end
-- subroutine; end
file_62_by_a_new_name_in_a_procedure : breaks_first (record { modules = ([]); main = record { name = None; uses = ((record { nature = natures.Unstated; module_name = (n (codes "iso_fortran_env") 1 5); list = (files.all_but ((record { local = (n (codes "k") 1 22); entity = (n (codes "int64") 1 27) }) ∷ [])); at = (p 1 1) }) ∷ []); body = (record { implicit_none = None; declarations = ([]); statements = (s.more_statements (s.action (s.call (n (codes "s") 2 6) (Some f.no_arguments)) (p 2 1)) s.no_statements) }); procedures = (Some ((record { heading = (u.subroutine recursions.Unstated (n (codes "s") 4 12) (Some ([]))); body = (record { implicit_none = None; declarations = ((record { type_spec = (s.integer None); attributes = ([]); entities = ((record { name = (n (codes "int64") 5 12); dimensions = ([]); coshape = None; initial = None }) ∷ []); at = (p 5 1) }) ∷ []); statements = (s.more_statements (s.action (s.assignment (f.part_ref (n (codes "int64") 6 1) f.no_section_subscripts f.no_image_selector) (f.number 3 kinds.Unstated (p 6 9))) (p 6 1)) (s.more_statements (s.action (s.print s.free ((s.value (f.number 1 (kinds.Named (codes "k")) (p 7 10))) ∷ [])) (p 7 1)) s.no_statements)) }); end = record { name = None; at = (p 8 1) }; at = (p 4 1) }) ∷ [])); end = record { name = None; at = (p 9 1) } } }) 62 7 10 ≡ true
file_62_by_a_new_name_in_a_procedure = refl

-- use iso_fortran_env, k => int64; call s(); print *, huge(1_k); contains; subroutine s(); integer :: int64; int64 = 3;
-- print *, int64; end subroutine; end
file_62_by_a_new_name_elsewhere : accepted_file (record { modules = ([]); main = record { name = None; uses = ((record { nature = natures.Unstated; module_name = (n (codes "iso_fortran_env") 1 5); list = (files.all_but ((record { local = (n (codes "k") 1 22); entity = (n (codes "int64") 1 27) }) ∷ [])); at = (p 1 1) }) ∷ []); body = (record { implicit_none = None; declarations = ([]); statements = (s.more_statements (s.action (s.call (n (codes "s") 2 6) (Some f.no_arguments)) (p 2 1)) (s.more_statements (s.action (s.print s.free ((s.value (f.designator (f.part_ref (n (codes "huge") 3 10) (f.more_section_subscripts (f.subscript (f.number 1 (kinds.Named (codes "k")) (p 3 15))) f.no_section_subscripts) f.no_image_selector))) ∷ [])) (p 3 1)) s.no_statements)) }); procedures = (Some ((record { heading = (u.subroutine recursions.Unstated (n (codes "s") 5 12) (Some ([]))); body = (record { implicit_none = None; declarations = ((record { type_spec = (s.integer None); attributes = ([]); entities = ((record { name = (n (codes "int64") 6 12); dimensions = ([]); coshape = None; initial = None }) ∷ []); at = (p 6 1) }) ∷ []); statements = (s.more_statements (s.action (s.assignment (f.part_ref (n (codes "int64") 7 1) f.no_section_subscripts f.no_image_selector) (f.number 3 kinds.Unstated (p 7 9))) (p 7 1)) (s.more_statements (s.action (s.print s.free ((s.value (f.designator (f.part_ref (n (codes "int64") 8 10) f.no_section_subscripts f.no_image_selector))) ∷ [])) (p 8 1)) s.no_statements)) }); end = record { name = None; at = (p 9 1) }; at = (p 5 1) }) ∷ [])); end = record { name = None; at = (p 10 1) } } }) ≡ true
unfolding judged_statements
file_62_by_a_new_name_elsewhere = refl

-- module a; contains; subroutine s(); integer :: abs; abs = 2; print *, abs; end subroutine; end module; use a; integer
-- :: abs; abs = 1; call s(); print *, abs; end
file_62_hidden_by_a_local_of_the_module : accepted_file (record { modules = ((record { name = (n (codes "a") 1 8); uses = ([]); implicit_none = None; declarations = ([]); procedures = (Some ((record { heading = (u.subroutine recursions.Unstated (n (codes "s") 3 12) (Some ([]))); body = (record { implicit_none = None; declarations = ((record { type_spec = (s.integer None); attributes = ([]); entities = ((record { name = (n (codes "abs") 4 12); dimensions = ([]); coshape = None; initial = None }) ∷ []); at = (p 4 1) }) ∷ []); statements = (s.more_statements (s.action (s.assignment (f.part_ref (n (codes "abs") 5 1) f.no_section_subscripts f.no_image_selector) (f.number 2 kinds.Unstated (p 5 7))) (p 5 1)) (s.more_statements (s.action (s.print s.free ((s.value (f.designator (f.part_ref (n (codes "abs") 6 10) f.no_section_subscripts f.no_image_selector))) ∷ [])) (p 6 1)) s.no_statements)) }); end = record { name = None; at = (p 7 1) }; at = (p 3 1) }) ∷ [])); end = record { name = None; at = (p 8 1) }; at = (p 1 1) }) ∷ []); main = record { name = None; uses = ((record { nature = natures.Unstated; module_name = (n (codes "a") 9 5); list = (files.all_but ([])); at = (p 9 1) }) ∷ []); body = (record { implicit_none = None; declarations = ((record { type_spec = (s.integer None); attributes = ([]); entities = ((record { name = (n (codes "abs") 10 12); dimensions = ([]); coshape = None; initial = None }) ∷ []); at = (p 10 1) }) ∷ []); statements = (s.more_statements (s.action (s.assignment (f.part_ref (n (codes "abs") 11 1) f.no_section_subscripts f.no_image_selector) (f.number 1 kinds.Unstated (p 11 7))) (p 11 1)) (s.more_statements (s.action (s.call (n (codes "s") 12 6) (Some f.no_arguments)) (p 12 1)) (s.more_statements (s.action (s.print s.free ((s.value (f.designator (f.part_ref (n (codes "abs") 13 10) f.no_section_subscripts f.no_image_selector))) ∷ [])) (p 13 1)) s.no_statements))) }); procedures = None; end = record { name = None; at = (p 14 1) } } }) ≡ true
unfolding judged_statements
file_62_hidden_by_a_local_of_the_module = refl
