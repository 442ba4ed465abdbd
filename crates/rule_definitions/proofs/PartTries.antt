-- Sources in which a part is broken and the form around it too; `@` in a remark stands before the place that is told.
use Rattle.std.proofs.Common.{◌≡◌, true, [], ◌∷◌, refl, codes, Some, None}
use Rattle.fortran_tree.specs.declared.expr.NumberKind.TheVariants as kinds
use Rattle.fortran_tree.specs.declared.expr.Operator.TheVariants as operators
use Rattle.fortran_tree.specs.declared.expr.PrefixOperator.TheVariants as prefixes
use Rattle.fortran_tree.specs.declared.declaration.Intent.TheVariants as intents
use Rattle.fortran_tree.specs.declared.unit.ModuleNature.TheVariants as natures
use Rattle.fortran_tree.specs.declared.unit.Recursion.TheVariants as recursions
use Rattle.fortran_tree.specs.Expressions as f
use Rattle.fortran_tree.specs.Statements as s
use Rattle.fortran_tree.specs.Units as u
use Rattle.rule_definitions.proofs.Trees.{p, n, answers, accepted}
use Rattle.rule_definitions.specs.Statements.{judged_statements}

-- print *, max(@zz); end
refused_20_1 : answers (record { name = None; uses = []; body = (record { implicit_none = None; declarations = []; statements = (s.more_statements (s.action (s.print s.free ((s.value (f.designator (f.part_ref (n (codes "max") 1 10) (f.more_section_subscripts (f.subscript (f.designator (f.part_ref (n (codes "zz") 1 14) f.no_section_subscripts f.no_image_selector))) f.no_section_subscripts) f.no_image_selector))) ∷ [])) (p 1 1)) s.no_statements) }); procedures = None; end = (record { name = None; at = (p 2 1) }) }) 20 1 14 ≡ true
unfolding judged_statements
refused_20_1 = refl

-- print *, max(a1=@zz, 2); end
refused_20_2 : answers (record { name = None; uses = []; body = (record { implicit_none = None; declarations = []; statements = (s.more_statements (s.action (s.print s.free ((s.value (f.function_reference (n (codes "max") 1 10) (f.more_arguments (Some (n (codes "a1") 1 14)) (f.designator (f.part_ref (n (codes "zz") 1 17) f.no_section_subscripts f.no_image_selector)) (f.more_arguments None (f.number 2 kinds.Unstated (p 1 21)) f.no_arguments)))) ∷ [])) (p 1 1)) s.no_statements) }); procedures = None; end = (record { name = None; at = (p 2 1) }) }) 20 1 17 ≡ true
unfolding judged_statements
refused_20_2 = refl

-- print *, max(@failed_images()); end
refused_56_1 : answers (record { name = None; uses = []; body = (record { implicit_none = None; declarations = []; statements = (s.more_statements (s.action (s.print s.free ((s.value (f.designator (f.part_ref (n (codes "max") 1 10) (f.more_section_subscripts (f.subscript (f.function_reference (n (codes "failed_images") 1 14) f.no_arguments)) f.no_section_subscripts) f.no_image_selector))) ∷ [])) (p 1 1)) s.no_statements) }); procedures = None; end = (record { name = None; at = (p 2 1) }) }) 56 1 14 ≡ true
unfolding judged_statements
refused_56_1 = refl

-- print *, @max(.true.); end
refused_59_1 : answers (record { name = None; uses = []; body = (record { implicit_none = None; declarations = []; statements = (s.more_statements (s.action (s.print s.free ((s.value (f.designator (f.part_ref (n (codes "max") 1 10) (f.more_section_subscripts (f.subscript (f.logical true (p 1 14))) f.no_section_subscripts) f.no_image_selector))) ∷ [])) (p 1 1)) s.no_statements) }); procedures = None; end = (record { name = None; at = (p 2 1) }) }) 59 1 10 ≡ true
unfolding judged_statements
refused_59_1 = refl

-- contains; subroutine s(); integer :: i = @.true. + 1; end subroutine; end
refused_31_1 : answers (record { name = None; uses = []; body = (record { implicit_none = None; declarations = []; statements = s.no_statements }); procedures = (Some ((record { heading = (u.subroutine recursions.Unstated (n (codes "s") 2 12) (Some [])); body = (record { implicit_none = None; declarations = ((record { type_spec = (s.integer None); attributes = []; entities = ((record { name = (n (codes "i") 3 12); dimensions = []; coshape = None; initial = (Some (f.binary operators.Add (f.logical true (p 3 16)) (f.number 1 kinds.Unstated (p 3 25)) (p 3 16))) }) ∷ []); at = (p 3 1) }) ∷ []); statements = s.no_statements }); end = (record { name = None; at = (p 4 1) }); at = (p 2 1) }) ∷ [])); end = (record { name = None; at = (p 5 1) }) }) 31 3 16 ≡ true
unfolding judged_statements
refused_31_1 = refl

-- contains; subroutine s(); integer :: i = 1 + @zz; end subroutine; end
refused_20_3 : answers (record { name = None; uses = []; body = (record { implicit_none = None; declarations = []; statements = s.no_statements }); procedures = (Some ((record { heading = (u.subroutine recursions.Unstated (n (codes "s") 2 12) (Some [])); body = (record { implicit_none = None; declarations = ((record { type_spec = (s.integer None); attributes = []; entities = ((record { name = (n (codes "i") 3 12); dimensions = []; coshape = None; initial = (Some (f.binary operators.Add (f.number 1 kinds.Unstated (p 3 16)) (f.designator (f.part_ref (n (codes "zz") 3 20) f.no_section_subscripts f.no_image_selector)) (p 3 16))) }) ∷ []); at = (p 3 1) }) ∷ []); statements = s.no_statements }); end = (record { name = None; at = (p 4 1) }); at = (p 2 1) }) ∷ [])); end = (record { name = None; at = (p 5 1) }) }) 20 3 20 ≡ true
unfolding judged_statements
refused_20_3 = refl

-- integer, allocatable :: a(:) = @failed_images(); end
refused_56_2 : answers (record { name = None; uses = []; body = (record { implicit_none = None; declarations = ((record { type_spec = (s.integer None); attributes = (s.allocatable ∷ []); entities = ((record { name = (n (codes "a") 1 25); dimensions = ((s.deferred (p 1 27)) ∷ []); coshape = None; initial = (Some (f.function_reference (n (codes "failed_images") 1 32) f.no_arguments)) }) ∷ []); at = (p 1 1) }) ∷ []); statements = s.no_statements }); procedures = None; end = (record { name = None; at = (p 2 1) }) }) 56 1 32 ≡ true
unfolding judged_statements
refused_56_2 = refl

-- contains; subroutine s(); integer :: i = @.true.; end subroutine; end
refused_28_1 : answers (record { name = None; uses = []; body = (record { implicit_none = None; declarations = []; statements = s.no_statements }); procedures = (Some ((record { heading = (u.subroutine recursions.Unstated (n (codes "s") 2 12) (Some [])); body = (record { implicit_none = None; declarations = ((record { type_spec = (s.integer None); attributes = []; entities = ((record { name = (n (codes "i") 3 12); dimensions = []; coshape = None; initial = (Some (f.logical true (p 3 16))) }) ∷ []); at = (p 3 1) }) ∷ []); statements = s.no_statements }); end = (record { name = None; at = (p 4 1) }); at = (p 2 1) }) ∷ [])); end = (record { name = None; at = (p 5 1) }) }) 28 3 16 ≡ true
unfolding judged_statements
refused_28_1 = refl

-- sync all (foo = @failed_images()); end
refused_56_3 : answers (record { name = None; uses = []; body = (record { implicit_none = None; declarations = []; statements = (s.more_statements (s.action (s.sync_all (Some (f.more_specifiers (n (codes "foo") 1 11) (f.function_reference (n (codes "failed_images") 1 17) f.no_arguments) f.no_specifiers))) (p 1 1)) s.no_statements) }); procedures = None; end = (record { name = None; at = (p 2 1) }) }) 56 1 17 ≡ true
unfolding judged_statements
refused_56_3 = refl

-- print *, size(failed_images(), 1, @2); end
refused_59_2 : answers (record { name = None; uses = []; body = (record { implicit_none = None; declarations = []; statements = (s.more_statements (s.action (s.print s.free ((s.value (f.designator (f.part_ref (n (codes "size") 1 10) (f.more_section_subscripts (f.subscript (f.function_reference (n (codes "failed_images") 1 15) f.no_arguments)) (f.more_section_subscripts (f.subscript (f.number 1 kinds.Unstated (p 1 32))) (f.more_section_subscripts (f.subscript (f.number 2 kinds.Unstated (p 1 35))) f.no_section_subscripts))) f.no_image_selector))) ∷ [])) (p 1 1)) s.no_statements) }); procedures = None; end = (record { name = None; at = (p 2 1) }) }) 59 1 35 ≡ true
unfolding judged_statements
refused_59_2 = refl

-- print *, size([1], array=@failed_images()); end
refused_56_4 : answers (record { name = None; uses = []; body = (record { implicit_none = None; declarations = []; statements = (s.more_statements (s.action (s.print s.free ((s.value (f.function_reference (n (codes "size") 1 10) (f.more_arguments None (f.array_constructor (f.more_expressions (f.number 1 kinds.Unstated (p 1 16)) f.no_expressions) (p 1 15)) (f.more_arguments (Some (n (codes "array") 1 20)) (f.function_reference (n (codes "failed_images") 1 26) f.no_arguments) f.no_arguments)))) ∷ [])) (p 1 1)) s.no_statements) }); procedures = None; end = (record { name = None; at = (p 2 1) }) }) 56 1 26 ≡ true
unfolding judged_statements
refused_56_4 = refl

-- integer :: i; call i(@zz); end
refused_20_4 : answers (record { name = None; uses = []; body = (record { implicit_none = None; declarations = ((record { type_spec = (s.integer None); attributes = []; entities = ((record { name = (n (codes "i") 1 12); dimensions = []; coshape = None; initial = None }) ∷ []); at = (p 1 1) }) ∷ []); statements = (s.more_statements (s.action (s.call (n (codes "i") 2 6) (Some (f.more_arguments None (f.designator (f.part_ref (n (codes "zz") 2 8) f.no_section_subscripts f.no_image_selector)) f.no_arguments))) (p 2 1)) s.no_statements) }); procedures = None; end = (record { name = None; at = (p 3 1) }) }) 20 2 8 ≡ true
unfolding judged_statements
refused_20_4 = refl

-- integer :: i; i = s(@zz); contains; subroutine s(); end subroutine; end
refused_20_5 : answers (record { name = None; uses = []; body = (record { implicit_none = None; declarations = ((record { type_spec = (s.integer None); attributes = []; entities = ((record { name = (n (codes "i") 1 12); dimensions = []; coshape = None; initial = None }) ∷ []); at = (p 1 1) }) ∷ []); statements = (s.more_statements (s.action (s.assignment (f.part_ref (n (codes "i") 2 1) f.no_section_subscripts f.no_image_selector) (f.designator (f.part_ref (n (codes "s") 2 5) (f.more_section_subscripts (f.subscript (f.designator (f.part_ref (n (codes "zz") 2 7) f.no_section_subscripts f.no_image_selector))) f.no_section_subscripts) f.no_image_selector))) (p 2 1)) s.no_statements) }); procedures = (Some ((record { heading = (u.subroutine recursions.Unstated (n (codes "s") 4 12) (Some [])); body = (record { implicit_none = None; declarations = []; statements = s.no_statements }); end = (record { name = None; at = (p 5 1) }); at = (p 4 1) }) ∷ [])); end = (record { name = None; at = (p 6 1) }) }) 20 2 7 ≡ true
unfolding judged_statements
refused_20_5 = refl

-- integer :: i; i = s[@zz]; contains; subroutine s(); end subroutine; end
refused_20_6 : answers (record { name = None; uses = []; body = (record { implicit_none = None; declarations = ((record { type_spec = (s.integer None); attributes = []; entities = ((record { name = (n (codes "i") 1 12); dimensions = []; coshape = None; initial = None }) ∷ []); at = (p 1 1) }) ∷ []); statements = (s.more_statements (s.action (s.assignment (f.part_ref (n (codes "i") 2 1) f.no_section_subscripts f.no_image_selector) (f.designator (f.part_ref (n (codes "s") 2 5) f.no_section_subscripts (f.image_selector (f.more_expressions (f.designator (f.part_ref (n (codes "zz") 2 7) f.no_section_subscripts f.no_image_selector)) f.no_expressions) f.no_specifiers)))) (p 2 1)) s.no_statements) }); procedures = (Some ((record { heading = (u.subroutine recursions.Unstated (n (codes "s") 4 12) (Some [])); body = (record { implicit_none = None; declarations = []; statements = s.no_statements }); end = (record { name = None; at = (p 5 1) }); at = (p 4 1) }) ∷ [])); end = (record { name = None; at = (p 6 1) }) }) 20 2 7 ≡ true
unfolding judged_statements
refused_20_6 = refl

-- integer :: i; i = s(@zz)[yy]; contains; subroutine s(); end subroutine; end
refused_20_7 : answers (record { name = None; uses = []; body = (record { implicit_none = None; declarations = ((record { type_spec = (s.integer None); attributes = []; entities = ((record { name = (n (codes "i") 1 12); dimensions = []; coshape = None; initial = None }) ∷ []); at = (p 1 1) }) ∷ []); statements = (s.more_statements (s.action (s.assignment (f.part_ref (n (codes "i") 2 1) f.no_section_subscripts f.no_image_selector) (f.designator (f.part_ref (n (codes "s") 2 5) (f.more_section_subscripts (f.subscript (f.designator (f.part_ref (n (codes "zz") 2 7) f.no_section_subscripts f.no_image_selector))) f.no_section_subscripts) (f.image_selector (f.more_expressions (f.designator (f.part_ref (n (codes "yy") 2 11) f.no_section_subscripts f.no_image_selector)) f.no_expressions) f.no_specifiers)))) (p 2 1)) s.no_statements) }); procedures = (Some ((record { heading = (u.subroutine recursions.Unstated (n (codes "s") 4 12) (Some [])); body = (record { implicit_none = None; declarations = []; statements = s.no_statements }); end = (record { name = None; at = (p 5 1) }); at = (p 4 1) }) ∷ [])); end = (record { name = None; at = (p 6 1) }) }) 20 2 7 ≡ true
unfolding judged_statements
refused_20_7 = refl

-- integer :: i; i = @s(1); contains; subroutine s(); end subroutine; end
refused_47_1 : answers (record { name = None; uses = []; body = (record { implicit_none = None; declarations = ((record { type_spec = (s.integer None); attributes = []; entities = ((record { name = (n (codes "i") 1 12); dimensions = []; coshape = None; initial = None }) ∷ []); at = (p 1 1) }) ∷ []); statements = (s.more_statements (s.action (s.assignment (f.part_ref (n (codes "i") 2 1) f.no_section_subscripts f.no_image_selector) (f.designator (f.part_ref (n (codes "s") 2 5) (f.more_section_subscripts (f.subscript (f.number 1 kinds.Unstated (p 2 7))) f.no_section_subscripts) f.no_image_selector))) (p 2 1)) s.no_statements) }); procedures = (Some ((record { heading = (u.subroutine recursions.Unstated (n (codes "s") 4 12) (Some [])); body = (record { implicit_none = None; declarations = []; statements = s.no_statements }); end = (record { name = None; at = (p 5 1) }); at = (p 4 1) }) ∷ [])); end = (record { name = None; at = (p 6 1) }) }) 47 2 5 ≡ true
unfolding judged_statements
refused_47_1 = refl

-- f(@zz) = 1; contains; integer function f(i); integer, intent(in) :: i; f = i; end function; end
refused_20_8 : answers (record { name = None; uses = []; body = (record { implicit_none = None; declarations = []; statements = (s.more_statements (s.action (s.assignment (f.part_ref (n (codes "f") 1 1) (f.more_section_subscripts (f.subscript (f.designator (f.part_ref (n (codes "zz") 1 3) f.no_section_subscripts f.no_image_selector))) f.no_section_subscripts) f.no_image_selector) (f.number 1 kinds.Unstated (p 1 9))) (p 1 1)) s.no_statements) }); procedures = (Some ((record { heading = (u.function ((u.result_type (s.integer None)) ∷ []) (n (codes "f") 3 18) ((n (codes "i") 3 20) ∷ []) None); body = (record { implicit_none = None; declarations = ((record { type_spec = (s.integer None); attributes = ((s.intent intents.In) ∷ []); entities = ((record { name = (n (codes "i") 4 24); dimensions = []; coshape = None; initial = None }) ∷ []); at = (p 4 1) }) ∷ []); statements = (s.more_statements (s.action (s.assignment (f.part_ref (n (codes "f") 5 1) f.no_section_subscripts f.no_image_selector) (f.designator (f.part_ref (n (codes "i") 5 5) f.no_section_subscripts f.no_image_selector))) (p 5 1)) s.no_statements) }); end = (record { name = None; at = (p 6 1) }); at = (p 3 1) }) ∷ [])); end = (record { name = None; at = (p 7 1) }) }) 20 1 3 ≡ true
unfolding judged_statements
refused_20_8 = refl

-- f[@zz] = 1; contains; integer function f(i); integer, intent(in) :: i; f = i; end function; end
refused_20_9 : answers (record { name = None; uses = []; body = (record { implicit_none = None; declarations = []; statements = (s.more_statements (s.action (s.assignment (f.part_ref (n (codes "f") 1 1) f.no_section_subscripts (f.image_selector (f.more_expressions (f.designator (f.part_ref (n (codes "zz") 1 3) f.no_section_subscripts f.no_image_selector)) f.no_expressions) f.no_specifiers)) (f.number 1 kinds.Unstated (p 1 9))) (p 1 1)) s.no_statements) }); procedures = (Some ((record { heading = (u.function ((u.result_type (s.integer None)) ∷ []) (n (codes "f") 3 18) ((n (codes "i") 3 20) ∷ []) None); body = (record { implicit_none = None; declarations = ((record { type_spec = (s.integer None); attributes = ((s.intent intents.In) ∷ []); entities = ((record { name = (n (codes "i") 4 24); dimensions = []; coshape = None; initial = None }) ∷ []); at = (p 4 1) }) ∷ []); statements = (s.more_statements (s.action (s.assignment (f.part_ref (n (codes "f") 5 1) f.no_section_subscripts f.no_image_selector) (f.designator (f.part_ref (n (codes "i") 5 5) f.no_section_subscripts f.no_image_selector))) (p 5 1)) s.no_statements) }); end = (record { name = None; at = (p 6 1) }); at = (p 3 1) }) ∷ [])); end = (record { name = None; at = (p 7 1) }) }) 20 1 3 ≡ true
unfolding judged_statements
refused_20_9 = refl

-- @f[1] = 1; contains; integer function f(i); integer, intent(in) :: i; f = i; end function; end
refused_34_1 : answers (record { name = None; uses = []; body = (record { implicit_none = None; declarations = []; statements = (s.more_statements (s.action (s.assignment (f.part_ref (n (codes "f") 1 1) f.no_section_subscripts (f.image_selector (f.more_expressions (f.number 1 kinds.Unstated (p 1 3)) f.no_expressions) f.no_specifiers)) (f.number 1 kinds.Unstated (p 1 8))) (p 1 1)) s.no_statements) }); procedures = (Some ((record { heading = (u.function ((u.result_type (s.integer None)) ∷ []) (n (codes "f") 3 18) ((n (codes "i") 3 20) ∷ []) None); body = (record { implicit_none = None; declarations = ((record { type_spec = (s.integer None); attributes = ((s.intent intents.In) ∷ []); entities = ((record { name = (n (codes "i") 4 24); dimensions = []; coshape = None; initial = None }) ∷ []); at = (p 4 1) }) ∷ []); statements = (s.more_statements (s.action (s.assignment (f.part_ref (n (codes "f") 5 1) f.no_section_subscripts f.no_image_selector) (f.designator (f.part_ref (n (codes "i") 5 5) f.no_section_subscripts f.no_image_selector))) (p 5 1)) s.no_statements) }); end = (record { name = None; at = (p 6 1) }); at = (p 3 1) }) ∷ [])); end = (record { name = None; at = (p 7 1) }) }) 34 1 1 ≡ true
unfolding judged_statements
refused_34_1 = refl

-- integer :: a(@zz, 1, 1, 1); end
refused_20_10 : answers (record { name = None; uses = []; body = (record { implicit_none = None; declarations = ((record { type_spec = (s.integer None); attributes = []; entities = ((record { name = (n (codes "a") 1 12); dimensions = ((s.explicit (record { lower = None; upper = (f.designator (f.part_ref (n (codes "zz") 1 14) f.no_section_subscripts f.no_image_selector)) })) ∷ (s.explicit (record { lower = None; upper = (f.number 1 kinds.Unstated (p 1 18)) })) ∷ (s.explicit (record { lower = None; upper = (f.number 1 kinds.Unstated (p 1 21)) })) ∷ (s.explicit (record { lower = None; upper = (f.number 1 kinds.Unstated (p 1 24)) })) ∷ []); coshape = None; initial = None }) ∷ []); at = (p 1 1) }) ∷ []); statements = s.no_statements }); procedures = None; end = (record { name = None; at = (p 2 1) }) }) 20 1 14 ≡ true
unfolding judged_statements
refused_20_10 = refl

-- integer, allocatable :: a(@zz); end
refused_20_11 : answers (record { name = None; uses = []; body = (record { implicit_none = None; declarations = ((record { type_spec = (s.integer None); attributes = (s.allocatable ∷ []); entities = ((record { name = (n (codes "a") 1 25); dimensions = ((s.explicit (record { lower = None; upper = (f.designator (f.part_ref (n (codes "zz") 1 27) f.no_section_subscripts f.no_image_selector)) })) ∷ []); coshape = None; initial = None }) ∷ []); at = (p 1 1) }) ∷ []); statements = s.no_statements }); procedures = None; end = (record { name = None; at = (p 2 1) }) }) 20 1 27 ≡ true
unfolding judged_statements
refused_20_11 = refl

-- use iso_fortran_env; type(event_type) :: e(@zz); end
refused_20_12 : answers (record { name = None; uses = ((record { nature = natures.Unstated; module_name = (n (codes "iso_fortran_env") 1 5); only = None; at = (p 1 1) }) ∷ []); body = (record { implicit_none = None; declarations = ((record { type_spec = (s.derived (n (codes "event_type") 2 6)); attributes = []; entities = ((record { name = (n (codes "e") 2 21); dimensions = ((s.explicit (record { lower = None; upper = (f.designator (f.part_ref (n (codes "zz") 2 23) f.no_section_subscripts f.no_image_selector)) })) ∷ []); coshape = None; initial = None }) ∷ []); at = (p 2 1) }) ∷ []); statements = s.no_statements }); procedures = None; end = (record { name = None; at = (p 3 1) }) }) 20 2 23 ≡ true
unfolding judged_statements
refused_20_12 = refl

-- contains; subroutine s(); integer :: a(2)[@zz:*]; end subroutine; end
refused_20_13 : answers (record { name = None; uses = []; body = (record { implicit_none = None; declarations = []; statements = s.no_statements }); procedures = (Some ((record { heading = (u.subroutine recursions.Unstated (n (codes "s") 2 12) (Some [])); body = (record { implicit_none = None; declarations = ((record { type_spec = (s.integer None); attributes = []; entities = ((record { name = (n (codes "a") 3 12); dimensions = ((s.explicit (record { lower = None; upper = (f.number 2 kinds.Unstated (p 3 14)) })) ∷ []); coshape = (Some (s.explicit_coshape [] (Some (f.designator (f.part_ref (n (codes "zz") 3 17) f.no_section_subscripts f.no_image_selector))))); initial = None }) ∷ []); at = (p 3 1) }) ∷ []); statements = s.no_statements }); end = (record { name = None; at = (p 4 1) }); at = (p 2 1) }) ∷ [])); end = (record { name = None; at = (p 5 1) }) }) 20 3 17 ≡ true
unfolding judged_statements
refused_20_13 = refl

-- integer, intent(in) :: a(@zz); end
refused_20_14 : answers (record { name = None; uses = []; body = (record { implicit_none = None; declarations = ((record { type_spec = (s.integer None); attributes = ((s.intent intents.In) ∷ []); entities = ((record { name = (n (codes "a") 1 24); dimensions = ((s.explicit (record { lower = None; upper = (f.designator (f.part_ref (n (codes "zz") 1 26) f.no_section_subscripts f.no_image_selector)) })) ∷ []); coshape = None; initial = None }) ∷ []); at = (p 1 1) }) ∷ []); statements = s.no_statements }); procedures = None; end = (record { name = None; at = (p 2 1) }) }) 20 1 26 ≡ true
unfolding judged_statements
refused_20_14 = refl

-- integer :: a; integer :: a(@zz); end
refused_20_15 : answers (record { name = None; uses = []; body = (record { implicit_none = None; declarations = ((record { type_spec = (s.integer None); attributes = []; entities = ((record { name = (n (codes "a") 1 12); dimensions = []; coshape = None; initial = None }) ∷ []); at = (p 1 1) }) ∷ (record { type_spec = (s.integer None); attributes = []; entities = ((record { name = (n (codes "a") 2 12); dimensions = ((s.explicit (record { lower = None; upper = (f.designator (f.part_ref (n (codes "zz") 2 14) f.no_section_subscripts f.no_image_selector)) })) ∷ []); coshape = None; initial = None }) ∷ []); at = (p 2 1) }) ∷ []); statements = s.no_statements }); procedures = None; end = (record { name = None; at = (p 3 1) }) }) 20 2 14 ≡ true
unfolding judged_statements
refused_20_15 = refl

-- integer :: i; integer :: @a(i, 1, 1, 1); end
refused_24_1 : answers (record { name = None; uses = []; body = (record { implicit_none = None; declarations = ((record { type_spec = (s.integer None); attributes = []; entities = ((record { name = (n (codes "i") 1 12); dimensions = []; coshape = None; initial = None }) ∷ []); at = (p 1 1) }) ∷ (record { type_spec = (s.integer None); attributes = []; entities = ((record { name = (n (codes "a") 2 12); dimensions = ((s.explicit (record { lower = None; upper = (f.designator (f.part_ref (n (codes "i") 2 14) f.no_section_subscripts f.no_image_selector)) })) ∷ (s.explicit (record { lower = None; upper = (f.number 1 kinds.Unstated (p 2 17)) })) ∷ (s.explicit (record { lower = None; upper = (f.number 1 kinds.Unstated (p 2 20)) })) ∷ (s.explicit (record { lower = None; upper = (f.number 1 kinds.Unstated (p 2 23)) })) ∷ []); coshape = None; initial = None }) ∷ []); at = (p 2 1) }) ∷ []); statements = s.no_statements }); procedures = None; end = (record { name = None; at = (p 3 1) }) }) 24 2 12 ≡ true
unfolding judged_statements
refused_24_1 = refl

-- integer, parameter :: k = 1; k = @zz; end
refused_20_16 : answers (record { name = None; uses = []; body = (record { implicit_none = None; declarations = ((record { type_spec = (s.integer None); attributes = (s.parameter ∷ []); entities = ((record { name = (n (codes "k") 1 23); dimensions = []; coshape = None; initial = (Some (f.number 1 kinds.Unstated (p 1 27))) }) ∷ []); at = (p 1 1) }) ∷ []); statements = (s.more_statements (s.action (s.assignment (f.part_ref (n (codes "k") 2 1) f.no_section_subscripts f.no_image_selector) (f.designator (f.part_ref (n (codes "zz") 2 5) f.no_section_subscripts f.no_image_selector))) (p 2 1)) s.no_statements) }); procedures = None; end = (record { name = None; at = (p 3 1) }) }) 20 2 5 ≡ true
unfolding judged_statements
refused_20_16 = refl

-- integer, parameter :: k = 1; @k = .true.; end
refused_32_1 : answers (record { name = None; uses = []; body = (record { implicit_none = None; declarations = ((record { type_spec = (s.integer None); attributes = (s.parameter ∷ []); entities = ((record { name = (n (codes "k") 1 23); dimensions = []; coshape = None; initial = (Some (f.number 1 kinds.Unstated (p 1 27))) }) ∷ []); at = (p 1 1) }) ∷ []); statements = (s.more_statements (s.action (s.assignment (f.part_ref (n (codes "k") 2 1) f.no_section_subscripts f.no_image_selector) (f.logical true (p 2 5))) (p 2 1)) s.no_statements) }); procedures = None; end = (record { name = None; at = (p 3 1) }) }) 32 2 1 ≡ true
unfolding judged_statements
refused_32_1 = refl

-- logical :: l; select case (l); case (1 + @zz:); end select; end
refused_20_17 : answers (record { name = None; uses = []; body = (record { implicit_none = None; declarations = ((record { type_spec = (s.logical None); attributes = []; entities = ((record { name = (n (codes "l") 1 12); dimensions = []; coshape = None; initial = None }) ∷ []); at = (p 1 1) }) ∷ []); statements = (s.more_statements (s.case_construct (f.designator (f.part_ref (n (codes "l") 2 14) f.no_section_subscripts f.no_image_selector)) (s.more_case_blocks (s.ranges ((s.at_least (f.binary operators.Add (f.number 1 kinds.Unstated (p 3 7)) (f.designator (f.part_ref (n (codes "zz") 3 11) f.no_section_subscripts f.no_image_selector)) (p 3 7))) ∷ [])) s.no_statements (p 3 1) s.no_case_blocks) (p 2 1) (p 4 1)) s.no_statements) }); procedures = None; end = (record { name = None; at = (p 5 1) }) }) 20 3 11 ≡ true
unfolding judged_statements
refused_20_17 = refl

-- logical :: l; select case (l); case (@failed_images():); end select; end
refused_56_5 : answers (record { name = None; uses = []; body = (record { implicit_none = None; declarations = ((record { type_spec = (s.logical None); attributes = []; entities = ((record { name = (n (codes "l") 1 12); dimensions = []; coshape = None; initial = None }) ∷ []); at = (p 1 1) }) ∷ []); statements = (s.more_statements (s.case_construct (f.designator (f.part_ref (n (codes "l") 2 14) f.no_section_subscripts f.no_image_selector)) (s.more_case_blocks (s.ranges ((s.at_least (f.function_reference (n (codes "failed_images") 3 7) f.no_arguments)) ∷ [])) s.no_statements (p 3 1) s.no_case_blocks) (p 2 1) (p 4 1)) s.no_statements) }); procedures = None; end = (record { name = None; at = (p 5 1) }) }) 56 3 7 ≡ true
unfolding judged_statements
refused_56_5 = refl

-- logical :: l; select case (l); case (@:.true.); end select; end
refused_44_1 : answers (record { name = None; uses = []; body = (record { implicit_none = None; declarations = ((record { type_spec = (s.logical None); attributes = []; entities = ((record { name = (n (codes "l") 1 12); dimensions = []; coshape = None; initial = None }) ∷ []); at = (p 1 1) }) ∷ []); statements = (s.more_statements (s.case_construct (f.designator (f.part_ref (n (codes "l") 2 14) f.no_section_subscripts f.no_image_selector)) (s.more_case_blocks (s.ranges ((s.at_most (f.logical true (p 3 8)) (p 3 7)) ∷ [])) s.no_statements (p 3 1) s.no_case_blocks) (p 2 1) (p 4 1)) s.no_statements) }); procedures = None; end = (record { name = None; at = (p 5 1) }) }) 44 3 7 ≡ true
unfolding judged_statements
refused_44_1 = refl

-- integer :: i; allocate (i(@zz)); end
refused_20_18 : answers (record { name = None; uses = []; body = (record { implicit_none = None; declarations = ((record { type_spec = (s.integer None); attributes = []; entities = ((record { name = (n (codes "i") 1 12); dimensions = []; coshape = None; initial = None }) ∷ []); at = (p 1 1) }) ∷ []); statements = (s.more_statements (s.action (s.allocate ((record { name = (n (codes "i") 2 11); bounds = ((s.explicit (record { lower = None; upper = (f.designator (f.part_ref (n (codes "zz") 2 13) f.no_section_subscripts f.no_image_selector)) })) ∷ []); cobounds = None }) ∷ []) f.no_specifiers) (p 2 1)) s.no_statements) }); procedures = None; end = (record { name = None; at = (p 3 1) }) }) 20 2 13 ≡ true
unfolding judged_statements
refused_20_18 = refl

-- allocate (@s(1)); contains; subroutine s(); end subroutine; end
refused_55_1 : answers (record { name = None; uses = []; body = (record { implicit_none = None; declarations = []; statements = (s.more_statements (s.action (s.allocate ((record { name = (n (codes "s") 1 11); bounds = ((s.explicit (record { lower = None; upper = (f.number 1 kinds.Unstated (p 1 13)) })) ∷ []); cobounds = None }) ∷ []) f.no_specifiers) (p 1 1)) s.no_statements) }); procedures = (Some ((record { heading = (u.subroutine recursions.Unstated (n (codes "s") 3 12) (Some [])); body = (record { implicit_none = None; declarations = []; statements = s.no_statements }); end = (record { name = None; at = (p 4 1) }); at = (p 3 1) }) ∷ [])); end = (record { name = None; at = (p 5 1) }) }) 55 1 11 ≡ true
unfolding judged_statements
refused_55_1 = refl

-- deallocate (@s); contains; subroutine s(); end subroutine; end
refused_55_2 : answers (record { name = None; uses = []; body = (record { implicit_none = None; declarations = []; statements = (s.more_statements (s.action (s.deallocate ((n (codes "s") 1 13) ∷ []) f.no_specifiers) (p 1 1)) s.no_statements) }); procedures = (Some ((record { heading = (u.subroutine recursions.Unstated (n (codes "s") 3 12) (Some [])); body = (record { implicit_none = None; declarations = []; statements = s.no_statements }); end = (record { name = None; at = (p 4 1) }); at = (p 3 1) }) ∷ [])); end = (record { name = None; at = (p 5 1) }) }) 55 1 13 ≡ true
unfolding judged_statements
refused_55_2 = refl

-- call @s(.true.); contains; subroutine s(a, b); integer, intent(in) :: a, b; end subroutine; end
refused_45_1 : answers (record { name = None; uses = []; body = (record { implicit_none = None; declarations = []; statements = (s.more_statements (s.action (s.call (n (codes "s") 1 6) (Some (f.more_arguments None (f.logical true (p 1 8)) f.no_arguments))) (p 1 1)) s.no_statements) }); procedures = (Some ((record { heading = (u.subroutine recursions.Unstated (n (codes "s") 3 12) (Some ((n (codes "a") 3 14) ∷ (n (codes "b") 3 17) ∷ []))); body = (record { implicit_none = None; declarations = ((record { type_spec = (s.integer None); attributes = ((s.intent intents.In) ∷ []); entities = ((record { name = (n (codes "a") 4 24); dimensions = []; coshape = None; initial = None }) ∷ (record { name = (n (codes "b") 4 27); dimensions = []; coshape = None; initial = None }) ∷ []); at = (p 4 1) }) ∷ []); statements = s.no_statements }); end = (record { name = None; at = (p 5 1) }); at = (p 3 1) }) ∷ [])); end = (record { name = None; at = (p 6 1) }) }) 45 1 6 ≡ true
unfolding judged_statements
refused_45_1 = refl

-- call s(@zz); contains; subroutine s(a, b); integer, intent(in) :: a, b; end subroutine; end
refused_20_19 : answers (record { name = None; uses = []; body = (record { implicit_none = None; declarations = []; statements = (s.more_statements (s.action (s.call (n (codes "s") 1 6) (Some (f.more_arguments None (f.designator (f.part_ref (n (codes "zz") 1 8) f.no_section_subscripts f.no_image_selector)) f.no_arguments))) (p 1 1)) s.no_statements) }); procedures = (Some ((record { heading = (u.subroutine recursions.Unstated (n (codes "s") 3 12) (Some ((n (codes "a") 3 14) ∷ (n (codes "b") 3 17) ∷ []))); body = (record { implicit_none = None; declarations = ((record { type_spec = (s.integer None); attributes = ((s.intent intents.In) ∷ []); entities = ((record { name = (n (codes "a") 4 24); dimensions = []; coshape = None; initial = None }) ∷ (record { name = (n (codes "b") 4 27); dimensions = []; coshape = None; initial = None }) ∷ []); at = (p 4 1) }) ∷ []); statements = s.no_statements }); end = (record { name = None; at = (p 5 1) }); at = (p 3 1) }) ∷ [])); end = (record { name = None; at = (p 6 1) }) }) 20 1 8 ≡ true
unfolding judged_statements
refused_20_19 = refl

-- integer :: v(2); call s(@v); contains; subroutine s(x); integer(kind=3) :: x; end subroutine; end
refused_45_2 : answers (record { name = None; uses = []; body = (record { implicit_none = None; declarations = ((record { type_spec = (s.integer None); attributes = []; entities = ((record { name = (n (codes "v") 1 12); dimensions = ((s.explicit (record { lower = None; upper = (f.number 2 kinds.Unstated (p 1 14)) })) ∷ []); coshape = None; initial = None }) ∷ []); at = (p 1 1) }) ∷ []); statements = (s.more_statements (s.action (s.call (n (codes "s") 2 6) (Some (f.more_arguments None (f.designator (f.part_ref (n (codes "v") 2 8) f.no_section_subscripts f.no_image_selector)) f.no_arguments))) (p 2 1)) s.no_statements) }); procedures = (Some ((record { heading = (u.subroutine recursions.Unstated (n (codes "s") 4 12) (Some ((n (codes "x") 4 14) ∷ []))); body = (record { implicit_none = None; declarations = ((record { type_spec = (s.integer (Some (f.number 3 kinds.Unstated (p 5 14)))); attributes = []; entities = ((record { name = (n (codes "x") 5 20); dimensions = []; coshape = None; initial = None }) ∷ []); at = (p 5 1) }) ∷ []); statements = s.no_statements }); end = (record { name = None; at = (p 6 1) }); at = (p 4 1) }) ∷ [])); end = (record { name = None; at = (p 7 1) }) }) 45 2 8 ≡ true
unfolding judged_statements
refused_45_2 = refl

-- integer :: v; call s(v); contains; subroutine s(x); integer(kind=@3) :: x; end subroutine; end
refused_23_1 : answers (record { name = None; uses = []; body = (record { implicit_none = None; declarations = ((record { type_spec = (s.integer None); attributes = []; entities = ((record { name = (n (codes "v") 1 12); dimensions = []; coshape = None; initial = None }) ∷ []); at = (p 1 1) }) ∷ []); statements = (s.more_statements (s.action (s.call (n (codes "s") 2 6) (Some (f.more_arguments None (f.designator (f.part_ref (n (codes "v") 2 8) f.no_section_subscripts f.no_image_selector)) f.no_arguments))) (p 2 1)) s.no_statements) }); procedures = (Some ((record { heading = (u.subroutine recursions.Unstated (n (codes "s") 4 12) (Some ((n (codes "x") 4 14) ∷ []))); body = (record { implicit_none = None; declarations = ((record { type_spec = (s.integer (Some (f.number 3 kinds.Unstated (p 5 14)))); attributes = []; entities = ((record { name = (n (codes "x") 5 20); dimensions = []; coshape = None; initial = None }) ∷ []); at = (p 5 1) }) ∷ []); statements = s.no_statements }); end = (record { name = None; at = (p 6 1) }); at = (p 4 1) }) ∷ [])); end = (record { name = None; at = (p 7 1) }) }) 23 5 14 ≡ true
unfolding judged_statements
refused_23_1 = refl

-- integer :: v(2); call s(v); contains; subroutine s(@x); end subroutine; end
refused_29_1 : answers (record { name = None; uses = []; body = (record { implicit_none = None; declarations = ((record { type_spec = (s.integer None); attributes = []; entities = ((record { name = (n (codes "v") 1 12); dimensions = ((s.explicit (record { lower = None; upper = (f.number 2 kinds.Unstated (p 1 14)) })) ∷ []); coshape = None; initial = None }) ∷ []); at = (p 1 1) }) ∷ []); statements = (s.more_statements (s.action (s.call (n (codes "s") 2 6) (Some (f.more_arguments None (f.designator (f.part_ref (n (codes "v") 2 8) f.no_section_subscripts f.no_image_selector)) f.no_arguments))) (p 2 1)) s.no_statements) }); procedures = (Some ((record { heading = (u.subroutine recursions.Unstated (n (codes "s") 4 12) (Some ((n (codes "x") 4 14) ∷ []))); body = (record { implicit_none = None; declarations = []; statements = s.no_statements }); end = (record { name = None; at = (p 5 1) }); at = (p 4 1) }) ∷ [])); end = (record { name = None; at = (p 6 1) }) }) 29 4 14 ≡ true
unfolding judged_statements
refused_29_1 = refl

-- integer :: a(@f()); contains; integer function f(i); integer, intent(in) :: i; f = i; end function; end
refused_45_3 : answers (record { name = None; uses = []; body = (record { implicit_none = None; declarations = ((record { type_spec = (s.integer None); attributes = []; entities = ((record { name = (n (codes "a") 1 12); dimensions = ((s.explicit (record { lower = None; upper = (f.function_reference (n (codes "f") 1 14) f.no_arguments) })) ∷ []); coshape = None; initial = None }) ∷ []); at = (p 1 1) }) ∷ []); statements = s.no_statements }); procedures = (Some ((record { heading = (u.function ((u.result_type (s.integer None)) ∷ []) (n (codes "f") 3 18) ((n (codes "i") 3 20) ∷ []) None); body = (record { implicit_none = None; declarations = ((record { type_spec = (s.integer None); attributes = ((s.intent intents.In) ∷ []); entities = ((record { name = (n (codes "i") 4 24); dimensions = []; coshape = None; initial = None }) ∷ []); at = (p 4 1) }) ∷ []); statements = (s.more_statements (s.action (s.assignment (f.part_ref (n (codes "f") 5 1) f.no_section_subscripts f.no_image_selector) (f.designator (f.part_ref (n (codes "i") 5 5) f.no_section_subscripts f.no_image_selector))) (p 5 1)) s.no_statements) }); end = (record { name = None; at = (p 6 1) }); at = (p 3 1) }) ∷ [])); end = (record { name = None; at = (p 7 1) }) }) 45 1 14 ≡ true
unfolding judged_statements
refused_45_3 = refl

-- integer :: a(f(1, @2)); contains; integer function f(i); integer, intent(in) :: i; f = i; end function; end
refused_45_4 : answers (record { name = None; uses = []; body = (record { implicit_none = None; declarations = ((record { type_spec = (s.integer None); attributes = []; entities = ((record { name = (n (codes "a") 1 12); dimensions = ((s.explicit (record { lower = None; upper = (f.designator (f.part_ref (n (codes "f") 1 14) (f.more_section_subscripts (f.subscript (f.number 1 kinds.Unstated (p 1 16))) (f.more_section_subscripts (f.subscript (f.number 2 kinds.Unstated (p 1 19))) f.no_section_subscripts)) f.no_image_selector)) })) ∷ []); coshape = None; initial = None }) ∷ []); at = (p 1 1) }) ∷ []); statements = s.no_statements }); procedures = (Some ((record { heading = (u.function ((u.result_type (s.integer None)) ∷ []) (n (codes "f") 3 18) ((n (codes "i") 3 20) ∷ []) None); body = (record { implicit_none = None; declarations = ((record { type_spec = (s.integer None); attributes = ((s.intent intents.In) ∷ []); entities = ((record { name = (n (codes "i") 4 24); dimensions = []; coshape = None; initial = None }) ∷ []); at = (p 4 1) }) ∷ []); statements = (s.more_statements (s.action (s.assignment (f.part_ref (n (codes "f") 5 1) f.no_section_subscripts f.no_image_selector) (f.designator (f.part_ref (n (codes "i") 5 5) f.no_section_subscripts f.no_image_selector))) (p 5 1)) s.no_statements) }); end = (record { name = None; at = (p 6 1) }); at = (p 3 1) }) ∷ [])); end = (record { name = None; at = (p 7 1) }) }) 45 1 19 ≡ true
unfolding judged_statements
refused_45_4 = refl

-- integer :: a(.not. @f(1)); contains; integer function f(i); integer, intent(in) :: i; f = i; end function; end
refused_31_2 : answers (record { name = None; uses = []; body = (record { implicit_none = None; declarations = ((record { type_spec = (s.integer None); attributes = []; entities = ((record { name = (n (codes "a") 1 12); dimensions = ((s.explicit (record { lower = None; upper = (f.prefix prefixes.Not (f.designator (f.part_ref (n (codes "f") 1 20) (f.more_section_subscripts (f.subscript (f.number 1 kinds.Unstated (p 1 22))) f.no_section_subscripts) f.no_image_selector)) (p 1 14)) })) ∷ []); coshape = None; initial = None }) ∷ []); at = (p 1 1) }) ∷ []); statements = s.no_statements }); procedures = (Some ((record { heading = (u.function ((u.result_type (s.integer None)) ∷ []) (n (codes "f") 3 18) ((n (codes "i") 3 20) ∷ []) None); body = (record { implicit_none = None; declarations = ((record { type_spec = (s.integer None); attributes = ((s.intent intents.In) ∷ []); entities = ((record { name = (n (codes "i") 4 24); dimensions = []; coshape = None; initial = None }) ∷ []); at = (p 4 1) }) ∷ []); statements = (s.more_statements (s.action (s.assignment (f.part_ref (n (codes "f") 5 1) f.no_section_subscripts f.no_image_selector) (f.designator (f.part_ref (n (codes "i") 5 5) f.no_section_subscripts f.no_image_selector))) (p 5 1)) s.no_statements) }); end = (record { name = None; at = (p 6 1) }); at = (p 3 1) }) ∷ [])); end = (record { name = None; at = (p 7 1) }) }) 31 1 20 ≡ true
unfolding judged_statements
refused_31_2 = refl

-- integer :: a(@f(1)); contains; integer function f(i); integer, intent(in) :: i; f = i; end function; end
refused_25_1 : answers (record { name = None; uses = []; body = (record { implicit_none = None; declarations = ((record { type_spec = (s.integer None); attributes = []; entities = ((record { name = (n (codes "a") 1 12); dimensions = ((s.explicit (record { lower = None; upper = (f.designator (f.part_ref (n (codes "f") 1 14) (f.more_section_subscripts (f.subscript (f.number 1 kinds.Unstated (p 1 16))) f.no_section_subscripts) f.no_image_selector)) })) ∷ []); coshape = None; initial = None }) ∷ []); at = (p 1 1) }) ∷ []); statements = s.no_statements }); procedures = (Some ((record { heading = (u.function ((u.result_type (s.integer None)) ∷ []) (n (codes "f") 3 18) ((n (codes "i") 3 20) ∷ []) None); body = (record { implicit_none = None; declarations = ((record { type_spec = (s.integer None); attributes = ((s.intent intents.In) ∷ []); entities = ((record { name = (n (codes "i") 4 24); dimensions = []; coshape = None; initial = None }) ∷ []); at = (p 4 1) }) ∷ []); statements = (s.more_statements (s.action (s.assignment (f.part_ref (n (codes "f") 5 1) f.no_section_subscripts f.no_image_selector) (f.designator (f.part_ref (n (codes "i") 5 5) f.no_section_subscripts f.no_image_selector))) (p 5 1)) s.no_statements) }); end = (record { name = None; at = (p 6 1) }); at = (p 3 1) }) ∷ [])); end = (record { name = None; at = (p 7 1) }) }) 25 1 14 ≡ true
unfolding judged_statements
refused_25_1 = refl

-- contains; subroutine s(); integer :: a(f(@.true.)); end subroutine; integer function f(i); integer, intent(in) :: i;
-- f = i; end function; end
refused_45_5 : answers (record { name = None; uses = []; body = (record { implicit_none = None; declarations = []; statements = s.no_statements }); procedures = (Some ((record { heading = (u.subroutine recursions.Unstated (n (codes "s") 2 12) (Some [])); body = (record { implicit_none = None; declarations = ((record { type_spec = (s.integer None); attributes = []; entities = ((record { name = (n (codes "a") 3 12); dimensions = ((s.explicit (record { lower = None; upper = (f.designator (f.part_ref (n (codes "f") 3 14) (f.more_section_subscripts (f.subscript (f.logical true (p 3 16))) f.no_section_subscripts) f.no_image_selector)) })) ∷ []); coshape = None; initial = None }) ∷ []); at = (p 3 1) }) ∷ []); statements = s.no_statements }); end = (record { name = None; at = (p 4 1) }); at = (p 2 1) }) ∷ (record { heading = (u.function ((u.result_type (s.integer None)) ∷ []) (n (codes "f") 5 18) ((n (codes "i") 5 20) ∷ []) None); body = (record { implicit_none = None; declarations = ((record { type_spec = (s.integer None); attributes = ((s.intent intents.In) ∷ []); entities = ((record { name = (n (codes "i") 6 24); dimensions = []; coshape = None; initial = None }) ∷ []); at = (p 6 1) }) ∷ []); statements = (s.more_statements (s.action (s.assignment (f.part_ref (n (codes "f") 7 1) f.no_section_subscripts f.no_image_selector) (f.designator (f.part_ref (n (codes "i") 7 5) f.no_section_subscripts f.no_image_selector))) (p 7 1)) s.no_statements) }); end = (record { name = None; at = (p 8 1) }); at = (p 5 1) }) ∷ [])); end = (record { name = None; at = (p 9 1) }) }) 45 3 16 ≡ true
unfolding judged_statements
refused_45_5 = refl

-- integer(@f()) :: i; contains; integer function f(i); integer, intent(in) :: i; f = i; end function; end
refused_45_6 : answers (record { name = None; uses = []; body = (record { implicit_none = None; declarations = ((record { type_spec = (s.integer (Some (f.function_reference (n (codes "f") 1 9) f.no_arguments))); attributes = []; entities = ((record { name = (n (codes "i") 1 17); dimensions = []; coshape = None; initial = None }) ∷ []); at = (p 1 1) }) ∷ []); statements = s.no_statements }); procedures = (Some ((record { heading = (u.function ((u.result_type (s.integer None)) ∷ []) (n (codes "f") 3 18) ((n (codes "i") 3 20) ∷ []) None); body = (record { implicit_none = None; declarations = ((record { type_spec = (s.integer None); attributes = ((s.intent intents.In) ∷ []); entities = ((record { name = (n (codes "i") 4 24); dimensions = []; coshape = None; initial = None }) ∷ []); at = (p 4 1) }) ∷ []); statements = (s.more_statements (s.action (s.assignment (f.part_ref (n (codes "f") 5 1) f.no_section_subscripts f.no_image_selector) (f.designator (f.part_ref (n (codes "i") 5 5) f.no_section_subscripts f.no_image_selector))) (p 5 1)) s.no_statements) }); end = (record { name = None; at = (p 6 1) }); at = (p 3 1) }) ∷ [])); end = (record { name = None; at = (p 7 1) }) }) 45 1 9 ≡ true
unfolding judged_statements
refused_45_6 = refl

-- integer :: i; integer, parameter :: k = @huge(i + 1); end
refused_22_1 : answers (record { name = None; uses = []; body = (record { implicit_none = None; declarations = ((record { type_spec = (s.integer None); attributes = []; entities = ((record { name = (n (codes "i") 1 12); dimensions = []; coshape = None; initial = None }) ∷ []); at = (p 1 1) }) ∷ (record { type_spec = (s.integer None); attributes = (s.parameter ∷ []); entities = ((record { name = (n (codes "k") 2 23); dimensions = []; coshape = None; initial = (Some (f.designator (f.part_ref (n (codes "huge") 2 27) (f.more_section_subscripts (f.subscript (f.binary operators.Add (f.designator (f.part_ref (n (codes "i") 2 32) f.no_section_subscripts f.no_image_selector)) (f.number 1 kinds.Unstated (p 2 36)) (p 2 32))) f.no_section_subscripts) f.no_image_selector))) }) ∷ []); at = (p 2 1) }) ∷ []); statements = s.no_statements }); procedures = None; end = (record { name = None; at = (p 3 1) }) }) 22 2 27 ≡ true
unfolding judged_statements
refused_22_1 = refl

-- integer :: i; integer, parameter :: k = @huge(x=(i)) - 1; end
refused_22_2 : answers (record { name = None; uses = []; body = (record { implicit_none = None; declarations = ((record { type_spec = (s.integer None); attributes = []; entities = ((record { name = (n (codes "i") 1 12); dimensions = []; coshape = None; initial = None }) ∷ []); at = (p 1 1) }) ∷ (record { type_spec = (s.integer None); attributes = (s.parameter ∷ []); entities = ((record { name = (n (codes "k") 2 23); dimensions = []; coshape = None; initial = (Some (f.binary operators.Subtract (f.function_reference (n (codes "huge") 2 27) (f.more_arguments (Some (n (codes "x") 2 32)) (f.parenthesized (f.designator (f.part_ref (n (codes "i") 2 35) f.no_section_subscripts f.no_image_selector)) (p 2 34)) f.no_arguments)) (f.number 1 kinds.Unstated (p 2 41)) (p 2 27))) }) ∷ []); at = (p 2 1) }) ∷ []); statements = s.no_statements }); procedures = None; end = (record { name = None; at = (p 3 1) }) }) 22 2 27 ≡ true
unfolding judged_statements
refused_22_2 = refl

-- integer :: i; integer :: a(@huge(i + 1) - 2147483640); end
refused_25_2 : answers (record { name = None; uses = []; body = (record { implicit_none = None; declarations = ((record { type_spec = (s.integer None); attributes = []; entities = ((record { name = (n (codes "i") 1 12); dimensions = []; coshape = None; initial = None }) ∷ []); at = (p 1 1) }) ∷ (record { type_spec = (s.integer None); attributes = []; entities = ((record { name = (n (codes "a") 2 12); dimensions = ((s.explicit (record { lower = None; upper = (f.binary operators.Subtract (f.designator (f.part_ref (n (codes "huge") 2 14) (f.more_section_subscripts (f.subscript (f.binary operators.Add (f.designator (f.part_ref (n (codes "i") 2 19) f.no_section_subscripts f.no_image_selector)) (f.number 1 kinds.Unstated (p 2 23)) (p 2 19))) f.no_section_subscripts) f.no_image_selector)) (f.number 2147483640 kinds.Unstated (p 2 28)) (p 2 14)) })) ∷ []); coshape = None; initial = None }) ∷ []); at = (p 2 1) }) ∷ []); statements = s.no_statements }); procedures = None; end = (record { name = None; at = (p 3 1) }) }) 25 2 14 ≡ true
unfolding judged_statements
refused_25_2 = refl

-- integer :: i; integer, parameter :: c(2) = [1, 2]; integer, parameter :: k = @huge(c(i)); end
refused_22_3 : answers (record { name = None; uses = []; body = (record { implicit_none = None; declarations = ((record { type_spec = (s.integer None); attributes = []; entities = ((record { name = (n (codes "i") 1 12); dimensions = []; coshape = None; initial = None }) ∷ []); at = (p 1 1) }) ∷ (record { type_spec = (s.integer None); attributes = (s.parameter ∷ []); entities = ((record { name = (n (codes "c") 2 23); dimensions = ((s.explicit (record { lower = None; upper = (f.number 2 kinds.Unstated (p 2 25)) })) ∷ []); coshape = None; initial = (Some (f.array_constructor (f.more_expressions (f.number 1 kinds.Unstated (p 2 31)) (f.more_expressions (f.number 2 kinds.Unstated (p 2 34)) f.no_expressions)) (p 2 30))) }) ∷ []); at = (p 2 1) }) ∷ (record { type_spec = (s.integer None); attributes = (s.parameter ∷ []); entities = ((record { name = (n (codes "k") 3 23); dimensions = []; coshape = None; initial = (Some (f.designator (f.part_ref (n (codes "huge") 3 27) (f.more_section_subscripts (f.subscript (f.designator (f.part_ref (n (codes "c") 3 32) (f.more_section_subscripts (f.subscript (f.designator (f.part_ref (n (codes "i") 3 34) f.no_section_subscripts f.no_image_selector))) f.no_section_subscripts) f.no_image_selector))) f.no_section_subscripts) f.no_image_selector))) }) ∷ []); at = (p 3 1) }) ∷ []); statements = s.no_statements }); procedures = None; end = (record { name = None; at = (p 4 1) }) }) 22 3 27 ≡ true
unfolding judged_statements
refused_22_3 = refl

-- select case (1); case (@huge(f(1))); end select; contains; integer function f(i); integer, intent(in) :: i; f = i;
-- end function; end
refused_44_2 : answers (record { name = None; uses = []; body = (record { implicit_none = None; declarations = []; statements = (s.more_statements (s.case_construct (f.number 1 kinds.Unstated (p 1 14)) (s.more_case_blocks (s.ranges ((s.single (f.designator (f.part_ref (n (codes "huge") 2 7) (f.more_section_subscripts (f.subscript (f.designator (f.part_ref (n (codes "f") 2 12) (f.more_section_subscripts (f.subscript (f.number 1 kinds.Unstated (p 2 14))) f.no_section_subscripts) f.no_image_selector))) f.no_section_subscripts) f.no_image_selector))) ∷ [])) s.no_statements (p 2 1) s.no_case_blocks) (p 1 1) (p 3 1)) s.no_statements) }); procedures = (Some ((record { heading = (u.function ((u.result_type (s.integer None)) ∷ []) (n (codes "f") 5 18) ((n (codes "i") 5 20) ∷ []) None); body = (record { implicit_none = None; declarations = ((record { type_spec = (s.integer None); attributes = ((s.intent intents.In) ∷ []); entities = ((record { name = (n (codes "i") 6 24); dimensions = []; coshape = None; initial = None }) ∷ []); at = (p 6 1) }) ∷ []); statements = (s.more_statements (s.action (s.assignment (f.part_ref (n (codes "f") 7 1) f.no_section_subscripts f.no_image_selector) (f.designator (f.part_ref (n (codes "i") 7 5) f.no_section_subscripts f.no_image_selector))) (p 7 1)) s.no_statements) }); end = (record { name = None; at = (p 8 1) }); at = (p 5 1) }) ∷ [])); end = (record { name = None; at = (p 9 1) }) }) 44 2 7 ≡ true
unfolding judged_statements
refused_44_2 = refl

-- integer :: a(@zz), b(huge(zz + 1)); end
refused_20_20 : answers (record { name = None; uses = []; body = (record { implicit_none = None; declarations = ((record { type_spec = (s.integer None); attributes = []; entities = ((record { name = (n (codes "a") 1 12); dimensions = ((s.explicit (record { lower = None; upper = (f.designator (f.part_ref (n (codes "zz") 1 14) f.no_section_subscripts f.no_image_selector)) })) ∷ []); coshape = None; initial = None }) ∷ (record { name = (n (codes "b") 1 19); dimensions = ((s.explicit (record { lower = None; upper = (f.designator (f.part_ref (n (codes "huge") 1 21) (f.more_section_subscripts (f.subscript (f.binary operators.Add (f.designator (f.part_ref (n (codes "zz") 1 26) f.no_section_subscripts f.no_image_selector)) (f.number 1 kinds.Unstated (p 1 31)) (p 1 26))) f.no_section_subscripts) f.no_image_selector)) })) ∷ []); coshape = None; initial = None }) ∷ []); at = (p 1 1) }) ∷ []); statements = s.no_statements }); procedures = None; end = (record { name = None; at = (p 2 1) }) }) 20 1 14 ≡ true
unfolding judged_statements
refused_20_20 = refl

-- integer :: i, a(2); integer, parameter :: c(2) = [1, 2]; integer, parameter :: k = huge(i) - huge(x=a(i)) + huge(c) -
-- huge(c(1) + 1); select case (k); case (huge(a)); end select; end
accepted_1 : accepted (record { name = None; uses = []; body = (record { implicit_none = None; declarations = ((record { type_spec = (s.integer None); attributes = []; entities = ((record { name = (n (codes "i") 1 12); dimensions = []; coshape = None; initial = None }) ∷ (record { name = (n (codes "a") 1 15); dimensions = ((s.explicit (record { lower = None; upper = (f.number 2 kinds.Unstated (p 1 17)) })) ∷ []); coshape = None; initial = None }) ∷ []); at = (p 1 1) }) ∷ (record { type_spec = (s.integer None); attributes = (s.parameter ∷ []); entities = ((record { name = (n (codes "c") 2 23); dimensions = ((s.explicit (record { lower = None; upper = (f.number 2 kinds.Unstated (p 2 25)) })) ∷ []); coshape = None; initial = (Some (f.array_constructor (f.more_expressions (f.number 1 kinds.Unstated (p 2 31)) (f.more_expressions (f.number 2 kinds.Unstated (p 2 34)) f.no_expressions)) (p 2 30))) }) ∷ []); at = (p 2 1) }) ∷ (record { type_spec = (s.integer None); attributes = (s.parameter ∷ []); entities = ((record { name = (n (codes "k") 3 23); dimensions = []; coshape = None; initial = (Some (f.binary operators.Subtract (f.binary operators.Add (f.binary operators.Subtract (f.designator (f.part_ref (n (codes "huge") 3 27) (f.more_section_subscripts (f.subscript (f.designator (f.part_ref (n (codes "i") 3 32) f.no_section_subscripts f.no_image_selector))) f.no_section_subscripts) f.no_image_selector)) (f.function_reference (n (codes "huge") 3 37) (f.more_arguments (Some (n (codes "x") 3 42)) (f.designator (f.part_ref (n (codes "a") 3 44) (f.more_section_subscripts (f.subscript (f.designator (f.part_ref (n (codes "i") 3 46) f.no_section_subscripts f.no_image_selector))) f.no_section_subscripts) f.no_image_selector)) f.no_arguments)) (p 3 27)) (f.designator (f.part_ref (n (codes "huge") 3 52) (f.more_section_subscripts (f.subscript (f.designator (f.part_ref (n (codes "c") 3 57) f.no_section_subscripts f.no_image_selector))) f.no_section_subscripts) f.no_image_selector)) (p 3 27)) (f.designator (f.part_ref (n (codes "huge") 3 62) (f.more_section_subscripts (f.subscript (f.binary operators.Add (f.designator (f.part_ref (n (codes "c") 3 67) (f.more_section_subscripts (f.subscript (f.number 1 kinds.Unstated (p 3 69))) f.no_section_subscripts) f.no_image_selector)) (f.number 1 kinds.Unstated (p 3 74)) (p 3 67))) f.no_section_subscripts) f.no_image_selector)) (p 3 27))) }) ∷ []); at = (p 3 1) }) ∷ []); statements = (s.more_statements (s.case_construct (f.designator (f.part_ref (n (codes "k") 4 14) f.no_section_subscripts f.no_image_selector)) (s.more_case_blocks (s.ranges ((s.single (f.designator (f.part_ref (n (codes "huge") 5 7) (f.more_section_subscripts (f.subscript (f.designator (f.part_ref (n (codes "a") 5 12) f.no_section_subscripts f.no_image_selector))) f.no_section_subscripts) f.no_image_selector))) ∷ [])) s.no_statements (p 5 1) s.no_case_blocks) (p 4 1) (p 6 1)) s.no_statements) }); procedures = None; end = (record { name = None; at = (p 7 1) }) }) ≡ true
unfolding judged_statements
accepted_1 = refl
