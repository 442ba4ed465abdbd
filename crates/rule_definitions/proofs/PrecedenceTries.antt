-- Sources in which two rules are broken, at one place or in a part and in the form around it; `@` in a remark stands
-- before the place that is told.
use Rattle.std.proofs.Common.{◌≡◌, true, [], ◌∷◌, refl, codes, Some, None}
use Rattle.fortran_tree.specs.declared.expr.NumberKind.TheVariants as kinds
use Rattle.fortran_tree.specs.declared.expr.Operator.TheVariants as operators
use Rattle.fortran_tree.specs.declared.declaration.Intent.TheVariants as intents
use Rattle.fortran_tree.specs.declared.unit.ModuleNature.TheVariants as natures
use Rattle.fortran_tree.specs.declared.unit.Recursion.TheVariants as recursions
use Rattle.fortran_tree.specs.Expressions as f
use Rattle.fortran_tree.specs.Statements as s
use Rattle.fortran_tree.specs.Units as u
use Rattle.rule_definitions.proofs.Trees.{p, n, answers}
use Rattle.rule_definitions.specs.Statements.{judged_statements}

-- integer, dimension(@zz), dimension(3) :: a; end
refused_20_1 : answers (record { name = None; uses = []; body = (record { implicit_none = None; declarations = ((record { type_spec = (s.integer None); attributes = ((s.dimension ((s.explicit (record { lower = None; upper = (f.designator (f.part_ref (n (codes "zz") 1 20) f.no_section_subscripts f.no_image_selector)) })) ∷ [])) ∷ (s.dimension ((s.explicit (record { lower = None; upper = (f.number 3 kinds.Unstated (p 1 35)) })) ∷ [])) ∷ []); entities = ((record { name = (n (codes "a") 1 41); dimensions = []; coshape = None; initial = None }) ∷ []); at = (p 1 1) }) ∷ []); statements = s.no_statements }); procedures = None; end = (record { name = None; at = (p 2 1) }) }) 20 1 20 ≡ true
unfolding judged_statements
refused_20_1 = refl

-- integer :: a(3); print *, a(@zz, 1); end
refused_20_2 : answers (record { name = None; uses = []; body = (record { implicit_none = None; declarations = ((record { type_spec = (s.integer None); attributes = []; entities = ((record { name = (n (codes "a") 1 12); dimensions = ((s.explicit (record { lower = None; upper = (f.number 3 kinds.Unstated (p 1 14)) })) ∷ []); coshape = None; initial = None }) ∷ []); at = (p 1 1) }) ∷ []); statements = (s.more_statements (s.action (s.print s.free ((s.value (f.designator (f.part_ref (n (codes "a") 2 10) (f.more_section_subscripts (f.subscript (f.designator (f.part_ref (n (codes "zz") 2 12) f.no_section_subscripts f.no_image_selector))) (f.more_section_subscripts (f.subscript (f.number 1 kinds.Unstated (p 2 16))) f.no_section_subscripts)) f.no_image_selector))) ∷ [])) (p 2 1)) s.no_statements) }); procedures = None; end = (record { name = None; at = (p 3 1) }) }) 20 2 12 ≡ true
unfolding judged_statements
refused_20_2 = refl

-- integer :: a(3); a(@zz, 1) = .true.; end
refused_20_3 : answers (record { name = None; uses = []; body = (record { implicit_none = None; declarations = ((record { type_spec = (s.integer None); attributes = []; entities = ((record { name = (n (codes "a") 1 12); dimensions = ((s.explicit (record { lower = None; upper = (f.number 3 kinds.Unstated (p 1 14)) })) ∷ []); coshape = None; initial = None }) ∷ []); at = (p 1 1) }) ∷ []); statements = (s.more_statements (s.action (s.assignment (f.part_ref (n (codes "a") 2 1) (f.more_section_subscripts (f.subscript (f.designator (f.part_ref (n (codes "zz") 2 3) f.no_section_subscripts f.no_image_selector))) (f.more_section_subscripts (f.subscript (f.number 1 kinds.Unstated (p 2 7))) f.no_section_subscripts)) f.no_image_selector) (f.logical true (p 2 12))) (p 2 1)) s.no_statements) }); procedures = None; end = (record { name = None; at = (p 3 1) }) }) 20 2 3 ≡ true
unfolding judged_statements
refused_20_3 = refl

-- integer :: a; print *, a(1)[@zz]; end
refused_20_4 : answers (record { name = None; uses = []; body = (record { implicit_none = None; declarations = ((record { type_spec = (s.integer None); attributes = []; entities = ((record { name = (n (codes "a") 1 12); dimensions = []; coshape = None; initial = None }) ∷ []); at = (p 1 1) }) ∷ []); statements = (s.more_statements (s.action (s.print s.free ((s.value (f.designator (f.part_ref (n (codes "a") 2 10) (f.more_section_subscripts (f.subscript (f.number 1 kinds.Unstated (p 2 12))) f.no_section_subscripts) (f.image_selector (f.more_expressions (f.designator (f.part_ref (n (codes "zz") 2 15) f.no_section_subscripts f.no_image_selector)) f.no_expressions) f.no_specifiers)))) ∷ [])) (p 2 1)) s.no_statements) }); procedures = None; end = (record { name = None; at = (p 3 1) }) }) 20 2 15 ≡ true
unfolding judged_statements
refused_20_4 = refl

-- call s(@zz); contains; subroutine s(a, b); integer :: a, b; end subroutine; end
refused_20_5 : answers (record { name = None; uses = []; body = (record { implicit_none = None; declarations = []; statements = (s.more_statements (s.action (s.call (n (codes "s") 1 6) (Some (f.more_arguments None (f.designator (f.part_ref (n (codes "zz") 1 8) f.no_section_subscripts f.no_image_selector)) f.no_arguments))) (p 1 1)) s.no_statements) }); procedures = (Some ((record { heading = (u.subroutine recursions.Unstated (n (codes "s") 3 12) (Some ((n (codes "a") 3 14) ∷ (n (codes "b") 3 17) ∷ []))); body = (record { implicit_none = None; declarations = ((record { type_spec = (s.integer None); attributes = []; entities = ((record { name = (n (codes "a") 4 12); dimensions = []; coshape = None; initial = None }) ∷ (record { name = (n (codes "b") 4 15); dimensions = []; coshape = None; initial = None }) ∷ []); at = (p 4 1) }) ∷ []); statements = s.no_statements }); end = (record { name = None; at = (p 5 1) }); at = (p 3 1) }) ∷ [])); end = (record { name = None; at = (p 6 1) }) }) 20 1 8 ≡ true
unfolding judged_statements
refused_20_5 = refl

-- call s(k=@zz); contains; subroutine s(a); integer, intent(in) :: a; end subroutine; end
refused_20_6 : answers (record { name = None; uses = []; body = (record { implicit_none = None; declarations = []; statements = (s.more_statements (s.action (s.call (n (codes "s") 1 6) (Some (f.more_arguments (Some (n (codes "k") 1 8)) (f.designator (f.part_ref (n (codes "zz") 1 10) f.no_section_subscripts f.no_image_selector)) f.no_arguments))) (p 1 1)) s.no_statements) }); procedures = (Some ((record { heading = (u.subroutine recursions.Unstated (n (codes "s") 3 12) (Some ((n (codes "a") 3 14) ∷ []))); body = (record { implicit_none = None; declarations = ((record { type_spec = (s.integer None); attributes = ((s.intent intents.In) ∷ []); entities = ((record { name = (n (codes "a") 4 24); dimensions = []; coshape = None; initial = None }) ∷ []); at = (p 4 1) }) ∷ []); statements = s.no_statements }); end = (record { name = None; at = (p 5 1) }); at = (p 3 1) }) ∷ [])); end = (record { name = None; at = (p 6 1) }) }) 20 1 10 ≡ true
unfolding judged_statements
refused_20_6 = refl

-- print *, mod(@zz); end
refused_20_7 : answers (record { name = None; uses = []; body = (record { implicit_none = None; declarations = []; statements = (s.more_statements (s.action (s.print s.free ((s.value (f.designator (f.part_ref (n (codes "mod") 1 10) (f.more_section_subscripts (f.subscript (f.designator (f.part_ref (n (codes "zz") 1 14) f.no_section_subscripts f.no_image_selector))) f.no_section_subscripts) f.no_image_selector))) ∷ [])) (p 1 1)) s.no_statements) }); procedures = None; end = (record { name = None; at = (p 2 1) }) }) 20 1 14 ≡ true
unfolding judged_statements
refused_20_7 = refl

-- print *, abs(b=@zz); end
refused_20_8 : answers (record { name = None; uses = []; body = (record { implicit_none = None; declarations = []; statements = (s.more_statements (s.action (s.print s.free ((s.value (f.function_reference (n (codes "abs") 1 10) (f.more_arguments (Some (n (codes "b") 1 14)) (f.designator (f.part_ref (n (codes "zz") 1 16) f.no_section_subscripts f.no_image_selector)) f.no_arguments))) ∷ [])) (p 1 1)) s.no_statements) }); procedures = None; end = (record { name = None; at = (p 2 1) }) }) 20 1 16 ≡ true
unfolding judged_statements
refused_20_8 = refl

-- integer :: x; print *, x(k=@zz); end
refused_20_9 : answers (record { name = None; uses = []; body = (record { implicit_none = None; declarations = ((record { type_spec = (s.integer None); attributes = []; entities = ((record { name = (n (codes "x") 1 12); dimensions = []; coshape = None; initial = None }) ∷ []); at = (p 1 1) }) ∷ []); statements = (s.more_statements (s.action (s.print s.free ((s.value (f.function_reference (n (codes "x") 2 10) (f.more_arguments (Some (n (codes "k") 2 12)) (f.designator (f.part_ref (n (codes "zz") 2 14) f.no_section_subscripts f.no_image_selector)) f.no_arguments))) ∷ [])) (p 2 1)) s.no_statements) }); procedures = None; end = (record { name = None; at = (p 3 1) }) }) 20 2 14 ≡ true
unfolding judged_statements
refused_20_9 = refl

-- integer :: a = f(@zz); contains; integer function f(i); integer, intent(in) :: i; f = i; end function; end
refused_20_10 : answers (record { name = None; uses = []; body = (record { implicit_none = None; declarations = ((record { type_spec = (s.integer None); attributes = []; entities = ((record { name = (n (codes "a") 1 12); dimensions = []; coshape = None; initial = (Some (f.designator (f.part_ref (n (codes "f") 1 16) (f.more_section_subscripts (f.subscript (f.designator (f.part_ref (n (codes "zz") 1 18) f.no_section_subscripts f.no_image_selector))) f.no_section_subscripts) f.no_image_selector))) }) ∷ []); at = (p 1 1) }) ∷ []); statements = s.no_statements }); procedures = (Some ((record { heading = (u.function ((u.result_type (s.integer None)) ∷ []) (n (codes "f") 3 18) ((n (codes "i") 3 20) ∷ []) None); body = (record { implicit_none = None; declarations = ((record { type_spec = (s.integer None); attributes = ((s.intent intents.In) ∷ []); entities = ((record { name = (n (codes "i") 4 24); dimensions = []; coshape = None; initial = None }) ∷ []); at = (p 4 1) }) ∷ []); statements = (s.more_statements (s.action (s.assignment (f.part_ref (n (codes "f") 5 1) f.no_section_subscripts f.no_image_selector) (f.designator (f.part_ref (n (codes "i") 5 5) f.no_section_subscripts f.no_image_selector))) (p 5 1)) s.no_statements) }); end = (record { name = None; at = (p 6 1) }); at = (p 3 1) }) ∷ [])); end = (record { name = None; at = (p 7 1) }) }) 20 1 18 ≡ true
unfolding judged_statements
refused_20_10 = refl

-- integer, allocatable :: a(:); allocate (a(@zz, 1)); end
refused_20_11 : answers (record { name = None; uses = []; body = (record { implicit_none = None; declarations = ((record { type_spec = (s.integer None); attributes = (s.allocatable ∷ []); entities = ((record { name = (n (codes "a") 1 25); dimensions = ((s.deferred (p 1 27)) ∷ []); coshape = None; initial = None }) ∷ []); at = (p 1 1) }) ∷ []); statements = (s.more_statements (s.action (s.allocate ((record { name = (n (codes "a") 2 11); bounds = ((s.explicit (record { lower = None; upper = (f.designator (f.part_ref (n (codes "zz") 2 13) f.no_section_subscripts f.no_image_selector)) })) ∷ (s.explicit (record { lower = None; upper = (f.number 1 kinds.Unstated (p 2 17)) })) ∷ []); cobounds = None }) ∷ []) f.no_specifiers) (p 2 1)) s.no_statements) }); procedures = None; end = (record { name = None; at = (p 3 1) }) }) 20 2 13 ≡ true
unfolding judged_statements
refused_20_11 = refl

-- sync all (foo=@zz); end
refused_20_12 : answers (record { name = None; uses = []; body = (record { implicit_none = None; declarations = []; statements = (s.more_statements (s.action (s.sync_all (Some (f.more_specifiers (n (codes "foo") 1 11) (f.designator (f.part_ref (n (codes "zz") 1 15) f.no_section_subscripts f.no_image_selector)) f.no_specifiers))) (p 1 1)) s.no_statements) }); procedures = None; end = (record { name = None; at = (p 2 1) }) }) 20 1 15 ≡ true
unfolding judged_statements
refused_20_12 = refl

-- integer :: i; i(@zz) = .true.; end
refused_20_13 : answers (record { name = None; uses = []; body = (record { implicit_none = None; declarations = ((record { type_spec = (s.integer None); attributes = []; entities = ((record { name = (n (codes "i") 1 12); dimensions = []; coshape = None; initial = None }) ∷ []); at = (p 1 1) }) ∷ []); statements = (s.more_statements (s.action (s.assignment (f.part_ref (n (codes "i") 2 1) (f.more_section_subscripts (f.subscript (f.designator (f.part_ref (n (codes "zz") 2 3) f.no_section_subscripts f.no_image_selector))) f.no_section_subscripts) f.no_image_selector) (f.logical true (p 2 9))) (p 2 1)) s.no_statements) }); procedures = None; end = (record { name = None; at = (p 3 1) }) }) 20 2 3 ≡ true
unfolding judged_statements
refused_20_13 = refl

-- use iso_fortran_env; type(team_type) :: t = @get_team(); end
refused_22_1 : answers (record { name = None; uses = ((record { nature = natures.Unstated; module_name = (n (codes "iso_fortran_env") 1 5); only = None; at = (p 1 1) }) ∷ []); body = (record { implicit_none = None; declarations = ((record { type_spec = (s.derived (n (codes "team_type") 2 6)); attributes = []; entities = ((record { name = (n (codes "t") 2 20); dimensions = []; coshape = None; initial = (Some (f.function_reference (n (codes "get_team") 2 24) f.no_arguments)) }) ∷ []); at = (p 2 1) }) ∷ []); statements = s.no_statements }); procedures = None; end = (record { name = None; at = (p 3 1) }) }) 22 2 24 ≡ true
unfolding judged_statements
refused_22_1 = refl

-- integer :: a(2, 2) = @[3000000000_8]; end
refused_22_2 : answers (record { name = None; uses = []; body = (record { implicit_none = None; declarations = ((record { type_spec = (s.integer None); attributes = []; entities = ((record { name = (n (codes "a") 1 12); dimensions = ((s.explicit (record { lower = None; upper = (f.number 2 kinds.Unstated (p 1 14)) })) ∷ (s.explicit (record { lower = None; upper = (f.number 2 kinds.Unstated (p 1 17)) })) ∷ []); coshape = None; initial = (Some (f.array_constructor (f.more_expressions (f.number 3000000000 kinds.Eight (p 1 23)) f.no_expressions) (p 1 22))) }) ∷ []); at = (p 1 1) }) ∷ []); statements = s.no_statements }); procedures = None; end = (record { name = None; at = (p 2 1) }) }) 22 1 22 ≡ true
unfolding judged_statements
refused_22_2 = refl

-- logical, parameter :: l(1) = [.true.]; integer(@l) :: a; end
refused_23_1 : answers (record { name = None; uses = []; body = (record { implicit_none = None; declarations = ((record { type_spec = (s.logical None); attributes = (s.parameter ∷ []); entities = ((record { name = (n (codes "l") 1 23); dimensions = ((s.explicit (record { lower = None; upper = (f.number 1 kinds.Unstated (p 1 25)) })) ∷ []); coshape = None; initial = (Some (f.array_constructor (f.more_expressions (f.logical true (p 1 31)) f.no_expressions) (p 1 30))) }) ∷ []); at = (p 1 1) }) ∷ (record { type_spec = (s.integer (Some (f.designator (f.part_ref (n (codes "l") 2 9) f.no_section_subscripts f.no_image_selector)))); attributes = []; entities = ((record { name = (n (codes "a") 2 15); dimensions = []; coshape = None; initial = None }) ∷ []); at = (p 2 1) }) ∷ []); statements = s.no_statements }); procedures = None; end = (record { name = None; at = (p 3 1) }) }) 23 2 9 ≡ true
unfolding judged_statements
refused_23_1 = refl

-- logical, parameter :: b(1) = [.true.]; integer :: a(@b); end
refused_25_1 : answers (record { name = None; uses = []; body = (record { implicit_none = None; declarations = ((record { type_spec = (s.logical None); attributes = (s.parameter ∷ []); entities = ((record { name = (n (codes "b") 1 23); dimensions = ((s.explicit (record { lower = None; upper = (f.number 1 kinds.Unstated (p 1 25)) })) ∷ []); coshape = None; initial = (Some (f.array_constructor (f.more_expressions (f.logical true (p 1 31)) f.no_expressions) (p 1 30))) }) ∷ []); at = (p 1 1) }) ∷ (record { type_spec = (s.integer None); attributes = []; entities = ((record { name = (n (codes "a") 2 12); dimensions = ((s.explicit (record { lower = None; upper = (f.designator (f.part_ref (n (codes "b") 2 14) f.no_section_subscripts f.no_image_selector)) })) ∷ []); coshape = None; initial = None }) ∷ []); at = (p 2 1) }) ∷ []); statements = s.no_statements }); procedures = None; end = (record { name = None; at = (p 3 1) }) }) 25 2 14 ≡ true
unfolding judged_statements
refused_25_1 = refl

-- call s(@1); contains; subroutine s(a); integer(2), intent(in) :: a; end subroutine; end
refused_46_1 : answers (record { name = None; uses = []; body = (record { implicit_none = None; declarations = []; statements = (s.more_statements (s.action (s.call (n (codes "s") 1 6) (Some (f.more_arguments None (f.number 1 kinds.Unstated (p 1 8)) f.no_arguments))) (p 1 1)) s.no_statements) }); procedures = (Some ((record { heading = (u.subroutine recursions.Unstated (n (codes "s") 3 12) (Some ((n (codes "a") 3 14) ∷ []))); body = (record { implicit_none = None; declarations = ((record { type_spec = (s.integer (Some (f.number 2 kinds.Unstated (p 4 9)))); attributes = ((s.intent intents.In) ∷ []); entities = ((record { name = (n (codes "a") 4 27); dimensions = []; coshape = None; initial = None }) ∷ []); at = (p 4 1) }) ∷ []); statements = s.no_statements }); end = (record { name = None; at = (p 5 1) }); at = (p 3 1) }) ∷ [])); end = (record { name = None; at = (p 6 1) }) }) 46 1 8 ≡ true
unfolding judged_statements
refused_46_1 = refl

-- logical :: l(2); print *, @l + 1; end
refused_37_1 : answers (record { name = None; uses = []; body = (record { implicit_none = None; declarations = ((record { type_spec = (s.logical None); attributes = []; entities = ((record { name = (n (codes "l") 1 12); dimensions = ((s.explicit (record { lower = None; upper = (f.number 2 kinds.Unstated (p 1 14)) })) ∷ []); coshape = None; initial = None }) ∷ []); at = (p 1 1) }) ∷ []); statements = (s.more_statements (s.action (s.print s.free ((s.value (f.binary operators.Add (f.designator (f.part_ref (n (codes "l") 2 10) f.no_section_subscripts f.no_image_selector)) (f.number 1 kinds.Unstated (p 2 14)) (p 2 10))) ∷ [])) (p 2 1)) s.no_statements) }); procedures = None; end = (record { name = None; at = (p 3 1) }) }) 37 2 10 ≡ true
unfolding judged_statements
refused_37_1 = refl

-- integer :: a(3); if (@a) stop; end
refused_37_2 : answers (record { name = None; uses = []; body = (record { implicit_none = None; declarations = ((record { type_spec = (s.integer None); attributes = []; entities = ((record { name = (n (codes "a") 1 12); dimensions = ((s.explicit (record { lower = None; upper = (f.number 3 kinds.Unstated (p 1 14)) })) ∷ []); coshape = None; initial = None }) ∷ []); at = (p 1 1) }) ∷ []); statements = (s.more_statements (s.action (s.if_statement (f.designator (f.part_ref (n (codes "a") 2 5) f.no_section_subscripts f.no_image_selector)) (s.stop None) (p 2 8)) (p 2 1)) s.no_statements) }); procedures = None; end = (record { name = None; at = (p 3 1) }) }) 37 2 5 ≡ true
unfolding judged_statements
refused_37_2 = refl

-- logical :: a(3); print *, abs(@a); end
refused_37_3 : answers (record { name = None; uses = []; body = (record { implicit_none = None; declarations = ((record { type_spec = (s.logical None); attributes = []; entities = ((record { name = (n (codes "a") 1 12); dimensions = ((s.explicit (record { lower = None; upper = (f.number 3 kinds.Unstated (p 1 14)) })) ∷ []); coshape = None; initial = None }) ∷ []); at = (p 1 1) }) ∷ []); statements = (s.more_statements (s.action (s.print s.free ((s.value (f.designator (f.part_ref (n (codes "abs") 2 10) (f.more_section_subscripts (f.subscript (f.designator (f.part_ref (n (codes "a") 2 14) f.no_section_subscripts f.no_image_selector))) f.no_section_subscripts) f.no_image_selector))) ∷ [])) (p 2 1)) s.no_statements) }); procedures = None; end = (record { name = None; at = (p 3 1) }) }) 37 2 14 ≡ true
unfolding judged_statements
refused_37_3 = refl

-- logical :: a(3); stop @a; end
refused_37_4 : answers (record { name = None; uses = []; body = (record { implicit_none = None; declarations = ((record { type_spec = (s.logical None); attributes = []; entities = ((record { name = (n (codes "a") 1 12); dimensions = ((s.explicit (record { lower = None; upper = (f.number 3 kinds.Unstated (p 1 14)) })) ∷ []); coshape = None; initial = None }) ∷ []); at = (p 1 1) }) ∷ []); statements = (s.more_statements (s.action (s.stop (Some (f.designator (f.part_ref (n (codes "a") 2 6) f.no_section_subscripts f.no_image_selector)))) (p 2 1)) s.no_statements) }); procedures = None; end = (record { name = None; at = (p 3 1) }) }) 37 2 6 ≡ true
unfolding judged_statements
refused_37_4 = refl

-- integer :: a(3); sync team (@a); end
refused_37_5 : answers (record { name = None; uses = []; body = (record { implicit_none = None; declarations = ((record { type_spec = (s.integer None); attributes = []; entities = ((record { name = (n (codes "a") 1 12); dimensions = ((s.explicit (record { lower = None; upper = (f.number 3 kinds.Unstated (p 1 14)) })) ∷ []); coshape = None; initial = None }) ∷ []); at = (p 1 1) }) ∷ []); statements = (s.more_statements (s.action (s.sync_team (f.designator (f.part_ref (n (codes "a") 2 12) f.no_section_subscripts f.no_image_selector)) f.no_specifiers) (p 2 1)) s.no_statements) }); procedures = None; end = (record { name = None; at = (p 3 1) }) }) 37 2 12 ≡ true
unfolding judged_statements
refused_37_5 = refl

-- logical :: a(3); select case (1); case (@a); end select; end
refused_37_6 : answers (record { name = None; uses = []; body = (record { implicit_none = None; declarations = ((record { type_spec = (s.logical None); attributes = []; entities = ((record { name = (n (codes "a") 1 12); dimensions = ((s.explicit (record { lower = None; upper = (f.number 3 kinds.Unstated (p 1 14)) })) ∷ []); coshape = None; initial = None }) ∷ []); at = (p 1 1) }) ∷ []); statements = (s.more_statements (s.case_construct (f.number 1 kinds.Unstated (p 2 14)) (s.more_case_blocks (s.ranges ((s.single (f.designator (f.part_ref (n (codes "a") 3 7) f.no_section_subscripts f.no_image_selector))) ∷ [])) s.no_statements (p 3 1) s.no_case_blocks) (p 2 1) (p 4 1)) s.no_statements) }); procedures = None; end = (record { name = None; at = (p 5 1) }) }) 37 3 7 ≡ true
unfolding judged_statements
refused_37_6 = refl

-- use iso_fortran_env; type(lock_type) :: l(2)[*]; select case (@l); end select; end
refused_37_7 : answers (record { name = None; uses = ((record { nature = natures.Unstated; module_name = (n (codes "iso_fortran_env") 1 5); only = None; at = (p 1 1) }) ∷ []); body = (record { implicit_none = None; declarations = ((record { type_spec = (s.derived (n (codes "lock_type") 2 6)); attributes = []; entities = ((record { name = (n (codes "l") 2 20); dimensions = ((s.explicit (record { lower = None; upper = (f.number 2 kinds.Unstated (p 2 22)) })) ∷ []); coshape = (Some (s.explicit_coshape [] None)); initial = None }) ∷ []); at = (p 2 1) }) ∷ []); statements = (s.more_statements (s.case_construct (f.designator (f.part_ref (n (codes "l") 3 14) f.no_section_subscripts f.no_image_selector)) s.no_case_blocks (p 3 1) (p 4 1)) s.no_statements) }); procedures = None; end = (record { name = None; at = (p 5 1) }) }) 37 3 14 ≡ true
unfolding judged_statements
refused_37_7 = refl

-- logical :: a(3); integer, allocatable :: b(:); allocate (b(@a)); end
refused_37_8 : answers (record { name = None; uses = []; body = (record { implicit_none = None; declarations = ((record { type_spec = (s.logical None); attributes = []; entities = ((record { name = (n (codes "a") 1 12); dimensions = ((s.explicit (record { lower = None; upper = (f.number 3 kinds.Unstated (p 1 14)) })) ∷ []); coshape = None; initial = None }) ∷ []); at = (p 1 1) }) ∷ (record { type_spec = (s.integer None); attributes = (s.allocatable ∷ []); entities = ((record { name = (n (codes "b") 2 25); dimensions = ((s.deferred (p 2 27)) ∷ []); coshape = None; initial = None }) ∷ []); at = (p 2 1) }) ∷ []); statements = (s.more_statements (s.action (s.allocate ((record { name = (n (codes "b") 3 11); bounds = ((s.explicit (record { lower = None; upper = (f.designator (f.part_ref (n (codes "a") 3 13) f.no_section_subscripts f.no_image_selector)) })) ∷ []); cobounds = None }) ∷ []) f.no_specifiers) (p 3 1)) s.no_statements) }); procedures = None; end = (record { name = None; at = (p 4 1) }) }) 37 3 13 ≡ true
unfolding judged_statements
refused_37_8 = refl

-- integer :: b(3); allocate (@b(1, 2)); end
refused_33_1 : answers (record { name = None; uses = []; body = (record { implicit_none = None; declarations = ((record { type_spec = (s.integer None); attributes = []; entities = ((record { name = (n (codes "b") 1 12); dimensions = ((s.explicit (record { lower = None; upper = (f.number 3 kinds.Unstated (p 1 14)) })) ∷ []); coshape = None; initial = None }) ∷ []); at = (p 1 1) }) ∷ []); statements = (s.more_statements (s.action (s.allocate ((record { name = (n (codes "b") 2 11); bounds = ((s.explicit (record { lower = None; upper = (f.number 1 kinds.Unstated (p 2 13)) })) ∷ (s.explicit (record { lower = None; upper = (f.number 2 kinds.Unstated (p 2 16)) })) ∷ []); cobounds = None }) ∷ []) f.no_specifiers) (p 2 1)) s.no_statements) }); procedures = None; end = (record { name = None; at = (p 3 1) }) }) 33 2 11 ≡ true
unfolding judged_statements
refused_33_1 = refl

-- integer :: b; allocate (@b[*]); end
refused_34_1 : answers (record { name = None; uses = []; body = (record { implicit_none = None; declarations = ((record { type_spec = (s.integer None); attributes = []; entities = ((record { name = (n (codes "b") 1 12); dimensions = []; coshape = None; initial = None }) ∷ []); at = (p 1 1) }) ∷ []); statements = (s.more_statements (s.action (s.allocate ((record { name = (n (codes "b") 2 11); bounds = []; cobounds = (Some (s.explicit_coshape [] None)) }) ∷ []) f.no_specifiers) (p 2 1)) s.no_statements) }); procedures = None; end = (record { name = None; at = (p 3 1) }) }) 34 2 11 ≡ true
unfolding judged_statements
refused_34_1 = refl

-- sync all (stat=@abs); end
refused_36_1 : answers (record { name = None; uses = []; body = (record { implicit_none = None; declarations = []; statements = (s.more_statements (s.action (s.sync_all (Some (f.more_specifiers (n (codes "stat") 1 11) (f.designator (f.part_ref (n (codes "abs") 1 16) f.no_section_subscripts f.no_image_selector)) f.no_specifiers))) (p 1 1)) s.no_statements) }); procedures = None; end = (record { name = None; at = (p 2 1) }) }) 36 1 16 ≡ true
unfolding judged_statements
refused_36_1 = refl

-- sync all (stat=@s); contains; subroutine s(); end subroutine; end
refused_36_2 : answers (record { name = None; uses = []; body = (record { implicit_none = None; declarations = []; statements = (s.more_statements (s.action (s.sync_all (Some (f.more_specifiers (n (codes "stat") 1 11) (f.designator (f.part_ref (n (codes "s") 1 16) f.no_section_subscripts f.no_image_selector)) f.no_specifiers))) (p 1 1)) s.no_statements) }); procedures = (Some ((record { heading = (u.subroutine recursions.Unstated (n (codes "s") 3 12) (Some [])); body = (record { implicit_none = None; declarations = []; statements = s.no_statements }); end = (record { name = None; at = (p 4 1) }); at = (p 3 1) }) ∷ [])); end = (record { name = None; at = (p 5 1) }) }) 36 1 16 ≡ true
unfolding judged_statements
refused_36_2 = refl

-- use iso_fortran_env; type(event_type) :: e[*]; call event_query(e, @abs); end
refused_36_3 : answers (record { name = None; uses = ((record { nature = natures.Unstated; module_name = (n (codes "iso_fortran_env") 1 5); only = None; at = (p 1 1) }) ∷ []); body = (record { implicit_none = None; declarations = ((record { type_spec = (s.derived (n (codes "event_type") 2 6)); attributes = []; entities = ((record { name = (n (codes "e") 2 21); dimensions = []; coshape = (Some (s.explicit_coshape [] None)); initial = None }) ∷ []); at = (p 2 1) }) ∷ []); statements = (s.more_statements (s.action (s.call (n (codes "event_query") 3 6) (Some (f.more_arguments None (f.designator (f.part_ref (n (codes "e") 3 18) f.no_section_subscripts f.no_image_selector)) (f.more_arguments None (f.designator (f.part_ref (n (codes "abs") 3 21) f.no_section_subscripts f.no_image_selector)) f.no_arguments)))) (p 3 1)) s.no_statements) }); procedures = None; end = (record { name = None; at = (p 4 1) }) }) 36 3 21 ≡ true
unfolding judged_statements
refused_36_3 = refl

-- use iso_fortran_env; integer :: x[*]; call atomic_ref(@mod, x); end
refused_36_4 : answers (record { name = None; uses = ((record { nature = natures.Unstated; module_name = (n (codes "iso_fortran_env") 1 5); only = None; at = (p 1 1) }) ∷ []); body = (record { implicit_none = None; declarations = ((record { type_spec = (s.integer None); attributes = []; entities = ((record { name = (n (codes "x") 2 12); dimensions = []; coshape = (Some (s.explicit_coshape [] None)); initial = None }) ∷ []); at = (p 2 1) }) ∷ []); statements = (s.more_statements (s.action (s.call (n (codes "atomic_ref") 3 6) (Some (f.more_arguments None (f.designator (f.part_ref (n (codes "mod") 3 17) f.no_section_subscripts f.no_image_selector)) (f.more_arguments None (f.designator (f.part_ref (n (codes "x") 3 22) f.no_section_subscripts f.no_image_selector)) f.no_arguments)))) (p 3 1)) s.no_statements) }); procedures = None; end = (record { name = None; at = (p 4 1) }) }) 36 3 17 ≡ true
unfolding judged_statements
refused_36_4 = refl

-- call s(@abs); contains; subroutine s(a); integer :: a; end subroutine; end
refused_46_2 : answers (record { name = None; uses = []; body = (record { implicit_none = None; declarations = []; statements = (s.more_statements (s.action (s.call (n (codes "s") 1 6) (Some (f.more_arguments None (f.designator (f.part_ref (n (codes "abs") 1 8) f.no_section_subscripts f.no_image_selector)) f.no_arguments))) (p 1 1)) s.no_statements) }); procedures = (Some ((record { heading = (u.subroutine recursions.Unstated (n (codes "s") 3 12) (Some ((n (codes "a") 3 14) ∷ []))); body = (record { implicit_none = None; declarations = ((record { type_spec = (s.integer None); attributes = []; entities = ((record { name = (n (codes "a") 4 12); dimensions = []; coshape = None; initial = None }) ∷ []); at = (p 4 1) }) ∷ []); statements = s.no_statements }); end = (record { name = None; at = (p 5 1) }); at = (p 3 1) }) ∷ [])); end = (record { name = None; at = (p 6 1) }) }) 46 1 8 ≡ true
unfolding judged_statements
refused_46_2 = refl

-- call s(@s); contains; subroutine s(a); integer, intent(out) :: a; end subroutine; end
refused_46_3 : answers (record { name = None; uses = []; body = (record { implicit_none = None; declarations = []; statements = (s.more_statements (s.action (s.call (n (codes "s") 1 6) (Some (f.more_arguments None (f.designator (f.part_ref (n (codes "s") 1 8) f.no_section_subscripts f.no_image_selector)) f.no_arguments))) (p 1 1)) s.no_statements) }); procedures = (Some ((record { heading = (u.subroutine recursions.Unstated (n (codes "s") 3 12) (Some ((n (codes "a") 3 14) ∷ []))); body = (record { implicit_none = None; declarations = ((record { type_spec = (s.integer None); attributes = ((s.intent intents.Out) ∷ []); entities = ((record { name = (n (codes "a") 4 25); dimensions = []; coshape = None; initial = None }) ∷ []); at = (p 4 1) }) ∷ []); statements = s.no_statements }); end = (record { name = None; at = (p 5 1) }); at = (p 3 1) }) ∷ [])); end = (record { name = None; at = (p 6 1) }) }) 46 1 8 ≡ true
unfolding judged_statements
refused_46_3 = refl

-- integer :: i(2); form team (1, @i); end
refused_37_9 : answers (record { name = None; uses = []; body = (record { implicit_none = None; declarations = ((record { type_spec = (s.integer None); attributes = []; entities = ((record { name = (n (codes "i") 1 12); dimensions = ((s.explicit (record { lower = None; upper = (f.number 2 kinds.Unstated (p 1 14)) })) ∷ []); coshape = None; initial = None }) ∷ []); at = (p 1 1) }) ∷ []); statements = (s.more_statements (s.action (s.form_team (f.number 1 kinds.Unstated (p 2 12)) (n (codes "i") 2 15) f.no_specifiers) (p 2 1)) s.no_statements) }); procedures = None; end = (record { name = None; at = (p 3 1) }) }) 37 2 15 ≡ true
unfolding judged_statements
refused_37_9 = refl

-- integer, parameter :: k = 1; k = @failed_images(); end
refused_56_1 : answers (record { name = None; uses = []; body = (record { implicit_none = None; declarations = ((record { type_spec = (s.integer None); attributes = (s.parameter ∷ []); entities = ((record { name = (n (codes "k") 1 23); dimensions = []; coshape = None; initial = (Some (f.number 1 kinds.Unstated (p 1 27))) }) ∷ []); at = (p 1 1) }) ∷ []); statements = (s.more_statements (s.action (s.assignment (f.part_ref (n (codes "k") 2 1) f.no_section_subscripts f.no_image_selector) (f.function_reference (n (codes "failed_images") 2 5) f.no_arguments)) (p 2 1)) s.no_statements) }); procedures = None; end = (record { name = None; at = (p 3 1) }) }) 56 2 5 ≡ true
unfolding judged_statements
refused_56_1 = refl

-- integer :: i; do i = 1, 2; i = @failed_images(); end do; end
refused_56_2 : answers (record { name = None; uses = []; body = (record { implicit_none = None; declarations = ((record { type_spec = (s.integer None); attributes = []; entities = ((record { name = (n (codes "i") 1 12); dimensions = []; coshape = None; initial = None }) ∷ []); at = (p 1 1) }) ∷ []); statements = (s.more_statements (s.do_construct None (s.counted (n (codes "i") 2 4) (f.number 1 kinds.Unstated (p 2 8)) (f.number 2 kinds.Unstated (p 2 11)) None) (s.more_statements (s.action (s.assignment (f.part_ref (n (codes "i") 3 1) f.no_section_subscripts f.no_image_selector) (f.function_reference (n (codes "failed_images") 3 5) f.no_arguments)) (p 3 1)) s.no_statements) (p 2 1) (record { name = None; at = (p 4 1) })) s.no_statements) }); procedures = None; end = (record { name = None; at = (p 5 1) }) }) 56 3 5 ≡ true
unfolding judged_statements
refused_56_2 = refl
