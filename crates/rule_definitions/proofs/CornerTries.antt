-- Values of constant expressions, and uses at the edge of a rule; `@` in a remark stands before the place that is told.
use Rattle.std.proofs.Common.{◌≡◌, true, false, [], ◌∷◌, refl, codes, Some, None}
use Rattle.fortran_tree.specs.declared.expr.NumberKind.TheVariants as kinds
use Rattle.fortran_tree.specs.declared.expr.Operator.TheVariants as operators
use Rattle.fortran_tree.specs.declared.expr.PrefixOperator.TheVariants as prefixes
use Rattle.fortran_tree.specs.declared.declaration.Intent.TheVariants as intents
use Rattle.fortran_tree.specs.declared.unit.ModuleNature.TheVariants as natures
use Rattle.fortran_tree.specs.Expressions as f
use Rattle.fortran_tree.specs.Statements as s
use Rattle.fortran_tree.specs.Units as u
use Rattle.rule_definitions.proofs.Trees.{p, n, answers, accepted}
use Rattle.rule_definitions.specs.Statements.{judged_statements}

-- integer, parameter :: c = @2 ** 31; end
refused_22_1 : answers (record { name = None; uses = []; body = (record { implicit_none = None; declarations = ((record { type_spec = (s.integer None); attributes = (s.parameter ∷ []); entities = ((record { name = (n (codes "c") 1 23); dimensions = []; coshape = None; initial = (Some (f.binary operators.Power (f.number 2 kinds.Unstated (p 1 27)) (f.number 31 kinds.Unstated (p 1 32)) (p 1 27))) }) ∷ []); at = (p 1 1) }) ∷ []); statements = s.no_statements }); procedures = None; end = (record { name = None; at = (p 2 1) }) }) 22 1 27 ≡ true
unfolding judged_statements
refused_22_1 = refl

-- integer, parameter :: c = (-2) ** 31; end
accepted_1 : accepted (record { name = None; uses = []; body = (record { implicit_none = None; declarations = ((record { type_spec = (s.integer None); attributes = (s.parameter ∷ []); entities = ((record { name = (n (codes "c") 1 23); dimensions = []; coshape = None; initial = (Some (f.binary operators.Power (f.parenthesized (f.prefix prefixes.Minus (f.number 2 kinds.Unstated (p 1 29)) (p 1 28)) (p 1 27)) (f.number 31 kinds.Unstated (p 1 35)) (p 1 27))) }) ∷ []); at = (p 1 1) }) ∷ []); statements = s.no_statements }); procedures = None; end = (record { name = None; at = (p 2 1) }) }) ≡ true
unfolding judged_statements
accepted_1 = refl

-- integer, parameter :: c = @0 ** (-1); end
refused_22_2 : answers (record { name = None; uses = []; body = (record { implicit_none = None; declarations = ((record { type_spec = (s.integer None); attributes = (s.parameter ∷ []); entities = ((record { name = (n (codes "c") 1 23); dimensions = []; coshape = None; initial = (Some (f.binary operators.Power (f.number 0 kinds.Unstated (p 1 27)) (f.parenthesized (f.prefix prefixes.Minus (f.number 1 kinds.Unstated (p 1 34)) (p 1 33)) (p 1 32)) (p 1 27))) }) ∷ []); at = (p 1 1) }) ∷ []); statements = s.no_statements }); procedures = None; end = (record { name = None; at = (p 2 1) }) }) 22 1 27 ≡ true
unfolding judged_statements
refused_22_2 = refl

-- integer, parameter :: c = mod(-2147483647 - 1, -1); end
accepted_2 : accepted (record { name = None; uses = []; body = (record { implicit_none = None; declarations = ((record { type_spec = (s.integer None); attributes = (s.parameter ∷ []); entities = ((record { name = (n (codes "c") 1 23); dimensions = []; coshape = None; initial = (Some (f.designator (f.part_ref (n (codes "mod") 1 27) (f.more_section_subscripts (f.subscript (f.binary operators.Subtract (f.prefix prefixes.Minus (f.number 2147483647 kinds.Unstated (p 1 32)) (p 1 31)) (f.number 1 kinds.Unstated (p 1 45)) (p 1 31))) (f.more_section_subscripts (f.subscript (f.prefix prefixes.Minus (f.number 1 kinds.Unstated (p 1 49)) (p 1 48))) f.no_section_subscripts)) f.no_image_selector))) }) ∷ []); at = (p 1 1) }) ∷ []); statements = s.no_statements }); procedures = None; end = (record { name = None; at = (p 2 1) }) }) ≡ true
unfolding judged_statements
accepted_2 = refl

-- integer, parameter :: c(3) = [1, 2, 3], d(2) = c(3:1:-2), n = size(c(2:)), m = ubound(c, 1); integer :: a(n); end
accepted_3 : accepted (record { name = None; uses = []; body = (record { implicit_none = None; declarations = ((record { type_spec = (s.integer None); attributes = (s.parameter ∷ []); entities = ((record { name = (n (codes "c") 1 23); dimensions = ((s.explicit (record { lower = None; upper = (f.number 3 kinds.Unstated (p 1 25)) })) ∷ []); coshape = None; initial = (Some (f.array_constructor (f.more_expressions (f.number 1 kinds.Unstated (p 1 31)) (f.more_expressions (f.number 2 kinds.Unstated (p 1 34)) (f.more_expressions (f.number 3 kinds.Unstated (p 1 37)) f.no_expressions))) (p 1 30))) }) ∷ (record { name = (n (codes "d") 1 41); dimensions = ((s.explicit (record { lower = None; upper = (f.number 2 kinds.Unstated (p 1 43)) })) ∷ []); coshape = None; initial = (Some (f.designator (f.part_ref (n (codes "c") 1 48) (f.more_section_subscripts (f.triplet (f.given (f.number 3 kinds.Unstated (p 1 50))) (f.given (f.number 1 kinds.Unstated (p 1 52))) (f.given (f.prefix prefixes.Minus (f.number 2 kinds.Unstated (p 1 55)) (p 1 54))) (p 1 50)) f.no_section_subscripts) f.no_image_selector))) }) ∷ (record { name = (n (codes "n") 1 59); dimensions = []; coshape = None; initial = (Some (f.designator (f.part_ref (n (codes "size") 1 63) (f.more_section_subscripts (f.subscript (f.designator (f.part_ref (n (codes "c") 1 68) (f.more_section_subscripts (f.triplet (f.given (f.number 2 kinds.Unstated (p 1 70))) f.missing f.missing (p 1 70)) f.no_section_subscripts) f.no_image_selector))) f.no_section_subscripts) f.no_image_selector))) }) ∷ (record { name = (n (codes "m") 1 76); dimensions = []; coshape = None; initial = (Some (f.designator (f.part_ref (n (codes "ubound") 1 80) (f.more_section_subscripts (f.subscript (f.designator (f.part_ref (n (codes "c") 1 87) f.no_section_subscripts f.no_image_selector))) (f.more_section_subscripts (f.subscript (f.number 1 kinds.Unstated (p 1 90))) f.no_section_subscripts)) f.no_image_selector))) }) ∷ []); at = (p 1 1) }) ∷ (record { type_spec = (s.integer None); attributes = []; entities = ((record { name = (n (codes "a") 2 12); dimensions = ((s.explicit (record { lower = None; upper = (f.designator (f.part_ref (n (codes "n") 2 14) f.no_section_subscripts f.no_image_selector)) })) ∷ []); coshape = None; initial = None }) ∷ []); at = (p 2 1) }) ∷ []); statements = s.no_statements }); procedures = None; end = (record { name = None; at = (p 3 1) }) }) ≡ true
unfolding judged_statements
accepted_3 = refl

-- integer :: a(3); integer, parameter :: n = @size((a)); end
refused_22_3 : answers (record { name = None; uses = []; body = (record { implicit_none = None; declarations = ((record { type_spec = (s.integer None); attributes = []; entities = ((record { name = (n (codes "a") 1 12); dimensions = ((s.explicit (record { lower = None; upper = (f.number 3 kinds.Unstated (p 1 14)) })) ∷ []); coshape = None; initial = None }) ∷ []); at = (p 1 1) }) ∷ (record { type_spec = (s.integer None); attributes = (s.parameter ∷ []); entities = ((record { name = (n (codes "n") 2 23); dimensions = []; coshape = None; initial = (Some (f.designator (f.part_ref (n (codes "size") 2 27) (f.more_section_subscripts (f.subscript (f.parenthesized (f.designator (f.part_ref (n (codes "a") 2 33) f.no_section_subscripts f.no_image_selector)) (p 2 32))) f.no_section_subscripts) f.no_image_selector))) }) ∷ []); at = (p 2 1) }) ∷ []); statements = s.no_statements }); procedures = None; end = (record { name = None; at = (p 3 1) }) }) 22 2 27 ≡ true
unfolding judged_statements
refused_22_3 = refl

-- integer :: a(3); integer, parameter :: n = size(a) + lbound(a, 1); end
accepted_4 : accepted (record { name = None; uses = []; body = (record { implicit_none = None; declarations = ((record { type_spec = (s.integer None); attributes = []; entities = ((record { name = (n (codes "a") 1 12); dimensions = ((s.explicit (record { lower = None; upper = (f.number 3 kinds.Unstated (p 1 14)) })) ∷ []); coshape = None; initial = None }) ∷ []); at = (p 1 1) }) ∷ (record { type_spec = (s.integer None); attributes = (s.parameter ∷ []); entities = ((record { name = (n (codes "n") 2 23); dimensions = []; coshape = None; initial = (Some (f.binary operators.Add (f.designator (f.part_ref (n (codes "size") 2 27) (f.more_section_subscripts (f.subscript (f.designator (f.part_ref (n (codes "a") 2 32) f.no_section_subscripts f.no_image_selector))) f.no_section_subscripts) f.no_image_selector)) (f.designator (f.part_ref (n (codes "lbound") 2 37) (f.more_section_subscripts (f.subscript (f.designator (f.part_ref (n (codes "a") 2 44) f.no_section_subscripts f.no_image_selector))) (f.more_section_subscripts (f.subscript (f.number 1 kinds.Unstated (p 2 47))) f.no_section_subscripts)) f.no_image_selector)) (p 2 27))) }) ∷ []); at = (p 2 1) }) ∷ []); statements = s.no_statements }); procedures = None; end = (record { name = None; at = (p 3 1) }) }) ≡ true
unfolding judged_statements
accepted_4 = refl

-- print *, @2147483648; end
refused_23_1 : answers (record { name = None; uses = []; body = (record { implicit_none = None; declarations = []; statements = (s.more_statements (s.action (s.print s.free ((s.value (f.number 2147483648 kinds.Unstated (p 1 10))) ∷ [])) (p 1 1)) s.no_statements) }); procedures = None; end = (record { name = None; at = (p 2 1) }) }) 23 1 10 ≡ true
unfolding judged_statements
refused_23_1 = refl

-- logical, parameter :: l = .true.; integer(@l) :: a; end
refused_23_2 : answers (record { name = None; uses = []; body = (record { implicit_none = None; declarations = ((record { type_spec = (s.logical None); attributes = (s.parameter ∷ []); entities = ((record { name = (n (codes "l") 1 23); dimensions = []; coshape = None; initial = (Some (f.logical true (p 1 27))) }) ∷ []); at = (p 1 1) }) ∷ (record { type_spec = (s.integer (Some (f.designator (f.part_ref (n (codes "l") 2 9) f.no_section_subscripts f.no_image_selector)))); attributes = []; entities = ((record { name = (n (codes "a") 2 15); dimensions = []; coshape = None; initial = None }) ∷ []); at = (p 2 1) }) ∷ []); statements = s.no_statements }); procedures = None; end = (record { name = None; at = (p 3 1) }) }) 23 2 9 ≡ true
unfolding judged_statements
refused_23_2 = refl

-- integer :: a(5:3), b(-2:2); end
accepted_5 : accepted (record { name = None; uses = []; body = (record { implicit_none = None; declarations = ((record { type_spec = (s.integer None); attributes = []; entities = ((record { name = (n (codes "a") 1 12); dimensions = ((s.explicit (record { lower = (Some (f.number 5 kinds.Unstated (p 1 14))); upper = (f.number 3 kinds.Unstated (p 1 16)) })) ∷ []); coshape = None; initial = None }) ∷ (record { name = (n (codes "b") 1 20); dimensions = ((s.explicit (record { lower = (Some (f.prefix prefixes.Minus (f.number 2 kinds.Unstated (p 1 23)) (p 1 22))); upper = (f.number 2 kinds.Unstated (p 1 25)) })) ∷ []); coshape = None; initial = None }) ∷ []); at = (p 1 1) }) ∷ []); statements = s.no_statements }); procedures = None; end = (record { name = None; at = (p 2 1) }) }) ≡ true
unfolding judged_statements
accepted_5 = refl

-- integer, parameter :: k[*] = 3; print *, @k[1]; end
refused_34_1 : answers (record { name = None; uses = []; body = (record { implicit_none = None; declarations = ((record { type_spec = (s.integer None); attributes = (s.parameter ∷ []); entities = ((record { name = (n (codes "k") 1 23); dimensions = []; coshape = (Some (s.explicit_coshape [] None)); initial = (Some (f.number 3 kinds.Unstated (p 1 30))) }) ∷ []); at = (p 1 1) }) ∷ []); statements = (s.more_statements (s.action (s.print s.free ((s.value (f.designator (f.part_ref (n (codes "k") 2 10) f.no_section_subscripts (f.image_selector (f.more_expressions (f.number 1 kinds.Unstated (p 2 12)) f.no_expressions) f.no_specifiers)))) ∷ [])) (p 2 1)) s.no_statements) }); procedures = None; end = (record { name = None; at = (p 3 1) }) }) 34 2 10 ≡ true
unfolding judged_statements
refused_34_1 = refl

-- integer :: a(65535), b, c(65536)[*]; integer, parameter :: d(3) = 0; integer, allocatable :: e(:); end
accepted_6 : accepted (record { name = None; uses = []; body = (record { implicit_none = None; declarations = ((record { type_spec = (s.integer None); attributes = []; entities = ((record { name = (n (codes "a") 1 12); dimensions = ((s.explicit (record { lower = None; upper = (f.number 65535 kinds.Unstated (p 1 14)) })) ∷ []); coshape = None; initial = None }) ∷ (record { name = (n (codes "b") 1 22); dimensions = []; coshape = None; initial = None }) ∷ (record { name = (n (codes "c") 1 25); dimensions = ((s.explicit (record { lower = None; upper = (f.number 65536 kinds.Unstated (p 1 27)) })) ∷ []); coshape = (Some (s.explicit_coshape [] None)); initial = None }) ∷ []); at = (p 1 1) }) ∷ (record { type_spec = (s.integer None); attributes = (s.parameter ∷ []); entities = ((record { name = (n (codes "d") 2 23); dimensions = ((s.explicit (record { lower = None; upper = (f.number 3 kinds.Unstated (p 2 25)) })) ∷ []); coshape = None; initial = (Some (f.number 0 kinds.Unstated (p 2 30))) }) ∷ []); at = (p 2 1) }) ∷ (record { type_spec = (s.integer None); attributes = (s.allocatable ∷ []); entities = ((record { name = (n (codes "e") 3 25); dimensions = ((s.deferred (p 3 27)) ∷ []); coshape = None; initial = None }) ∷ []); at = (p 3 1) }) ∷ []); statements = s.no_statements }); procedures = None; end = (record { name = None; at = (p 4 1) }) }) ≡ true
unfolding judged_statements
accepted_6 = refl

-- integer :: i; do i = 1, 2; do @i = 1, 2; end do; end do; end
refused_32_1 : answers (record { name = None; uses = []; body = (record { implicit_none = None; declarations = ((record { type_spec = (s.integer None); attributes = []; entities = ((record { name = (n (codes "i") 1 12); dimensions = []; coshape = None; initial = None }) ∷ []); at = (p 1 1) }) ∷ []); statements = (s.more_statements (s.do_construct None (s.counted (n (codes "i") 2 4) (f.number 1 kinds.Unstated (p 2 8)) (f.number 2 kinds.Unstated (p 2 11)) None) (s.more_statements (s.do_construct None (s.counted (n (codes "i") 3 4) (f.number 1 kinds.Unstated (p 3 8)) (f.number 2 kinds.Unstated (p 3 11)) None) s.no_statements (p 3 1) (record { name = None; at = (p 4 1) })) s.no_statements) (p 2 1) (record { name = None; at = (p 5 1) })) s.no_statements) }); procedures = None; end = (record { name = None; at = (p 6 1) }) }) 32 3 4 ≡ true
unfolding judged_statements
refused_32_1 = refl

-- do; critical; @exit; end critical; end do; end
refused_42_1 : answers (record { name = None; uses = []; body = (record { implicit_none = None; declarations = []; statements = (s.more_statements (s.do_construct None s.unlimited (s.more_statements (s.critical_construct s.absent (s.more_statements (s.action (s.exit None) (p 3 1)) s.no_statements) (p 2 1) (p 4 1)) s.no_statements) (p 1 1) (record { name = None; at = (p 5 1) })) s.no_statements) }); procedures = None; end = (record { name = None; at = (p 6 1) }) }) 42 3 1 ≡ true
unfolding judged_statements
refused_42_1 = refl

-- critical; @return; end critical; end
refused_42_2 : answers (record { name = None; uses = []; body = (record { implicit_none = None; declarations = []; statements = (s.more_statements (s.critical_construct s.absent (s.more_statements (s.action s.return (p 2 1)) s.no_statements) (p 1 1) (p 3 1)) s.no_statements) }); procedures = None; end = (record { name = None; at = (p 4 1) }) }) 42 2 1 ≡ true
unfolding judged_statements
refused_42_2 = refl

-- use iso_fortran_env; type(team_type) :: t; change team (t); if (.true.) @return; end team; end
refused_42_3 : answers (record { name = None; uses = ((record { nature = natures.Unstated; module_name = (n (codes "iso_fortran_env") 1 5); only = None; at = (p 1 1) }) ∷ []); body = (record { implicit_none = None; declarations = ((record { type_spec = (s.derived (n (codes "team_type") 2 6)); attributes = []; entities = ((record { name = (n (codes "t") 2 20); dimensions = []; coshape = None; initial = None }) ∷ []); at = (p 2 1) }) ∷ []); statements = (s.more_statements (s.change_team_construct (f.designator (f.part_ref (n (codes "t") 3 14) f.no_section_subscripts f.no_image_selector)) f.no_specifiers (s.more_statements (s.action (s.if_statement (f.logical true (p 4 5)) s.return (p 4 13)) (p 4 1)) s.no_statements) s.absent (p 3 1) (p 5 1)) s.no_statements) }); procedures = None; end = (record { name = None; at = (p 6 1) }) }) 42 4 13 ≡ true
unfolding judged_statements
refused_42_3 = refl

-- select case (1); case (5:3); case (4); end select; end
accepted_7 : accepted (record { name = None; uses = []; body = (record { implicit_none = None; declarations = []; statements = (s.more_statements (s.case_construct (f.number 1 kinds.Unstated (p 1 14)) (s.more_case_blocks (s.ranges ((s.between (f.number 5 kinds.Unstated (p 2 7)) (f.number 3 kinds.Unstated (p 2 9))) ∷ [])) s.no_statements (p 2 1) (s.more_case_blocks (s.ranges ((s.single (f.number 4 kinds.Unstated (p 3 7))) ∷ [])) s.no_statements (p 3 1) s.no_case_blocks)) (p 1 1) (p 4 1)) s.no_statements) }); procedures = None; end = (record { name = None; at = (p 5 1) }) }) ≡ true
unfolding judged_statements
accepted_7 = refl

-- select case (1); case (:3); case (@:1); end select; end
refused_44_1 : answers (record { name = None; uses = []; body = (record { implicit_none = None; declarations = []; statements = (s.more_statements (s.case_construct (f.number 1 kinds.Unstated (p 1 14)) (s.more_case_blocks (s.ranges ((s.at_most (f.number 3 kinds.Unstated (p 2 8)) (p 2 7)) ∷ [])) s.no_statements (p 2 1) (s.more_case_blocks (s.ranges ((s.at_most (f.number 1 kinds.Unstated (p 3 8)) (p 3 7)) ∷ [])) s.no_statements (p 3 1) s.no_case_blocks)) (p 1 1) (p 4 1)) s.no_statements) }); procedures = None; end = (record { name = None; at = (p 5 1) }) }) 44 3 7 ≡ true
unfolding judged_statements
refused_44_1 = refl

-- print *, f(@1:2); contains; integer function f(i); integer, intent(in) :: i; f = i; end function; end
refused_45_1 : answers (record { name = None; uses = []; body = (record { implicit_none = None; declarations = []; statements = (s.more_statements (s.action (s.print s.free ((s.value (f.designator (f.part_ref (n (codes "f") 1 10) (f.more_section_subscripts (f.triplet (f.given (f.number 1 kinds.Unstated (p 1 12))) (f.given (f.number 2 kinds.Unstated (p 1 14))) f.missing (p 1 12)) f.no_section_subscripts) f.no_image_selector))) ∷ [])) (p 1 1)) s.no_statements) }); procedures = (Some ((record { heading = (u.function ((u.result_type (s.integer None)) ∷ []) (n (codes "f") 3 18) ((n (codes "i") 3 20) ∷ []) None); body = (record { implicit_none = None; declarations = ((record { type_spec = (s.integer None); attributes = ((s.intent intents.In) ∷ []); entities = ((record { name = (n (codes "i") 4 24); dimensions = []; coshape = None; initial = None }) ∷ []); at = (p 4 1) }) ∷ []); statements = (s.more_statements (s.action (s.assignment (f.part_ref (n (codes "f") 5 1) f.no_section_subscripts f.no_image_selector) (f.designator (f.part_ref (n (codes "i") 5 5) f.no_section_subscripts f.no_image_selector))) (p 5 1)) s.no_statements) }); end = (record { name = None; at = (p 6 1) }); at = (p 3 1) }) ∷ [])); end = (record { name = None; at = (p 7 1) }) }) 45 1 12 ≡ true
unfolding judged_statements
refused_45_1 = refl

-- print *, abs(@1:2); end
refused_59_1 : answers (record { name = None; uses = []; body = (record { implicit_none = None; declarations = []; statements = (s.more_statements (s.action (s.print s.free ((s.value (f.designator (f.part_ref (n (codes "abs") 1 10) (f.more_section_subscripts (f.triplet (f.given (f.number 1 kinds.Unstated (p 1 14))) (f.given (f.number 2 kinds.Unstated (p 1 16))) f.missing (p 1 14)) f.no_section_subscripts) f.no_image_selector))) ∷ [])) (p 1 1)) s.no_statements) }); procedures = None; end = (record { name = None; at = (p 2 1) }) }) 59 1 14 ≡ true
unfolding judged_statements
refused_59_1 = refl

-- contains; recursive integer function f(n) result(r); integer, intent(in) :: n; r = 1; if (n > 0) r = f(n - 1); end
-- function; end
accepted_8 : accepted (record { name = None; uses = []; body = (record { implicit_none = None; declarations = []; statements = s.no_statements }); procedures = (Some ((record { heading = (u.function ((u.recursive) ∷ (u.result_type (s.integer None)) ∷ []) (n (codes "f") 2 28) ((n (codes "n") 2 30) ∷ []) (Some (n (codes "r") 2 40))); body = (record { implicit_none = None; declarations = ((record { type_spec = (s.integer None); attributes = ((s.intent intents.In) ∷ []); entities = ((record { name = (n (codes "n") 3 24); dimensions = []; coshape = None; initial = None }) ∷ []); at = (p 3 1) }) ∷ []); statements = (s.more_statements (s.action (s.assignment (f.part_ref (n (codes "r") 4 1) f.no_section_subscripts f.no_image_selector) (f.number 1 kinds.Unstated (p 4 5))) (p 4 1)) (s.more_statements (s.action (s.if_statement (f.binary operators.Greater (f.designator (f.part_ref (n (codes "n") 5 5) f.no_section_subscripts f.no_image_selector)) (f.number 0 kinds.Unstated (p 5 9)) (p 5 5)) (s.assignment (f.part_ref (n (codes "r") 5 12) f.no_section_subscripts f.no_image_selector) (f.designator (f.part_ref (n (codes "f") 5 16) (f.more_section_subscripts (f.subscript (f.binary operators.Subtract (f.designator (f.part_ref (n (codes "n") 5 18) f.no_section_subscripts f.no_image_selector)) (f.number 1 kinds.Unstated (p 5 22)) (p 5 18))) f.no_section_subscripts) f.no_image_selector))) (p 5 12)) (p 5 1)) s.no_statements)) }); end = (record { name = None; at = (p 6 1) }); at = (p 2 1) }) ∷ [])); end = (record { name = None; at = (p 7 1) }) }) ≡ true
unfolding judged_statements
accepted_8 = refl

-- integer :: x[*]; event wait (@x[1]); end
refused_49_1 : answers (record { name = None; uses = []; body = (record { implicit_none = None; declarations = ((record { type_spec = (s.integer None); attributes = []; entities = ((record { name = (n (codes "x") 1 12); dimensions = []; coshape = (Some (s.explicit_coshape [] None)); initial = None }) ∷ []); at = (p 1 1) }) ∷ []); statements = (s.more_statements (s.action (s.event_wait (f.part_ref (n (codes "x") 2 13) f.no_section_subscripts (f.image_selector (f.more_expressions (f.number 1 kinds.Unstated (p 2 15)) f.no_expressions) f.no_specifiers)) f.no_specifiers) (p 2 1)) s.no_statements) }); procedures = None; end = (record { name = None; at = (p 3 1) }) }) 49 2 13 ≡ true
unfolding judged_statements
refused_49_1 = refl

-- integer :: x[*], y(2)[*]; sync images (x[1]); sync images (y); sync images ([1, 2]); end
accepted_9 : accepted (record { name = None; uses = []; body = (record { implicit_none = None; declarations = ((record { type_spec = (s.integer None); attributes = []; entities = ((record { name = (n (codes "x") 1 12); dimensions = []; coshape = (Some (s.explicit_coshape [] None)); initial = None }) ∷ (record { name = (n (codes "y") 1 18); dimensions = ((s.explicit (record { lower = None; upper = (f.number 2 kinds.Unstated (p 1 20)) })) ∷ []); coshape = (Some (s.explicit_coshape [] None)); initial = None }) ∷ []); at = (p 1 1) }) ∷ []); statements = (s.more_statements (s.action (s.sync_images (s.images (f.designator (f.part_ref (n (codes "x") 2 14) f.no_section_subscripts (f.image_selector (f.more_expressions (f.number 1 kinds.Unstated (p 2 16)) f.no_expressions) f.no_specifiers)))) f.no_specifiers) (p 2 1)) (s.more_statements (s.action (s.sync_images (s.images (f.designator (f.part_ref (n (codes "y") 3 14) f.no_section_subscripts f.no_image_selector))) f.no_specifiers) (p 3 1)) (s.more_statements (s.action (s.sync_images (s.images (f.array_constructor (f.more_expressions (f.number 1 kinds.Unstated (p 4 15)) (f.more_expressions (f.number 2 kinds.Unstated (p 4 18)) f.no_expressions)) (p 4 14))) f.no_specifiers) (p 4 1)) s.no_statements))) }); procedures = None; end = (record { name = None; at = (p 5 1) }) }) ≡ true
unfolding judged_statements
accepted_9 = refl

-- integer :: x(2)[*]; integer(8) :: o; logical :: l[*], b; call atomic_add(x(1), 1_8); call atomic_fetch_add(x(2)[1],
-- 1, o); call atomic_cas(l, b, .true., .false.); end
accepted_10 : accepted (record { name = None; uses = []; body = (record { implicit_none = None; declarations = ((record { type_spec = (s.integer None); attributes = []; entities = ((record { name = (n (codes "x") 1 12); dimensions = ((s.explicit (record { lower = None; upper = (f.number 2 kinds.Unstated (p 1 14)) })) ∷ []); coshape = (Some (s.explicit_coshape [] None)); initial = None }) ∷ []); at = (p 1 1) }) ∷ (record { type_spec = (s.integer (Some (f.number 8 kinds.Unstated (p 2 9)))); attributes = []; entities = ((record { name = (n (codes "o") 2 15); dimensions = []; coshape = None; initial = None }) ∷ []); at = (p 2 1) }) ∷ (record { type_spec = (s.logical None); attributes = []; entities = ((record { name = (n (codes "l") 3 12); dimensions = []; coshape = (Some (s.explicit_coshape [] None)); initial = None }) ∷ (record { name = (n (codes "b") 3 18); dimensions = []; coshape = None; initial = None }) ∷ []); at = (p 3 1) }) ∷ []); statements = (s.more_statements (s.action (s.call (n (codes "atomic_add") 4 6) (Some (f.more_arguments None (f.designator (f.part_ref (n (codes "x") 4 17) (f.more_section_subscripts (f.subscript (f.number 1 kinds.Unstated (p 4 19))) f.no_section_subscripts) f.no_image_selector)) (f.more_arguments None (f.number 1 kinds.Eight (p 4 23)) f.no_arguments)))) (p 4 1)) (s.more_statements (s.action (s.call (n (codes "atomic_fetch_add") 5 6) (Some (f.more_arguments None (f.designator (f.part_ref (n (codes "x") 5 23) (f.more_section_subscripts (f.subscript (f.number 2 kinds.Unstated (p 5 25))) f.no_section_subscripts) (f.image_selector (f.more_expressions (f.number 1 kinds.Unstated (p 5 28)) f.no_expressions) f.no_specifiers))) (f.more_arguments None (f.number 1 kinds.Unstated (p 5 32)) (f.more_arguments None (f.designator (f.part_ref (n (codes "o") 5 35) f.no_section_subscripts f.no_image_selector)) f.no_arguments))))) (p 5 1)) (s.more_statements (s.action (s.call (n (codes "atomic_cas") 6 6) (Some (f.more_arguments None (f.designator (f.part_ref (n (codes "l") 6 17) f.no_section_subscripts f.no_image_selector)) (f.more_arguments None (f.designator (f.part_ref (n (codes "b") 6 20) f.no_section_subscripts f.no_image_selector)) (f.more_arguments None (f.logical true (p 6 23)) (f.more_arguments None (f.logical false (p 6 31)) f.no_arguments)))))) (p 6 1)) s.no_statements))) }); procedures = None; end = (record { name = None; at = (p 7 1) }) }) ≡ true
unfolding judged_statements
accepted_10 = refl

-- print @'(i00)', 1; end
refused_57_1 : answers (record { name = None; uses = []; body = (record { implicit_none = None; declarations = []; statements = (s.more_statements (s.action (s.print (s.written (record { text = (codes "(i00)"); at = (p 1 7) })) ((s.value (f.number 1 kinds.Unstated (p 1 16))) ∷ [])) (p 1 1)) s.no_statements) }); procedures = None; end = (record { name = None; at = (p 2 1) }) }) 57 1 7 ≡ true
unfolding judged_statements
refused_57_1 = refl

-- print @'(i0,)', 1; end
refused_57_2 : answers (record { name = None; uses = []; body = (record { implicit_none = None; declarations = []; statements = (s.more_statements (s.action (s.print (s.written (record { text = (codes "(i0,)"); at = (p 1 7) })) ((s.value (f.number 1 kinds.Unstated (p 1 16))) ∷ [])) (p 1 1)) s.no_statements) }); procedures = None; end = (record { name = None; at = (p 2 1) }) }) 57 1 7 ≡ true
unfolding judged_statements
refused_57_2 = refl

-- print ' ( 1 0 I 5 , "a, b" , l9 , 2 x , A ) ', 1; end
accepted_11 : accepted (record { name = None; uses = []; body = (record { implicit_none = None; declarations = []; statements = (s.more_statements (s.action (s.print (s.written (record { text = (32 ∷ 40 ∷ 32 ∷ 49 ∷ 32 ∷ 48 ∷ 32 ∷ 73 ∷ 32 ∷ 53 ∷ 32 ∷ 44 ∷ 32 ∷ 34 ∷ 97 ∷ 44 ∷ 32 ∷ 98 ∷ 34 ∷ 32 ∷ 44 ∷ 32 ∷ 108 ∷ 57 ∷ 32 ∷ 44 ∷ 32 ∷ 50 ∷ 32 ∷ 120 ∷ 32 ∷ 44 ∷ 32 ∷ 65 ∷ 32 ∷ 41 ∷ 32 ∷ []); at = (p 1 7) })) ((s.value (f.number 1 kinds.Unstated (p 1 48))) ∷ [])) (p 1 1)) s.no_statements) }); procedures = None; end = (record { name = None; at = (p 2 1) }) }) ≡ true
unfolding judged_statements
accepted_11 = refl

-- print *, num_images(@.true.); end
refused_59_2 : answers (record { name = None; uses = []; body = (record { implicit_none = None; declarations = []; statements = (s.more_statements (s.action (s.print s.free ((s.value (f.designator (f.part_ref (n (codes "num_images") 1 10) (f.more_section_subscripts (f.subscript (f.logical true (p 1 21))) f.no_section_subscripts) f.no_image_selector))) ∷ [])) (p 1 1)) s.no_statements) }); procedures = None; end = (record { name = None; at = (p 2 1) }) }) 59 1 21 ≡ true
unfolding judged_statements
refused_59_2 = refl

-- print *, num_images(team=@.true.); end
refused_51_1 : answers (record { name = None; uses = []; body = (record { implicit_none = None; declarations = []; statements = (s.more_statements (s.action (s.print s.free ((s.value (f.function_reference (n (codes "num_images") 1 10) (f.more_arguments (Some (n (codes "team") 1 21)) (f.logical true (p 1 26)) f.no_arguments))) ∷ [])) (p 1 1)) s.no_statements) }); procedures = None; end = (record { name = None; at = (p 2 1) }) }) 51 1 26 ≡ true
unfolding judged_statements
refused_51_1 = refl

-- use iso_fortran_env; type(team_type) :: t, u; t = get_team(); u = t; t = (u); print *, team_number(t),
-- team_number(get_team(level=parent_team)); end
accepted_12 : accepted (record { name = None; uses = ((record { nature = natures.Unstated; module_name = (n (codes "iso_fortran_env") 1 5); only = None; at = (p 1 1) }) ∷ []); body = (record { implicit_none = None; declarations = ((record { type_spec = (s.derived (n (codes "team_type") 2 6)); attributes = []; entities = ((record { name = (n (codes "t") 2 20); dimensions = []; coshape = None; initial = None }) ∷ (record { name = (n (codes "u") 2 23); dimensions = []; coshape = None; initial = None }) ∷ []); at = (p 2 1) }) ∷ []); statements = (s.more_statements (s.action (s.assignment (f.part_ref (n (codes "t") 3 1) f.no_section_subscripts f.no_image_selector) (f.function_reference (n (codes "get_team") 3 5) f.no_arguments)) (p 3 1)) (s.more_statements (s.action (s.assignment (f.part_ref (n (codes "u") 4 1) f.no_section_subscripts f.no_image_selector) (f.designator (f.part_ref (n (codes "t") 4 5) f.no_section_subscripts f.no_image_selector))) (p 4 1)) (s.more_statements (s.action (s.assignment (f.part_ref (n (codes "t") 5 1) f.no_section_subscripts f.no_image_selector) (f.parenthesized (f.designator (f.part_ref (n (codes "u") 5 6) f.no_section_subscripts f.no_image_selector)) (p 5 5))) (p 5 1)) (s.more_statements (s.action (s.print s.free ((s.value (f.designator (f.part_ref (n (codes "team_number") 6 10) (f.more_section_subscripts (f.subscript (f.designator (f.part_ref (n (codes "t") 6 22) f.no_section_subscripts f.no_image_selector))) f.no_section_subscripts) f.no_image_selector))) ∷ (s.value (f.designator (f.part_ref (n (codes "team_number") 6 26) (f.more_section_subscripts (f.subscript (f.function_reference (n (codes "get_team") 6 38) (f.more_arguments (Some (n (codes "level") 6 47)) (f.designator (f.part_ref (n (codes "parent_team") 6 53) f.no_section_subscripts f.no_image_selector)) f.no_arguments))) f.no_section_subscripts) f.no_image_selector))) ∷ [])) (p 6 1)) s.no_statements)))) }); procedures = None; end = (record { name = None; at = (p 7 1) }) }) ≡ true
unfolding judged_statements
accepted_12 = refl

-- print *, @.true. + zz; end
refused_31_1 : answers (record { name = None; uses = []; body = (record { implicit_none = None; declarations = []; statements = (s.more_statements (s.action (s.print s.free ((s.value (f.binary operators.Add (f.logical true (p 1 10)) (f.designator (f.part_ref (n (codes "zz") 1 19) f.no_section_subscripts f.no_image_selector)) (p 1 10))) ∷ [])) (p 1 1)) s.no_statements) }); procedures = None; end = (record { name = None; at = (p 2 1) }) }) 31 1 10 ≡ true
unfolding judged_statements
refused_31_1 = refl
