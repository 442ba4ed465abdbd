-- Statements that break a rule, and statements like them that break none, worked out by hand.
use Rattle.std.proofs.Common.{◌≡◌, true, [], ◌∷◌, refl, codes, Some, None}
use Rattle.fortran_tree.specs.declared.expr.NumberKind.TheVariants as kinds
use Rattle.fortran_tree.specs.declared.declaration.Intent.TheVariants as intents
use Rattle.fortran_tree.specs.declared.unit.ModuleNature.TheVariants as natures
use Rattle.fortran_tree.specs.declared.unit.Recursion.TheVariants as recursions
use Rattle.fortran_tree.specs.Expressions as f
use Rattle.fortran_tree.specs.Statements as s
use Rattle.fortran_tree.specs.Units as u
use Rattle.rule_definitions.proofs.Trees.{p, n, answers, accepted}
use Rattle.rule_definitions.specs.Statements.{judged_statements}

-- an assignment between unlike types: integer :: a; a = .true.; end
unlike_types : answers (record { name = None; uses = ([]); body = (record { implicit_none = None; declarations = ((record { type_spec = (s.integer None); attributes = ([]); entities = ((record { name = (n (codes "a") 1 12); dimensions = ([]); coshape = None; initial = None }) ∷ []); at = (p 1 1) }) ∷ []); statements = (s.more_statements (s.action (s.assignment (f.part_ref (n (codes "a") 2 1) f.no_section_subscripts f.no_image_selector) (f.logical true (p 2 5))) (p 2 1)) s.no_statements) }); procedures = None; end = record { name = None; at = (p 3 1) } }) 32 2 1 ≡ true
unfolding judged_statements
unlike_types = refl

-- to a constant: integer, parameter :: n = 1; n = 2; end
constant_set : answers (record { name = None; uses = ([]); body = (record { implicit_none = None; declarations = ((record { type_spec = (s.integer None); attributes = (s.parameter ∷ []); entities = ((record { name = (n (codes "n") 1 23); dimensions = ([]); coshape = None; initial = (Some (f.number 1 kinds.Unstated (p 1 27))) }) ∷ []); at = (p 1 1) }) ∷ []); statements = (s.more_statements (s.action (s.assignment (f.part_ref (n (codes "n") 2 1) f.no_section_subscripts f.no_image_selector) (f.number 2 kinds.Unstated (p 2 5))) (p 2 1)) s.no_statements) }); procedures = None; end = record { name = None; at = (p 3 1) } }) 32 2 1 ≡ true
unfolding judged_statements
constant_set = refl

-- to an active DO variable: integer :: i; do i = 1, 3; i = 4; end do; end
loop_variable_set : answers (record { name = None; uses = ([]); body = (record { implicit_none = None; declarations = ((record { type_spec = (s.integer None); attributes = ([]); entities = ((record { name = (n (codes "i") 1 12); dimensions = ([]); coshape = None; initial = None }) ∷ []); at = (p 1 1) }) ∷ []); statements = (s.more_statements (s.do_construct None (s.counted (n (codes "i") 2 4) (f.number 1 kinds.Unstated (p 2 8)) (f.number 3 kinds.Unstated (p 2 11)) None) (s.more_statements (s.action (s.assignment (f.part_ref (n (codes "i") 3 1) f.no_section_subscripts f.no_image_selector) (f.number 4 kinds.Unstated (p 3 5))) (p 3 1)) s.no_statements) (p 2 1) (record { name = None; at = (p 1 1) })) s.no_statements) }); procedures = None; end = record { name = None; at = (p 5 1) } }) 32 3 1 ≡ true
unfolding judged_statements
loop_variable_set = refl

-- which no inner loop may have either: integer :: i; do i = 1, 3; do i = 1, 3; end do; end do; end
loop_in_loop : answers (record { name = None; uses = ([]); body = (record { implicit_none = None; declarations = ((record { type_spec = (s.integer None); attributes = ([]); entities = ((record { name = (n (codes "i") 1 12); dimensions = ([]); coshape = None; initial = None }) ∷ []); at = (p 1 1) }) ∷ []); statements = (s.more_statements (s.do_construct None (s.counted (n (codes "i") 2 4) (f.number 1 kinds.Unstated (p 2 8)) (f.number 3 kinds.Unstated (p 2 11)) None) (s.more_statements (s.do_construct None (s.counted (n (codes "i") 3 4) (f.number 1 kinds.Unstated (p 3 8)) (f.number 3 kinds.Unstated (p 3 11)) None) s.no_statements (p 3 1) (record { name = None; at = (p 1 1) })) s.no_statements) (p 2 1) (record { name = None; at = (p 1 1) })) s.no_statements) }); procedures = None; end = record { name = None; at = (p 6 1) } }) 32 3 4 ≡ true
unfolding judged_statements
loop_in_loop = refl

-- to an IN dummy: call s(1); contains; subroutine s(a); integer, intent(in) :: a; a = 2; end subroutine; end
intent_in_set : answers (record { name = None; uses = ([]); body = (record { implicit_none = None; declarations = ([]); statements = (s.more_statements (s.action (s.call (n (codes "s") 1 6) (Some (f.more_arguments None (f.number 1 kinds.Unstated (p 1 8)) f.no_arguments))) (p 1 1)) s.no_statements) }); procedures = (Some ((record { heading = (u.subroutine recursions.Unstated (n (codes "s") 3 12) (Some ((n (codes "a") 3 14) ∷ []))); body = (record { implicit_none = None; declarations = ((record { type_spec = (s.integer None); attributes = ((s.intent intents.In) ∷ []); entities = ((record { name = (n (codes "a") 4 24); dimensions = ([]); coshape = None; initial = None }) ∷ []); at = (p 4 1) }) ∷ []); statements = (s.more_statements (s.action (s.assignment (f.part_ref (n (codes "a") 5 1) f.no_section_subscripts f.no_image_selector) (f.number 2 kinds.Unstated (p 5 5))) (p 5 1)) s.no_statements) }); end = record { name = None; at = (p 6 1) }; at = (p 3 1) }) ∷ [])); end = record { name = None; at = (p 7 1) } }) 32 5 1 ≡ true
unfolding judged_statements
intent_in_set = refl

-- behind its loop the variable may be set: integer :: i; do i = 1, 3; end do; i = 4; end
behind_the_loop : accepted (record { name = None; uses = ([]); body = (record { implicit_none = None; declarations = ((record { type_spec = (s.integer None); attributes = ([]); entities = ((record { name = (n (codes "i") 1 12); dimensions = ([]); coshape = None; initial = None }) ∷ []); at = (p 1 1) }) ∷ []); statements = (s.more_statements (s.do_construct None (s.counted (n (codes "i") 2 4) (f.number 1 kinds.Unstated (p 2 8)) (f.number 3 kinds.Unstated (p 2 11)) None) s.no_statements (p 2 1) (record { name = None; at = (p 1 1) })) (s.more_statements (s.action (s.assignment (f.part_ref (n (codes "i") 4 1) f.no_section_subscripts f.no_image_selector) (f.number 4 kinds.Unstated (p 4 5))) (p 4 1)) s.no_statements)) }); procedures = None; end = record { name = None; at = (p 5 1) } }) ≡ true
unfolding judged_statements
behind_the_loop = refl

-- an array of another rank: integer :: a(2, 2), b(4); a = b; end
other_rank : answers (record { name = None; uses = ([]); body = (record { implicit_none = None; declarations = ((record { type_spec = (s.integer None); attributes = ([]); entities = ((record { name = (n (codes "a") 1 12); dimensions = ((s.explicit (record { lower = None; upper = (f.number 2 kinds.Unstated (p 1 14)) })) ∷ (s.explicit (record { lower = None; upper = (f.number 2 kinds.Unstated (p 1 17)) })) ∷ []); coshape = None; initial = None }) ∷ (record { name = (n (codes "b") 1 21); dimensions = ((s.explicit (record { lower = None; upper = (f.number 4 kinds.Unstated (p 1 23)) })) ∷ []); coshape = None; initial = None }) ∷ []); at = (p 1 1) }) ∷ []); statements = (s.more_statements (s.action (s.assignment (f.part_ref (n (codes "a") 2 1) f.no_section_subscripts f.no_image_selector) (f.designator (f.part_ref (n (codes "b") 2 5) f.no_section_subscripts f.no_image_selector))) (p 2 1)) s.no_statements) }); procedures = None; end = record { name = None; at = (p 3 1) } }) 38 2 5 ≡ true
unfolding judged_statements
other_rank = refl

-- an array in brackets: integer :: a(2), b(2); a = (b); end
bracketed_array : answers (record { name = None; uses = ([]); body = (record { implicit_none = None; declarations = ((record { type_spec = (s.integer None); attributes = ([]); entities = ((record { name = (n (codes "a") 1 12); dimensions = ((s.explicit (record { lower = None; upper = (f.number 2 kinds.Unstated (p 1 14)) })) ∷ []); coshape = None; initial = None }) ∷ (record { name = (n (codes "b") 1 18); dimensions = ((s.explicit (record { lower = None; upper = (f.number 2 kinds.Unstated (p 1 20)) })) ∷ []); coshape = None; initial = None }) ∷ []); at = (p 1 1) }) ∷ []); statements = (s.more_statements (s.action (s.assignment (f.part_ref (n (codes "a") 2 1) f.no_section_subscripts f.no_image_selector) (f.parenthesized (f.designator (f.part_ref (n (codes "b") 2 6) f.no_section_subscripts f.no_image_selector)) (p 2 5))) (p 2 1)) s.no_statements) }); procedures = None; end = record { name = None; at = (p 3 1) } }) 38 2 5 ≡ true
unfolding judged_statements
bracketed_array = refl

-- a scalar, an array, a constructor: integer :: a(2), b(2); a = 0; b = a; a = [1, 2]; end
scalar_spread : accepted (record { name = None; uses = ([]); body = (record { implicit_none = None; declarations = ((record { type_spec = (s.integer None); attributes = ([]); entities = ((record { name = (n (codes "a") 1 12); dimensions = ((s.explicit (record { lower = None; upper = (f.number 2 kinds.Unstated (p 1 14)) })) ∷ []); coshape = None; initial = None }) ∷ (record { name = (n (codes "b") 1 18); dimensions = ((s.explicit (record { lower = None; upper = (f.number 2 kinds.Unstated (p 1 20)) })) ∷ []); coshape = None; initial = None }) ∷ []); at = (p 1 1) }) ∷ []); statements = (s.more_statements (s.action (s.assignment (f.part_ref (n (codes "a") 2 1) f.no_section_subscripts f.no_image_selector) (f.number 0 kinds.Unstated (p 2 5))) (p 2 1)) (s.more_statements (s.action (s.assignment (f.part_ref (n (codes "b") 3 1) f.no_section_subscripts f.no_image_selector) (f.designator (f.part_ref (n (codes "a") 3 5) f.no_section_subscripts f.no_image_selector))) (p 3 1)) (s.more_statements (s.action (s.assignment (f.part_ref (n (codes "a") 4 1) f.no_section_subscripts f.no_image_selector) (f.array_constructor (f.more_expressions (f.number 1 kinds.Unstated (p 4 6)) (f.more_expressions (f.number 2 kinds.Unstated (p 4 9)) f.no_expressions)) (p 4 5))) (p 4 1)) s.no_statements))) }); procedures = None; end = record { name = None; at = (p 5 1) } }) ≡ true
unfolding judged_statements
scalar_spread = refl

-- an array for a scalar: integer :: a, b(2); a = b; end
array_into_scalar : answers (record { name = None; uses = ([]); body = (record { implicit_none = None; declarations = ((record { type_spec = (s.integer None); attributes = ([]); entities = ((record { name = (n (codes "a") 1 12); dimensions = ([]); coshape = None; initial = None }) ∷ (record { name = (n (codes "b") 1 15); dimensions = ((s.explicit (record { lower = None; upper = (f.number 2 kinds.Unstated (p 1 17)) })) ∷ []); coshape = None; initial = None }) ∷ []); at = (p 1 1) }) ∷ []); statements = (s.more_statements (s.action (s.assignment (f.part_ref (n (codes "a") 2 1) f.no_section_subscripts f.no_image_selector) (f.designator (f.part_ref (n (codes "b") 2 5) f.no_section_subscripts f.no_image_selector))) (p 2 1)) s.no_statements) }); procedures = None; end = record { name = None; at = (p 3 1) } }) 37 2 5 ≡ true
unfolding judged_statements
array_into_scalar = refl

-- a condition that is no logical: if (1) stop; end
integer_condition : answers (record { name = None; uses = ([]); body = (record { implicit_none = None; declarations = ([]); statements = (s.more_statements (s.action (s.if_statement (f.number 1 kinds.Unstated (p 1 5)) (s.stop None) (p 1 8)) (p 1 1)) s.no_statements) }); procedures = None; end = record { name = None; at = (p 2 1) } }) 39 1 5 ≡ true
unfolding judged_statements
integer_condition = refl

-- a STOP code that is no integer: stop .true.; end
logical_code : answers (record { name = None; uses = ([]); body = (record { implicit_none = None; declarations = ([]); statements = (s.more_statements (s.action (s.stop (Some (f.logical true (p 1 6)))) (p 1 1)) s.no_statements) }); procedures = None; end = record { name = None; at = (p 2 1) } }) 39 1 6 ≡ true
unfolding judged_statements
logical_code = refl

-- a DO bound that is none: integer :: i; do i = 1, .true.; end do; end
logical_bound : answers (record { name = None; uses = ([]); body = (record { implicit_none = None; declarations = ((record { type_spec = (s.integer None); attributes = ([]); entities = ((record { name = (n (codes "i") 1 12); dimensions = ([]); coshape = None; initial = None }) ∷ []); at = (p 1 1) }) ∷ []); statements = (s.more_statements (s.do_construct None (s.counted (n (codes "i") 2 4) (f.number 1 kinds.Unstated (p 2 8)) (f.logical true (p 2 11)) None) s.no_statements (p 2 1) (record { name = None; at = (p 1 1) })) s.no_statements) }); procedures = None; end = record { name = None; at = (p 4 1) } }) 39 2 11 ≡ true
unfolding judged_statements
logical_bound = refl

-- a DO variable that is an array: integer :: i(2); do i = 1, 3; end do; end
array_counter : answers (record { name = None; uses = ([]); body = (record { implicit_none = None; declarations = ((record { type_spec = (s.integer None); attributes = ([]); entities = ((record { name = (n (codes "i") 1 12); dimensions = ((s.explicit (record { lower = None; upper = (f.number 2 kinds.Unstated (p 1 14)) })) ∷ []); coshape = None; initial = None }) ∷ []); at = (p 1 1) }) ∷ []); statements = (s.more_statements (s.do_construct None (s.counted (n (codes "i") 2 4) (f.number 1 kinds.Unstated (p 2 8)) (f.number 3 kinds.Unstated (p 2 11)) None) s.no_statements (p 2 1) (record { name = None; at = (p 1 1) })) s.no_statements) }); procedures = None; end = record { name = None; at = (p 4 1) } }) 40 2 4 ≡ true
unfolding judged_statements
array_counter = refl

-- or a coarray: integer :: i[*]; do i = 1, 3; end do; end
coarray_counter : answers (record { name = None; uses = ([]); body = (record { implicit_none = None; declarations = ((record { type_spec = (s.integer None); attributes = ([]); entities = ((record { name = (n (codes "i") 1 12); dimensions = ([]); coshape = (Some (s.explicit_coshape ([]) None)); initial = None }) ∷ []); at = (p 1 1) }) ∷ []); statements = (s.more_statements (s.do_construct None (s.counted (n (codes "i") 2 4) (f.number 1 kinds.Unstated (p 2 8)) (f.number 3 kinds.Unstated (p 2 11)) None) s.no_statements (p 2 1) (record { name = None; at = (p 1 1) })) s.no_statements) }); procedures = None; end = record { name = None; at = (p 4 1) } }) 40 2 4 ≡ true
unfolding judged_statements
coarray_counter = refl

-- EXIT outside of a loop: exit; end
exit_alone : answers (record { name = None; uses = ([]); body = (record { implicit_none = None; declarations = ([]); statements = (s.more_statements (s.action (s.exit None) (p 1 1)) s.no_statements) }); procedures = None; end = record { name = None; at = (p 2 1) } }) 41 1 1 ≡ true
unfolding judged_statements
exit_alone = refl

-- CYCLE of another name: a: do; cycle b; end do a; end
cycle_other : answers (record { name = None; uses = ([]); body = (record { implicit_none = None; declarations = ([]); statements = (s.more_statements (s.do_construct (Some (n (codes "a") 1 1)) s.unlimited (s.more_statements (s.action (s.cycle (Some (n (codes "b") 2 7))) (p 2 1)) s.no_statements) (p 1 1) (record { name = (Some (n (codes "a") 3 8)); at = (p 1 1) })) s.no_statements) }); procedures = None; end = record { name = None; at = (p 4 1) } }) 41 2 7 ≡ true
unfolding judged_statements
cycle_other = refl

-- another name behind END DO: a: do; exit a; end do b; end
end_other : answers (record { name = None; uses = ([]); body = (record { implicit_none = None; declarations = ([]); statements = (s.more_statements (s.do_construct (Some (n (codes "a") 1 1)) s.unlimited (s.more_statements (s.action (s.exit (Some (n (codes "a") 2 6))) (p 2 1)) s.no_statements) (p 1 1) (record { name = (Some (n (codes "b") 3 8)); at = (p 1 1) })) s.no_statements) }); procedures = None; end = record { name = None; at = (p 4 1) } }) 41 3 8 ≡ true
unfolding judged_statements
end_other = refl

-- EXIT of an outer loop: a: do; do; exit a; end do; end do a; end
exit_of_outer : accepted (record { name = None; uses = ([]); body = (record { implicit_none = None; declarations = ([]); statements = (s.more_statements (s.do_construct (Some (n (codes "a") 1 1)) s.unlimited (s.more_statements (s.do_construct None s.unlimited (s.more_statements (s.action (s.exit (Some (n (codes "a") 3 6))) (p 3 1)) s.no_statements) (p 2 1) (record { name = None; at = (p 1 1) })) s.no_statements) (p 1 1) (record { name = (Some (n (codes "a") 5 8)); at = (p 1 1) })) s.no_statements) }); procedures = None; end = record { name = None; at = (p 6 1) } }) ≡ true
unfolding judged_statements
exit_of_outer = refl

-- EXIT out of a CRITICAL: do; critical; exit; end critical; end do; end
exit_of_critical : answers (record { name = None; uses = ([]); body = (record { implicit_none = None; declarations = ([]); statements = (s.more_statements (s.do_construct None s.unlimited (s.more_statements (s.critical_construct s.absent (s.more_statements (s.action (s.exit None) (p 3 1)) s.no_statements) (p 2 1) (p 4 1)) s.no_statements) (p 1 1) (record { name = None; at = (p 1 1) })) s.no_statements) }); procedures = None; end = record { name = None; at = (p 6 1) } }) 42 3 1 ≡ true
unfolding judged_statements
exit_of_critical = refl

-- RETURN out of one: critical; return; end critical; end
return_in_critical : answers (record { name = None; uses = ([]); body = (record { implicit_none = None; declarations = ([]); statements = (s.more_statements (s.critical_construct s.absent (s.more_statements (s.action s.return (p 2 1)) s.no_statements) (p 1 1) (p 3 1)) s.no_statements) }); procedures = None; end = record { name = None; at = (p 4 1) } }) 42 2 1 ≡ true
unfolding judged_statements
return_in_critical = refl

-- a loop that is inside: critical; do; exit; end do; end critical; end
loop_in_critical : accepted (record { name = None; uses = ([]); body = (record { implicit_none = None; declarations = ([]); statements = (s.more_statements (s.critical_construct s.absent (s.more_statements (s.do_construct None s.unlimited (s.more_statements (s.action (s.exit None) (p 3 1)) s.no_statements) (p 2 1) (record { name = None; at = (p 1 1) })) s.no_statements) (p 1 1) (p 5 1)) s.no_statements) }); procedures = None; end = record { name = None; at = (p 6 1) } }) ≡ true
unfolding judged_statements
loop_in_critical = refl

-- an image control statement in a CRITICAL: critical; sync all; end critical; end
sync_in_critical : answers (record { name = None; uses = ([]); body = (record { implicit_none = None; declarations = ([]); statements = (s.more_statements (s.critical_construct s.absent (s.more_statements (s.action (s.sync_all (Some f.no_specifiers)) (p 2 1)) s.no_statements) (p 1 1) (p 3 1)) s.no_statements) }); procedures = None; end = record { name = None; at = (p 4 1) } }) 43 2 1 ≡ true
unfolding judged_statements
sync_in_critical = refl

-- STOP is one: critical; stop; end critical; end
stop_in_critical : answers (record { name = None; uses = ([]); body = (record { implicit_none = None; declarations = ([]); statements = (s.more_statements (s.critical_construct s.absent (s.more_statements (s.action (s.stop None) (p 2 1)) s.no_statements) (p 1 1) (p 3 1)) s.no_statements) }); procedures = None; end = record { name = None; at = (p 4 1) } }) 43 2 1 ≡ true
unfolding judged_statements
stop_in_critical = refl

-- a case value that isn't constant: integer :: a; select case (a); case (a); end select; end
case_variable : answers (record { name = None; uses = ([]); body = (record { implicit_none = None; declarations = ((record { type_spec = (s.integer None); attributes = ([]); entities = ((record { name = (n (codes "a") 1 12); dimensions = ([]); coshape = None; initial = None }) ∷ []); at = (p 1 1) }) ∷ []); statements = (s.more_statements (s.case_construct (f.designator (f.part_ref (n (codes "a") 2 14) f.no_section_subscripts f.no_image_selector)) (s.more_case_blocks (s.ranges ((s.single (f.designator (f.part_ref (n (codes "a") 3 7) f.no_section_subscripts f.no_image_selector))) ∷ [])) s.no_statements (p 3 1) s.no_case_blocks) (p 2 1) (p 1 1)) s.no_statements) }); procedures = None; end = record { name = None; at = (p 5 1) } }) 44 3 7 ≡ true
unfolding judged_statements
case_variable = refl

-- or of another type: integer :: a; select case (a); case (.true.); end select; end
case_logical : answers (record { name = None; uses = ([]); body = (record { implicit_none = None; declarations = ((record { type_spec = (s.integer None); attributes = ([]); entities = ((record { name = (n (codes "a") 1 12); dimensions = ([]); coshape = None; initial = None }) ∷ []); at = (p 1 1) }) ∷ []); statements = (s.more_statements (s.case_construct (f.designator (f.part_ref (n (codes "a") 2 14) f.no_section_subscripts f.no_image_selector)) (s.more_case_blocks (s.ranges ((s.single (f.logical true (p 3 7))) ∷ [])) s.no_statements (p 3 1) s.no_case_blocks) (p 2 1) (p 1 1)) s.no_statements) }); procedures = None; end = record { name = None; at = (p 5 1) } }) 44 3 7 ≡ true
unfolding judged_statements
case_logical = refl

-- cases that overlap: integer :: a; select case (a); case (1:3); case (3); end select; end
cases_overlap : answers (record { name = None; uses = ([]); body = (record { implicit_none = None; declarations = ((record { type_spec = (s.integer None); attributes = ([]); entities = ((record { name = (n (codes "a") 1 12); dimensions = ([]); coshape = None; initial = None }) ∷ []); at = (p 1 1) }) ∷ []); statements = (s.more_statements (s.case_construct (f.designator (f.part_ref (n (codes "a") 2 14) f.no_section_subscripts f.no_image_selector)) (s.more_case_blocks (s.ranges ((s.between (f.number 1 kinds.Unstated (p 3 7)) (f.number 3 kinds.Unstated (p 3 9))) ∷ [])) s.no_statements (p 3 1) (s.more_case_blocks (s.ranges ((s.single (f.number 3 kinds.Unstated (p 4 7))) ∷ [])) s.no_statements (p 4 1) s.no_case_blocks)) (p 2 1) (p 1 1)) s.no_statements) }); procedures = None; end = record { name = None; at = (p 6 1) } }) 44 4 7 ≡ true
unfolding judged_statements
cases_overlap = refl

-- two defaults: select case (1); case default; case default; end select; end
two_defaults : answers (record { name = None; uses = ([]); body = (record { implicit_none = None; declarations = ([]); statements = (s.more_statements (s.case_construct (f.number 1 kinds.Unstated (p 1 14)) (s.more_case_blocks s.default s.no_statements (p 2 1) (s.more_case_blocks s.default s.no_statements (p 3 1) s.no_case_blocks)) (p 1 1) (p 1 1)) s.no_statements) }); procedures = None; end = record { name = None; at = (p 5 1) } }) 44 3 1 ≡ true
unfolding judged_statements
two_defaults = refl

-- cases that don't: integer :: a; select case (a); case (:1, 5); case (2:4); case default; end select; end
cases_apart : accepted (record { name = None; uses = ([]); body = (record { implicit_none = None; declarations = ((record { type_spec = (s.integer None); attributes = ([]); entities = ((record { name = (n (codes "a") 1 12); dimensions = ([]); coshape = None; initial = None }) ∷ []); at = (p 1 1) }) ∷ []); statements = (s.more_statements (s.case_construct (f.designator (f.part_ref (n (codes "a") 2 14) f.no_section_subscripts f.no_image_selector)) (s.more_case_blocks (s.ranges ((s.at_most (f.number 1 kinds.Unstated (p 3 8)) (p 3 7)) ∷ (s.single (f.number 5 kinds.Unstated (p 3 11))) ∷ [])) s.no_statements (p 3 1) (s.more_case_blocks (s.ranges ((s.between (f.number 2 kinds.Unstated (p 4 7)) (f.number 4 kinds.Unstated (p 4 9))) ∷ [])) s.no_statements (p 4 1) (s.more_case_blocks s.default s.no_statements (p 5 1) s.no_case_blocks))) (p 2 1) (p 1 1)) s.no_statements) }); procedures = None; end = record { name = None; at = (p 7 1) } }) ≡ true
unfolding judged_statements
cases_apart = refl

-- a lock that is none: integer :: x[*]; lock (x); end
lock_of_integer : answers (record { name = None; uses = ([]); body = (record { implicit_none = None; declarations = ((record { type_spec = (s.integer None); attributes = ([]); entities = ((record { name = (n (codes "x") 1 12); dimensions = ([]); coshape = (Some (s.explicit_coshape ([]) None)); initial = None }) ∷ []); at = (p 1 1) }) ∷ []); statements = (s.more_statements (s.action (s.lock (f.part_ref (n (codes "x") 2 7) f.no_section_subscripts f.no_image_selector) f.no_specifiers) (p 2 1)) s.no_statements) }); procedures = None; end = record { name = None; at = (p 3 1) } }) 48 2 7 ≡ true
unfolding judged_statements
lock_of_integer = refl

-- an array of locks: use iso_fortran_env; type(lock_type) :: l(2)[*]; unlock (l); end
lock_of_array : answers (record { name = None; uses = ((record { nature = natures.Unstated; module_name = (n (codes "iso_fortran_env") 1 5); only = None; at = (p 1 1) }) ∷ []); body = (record { implicit_none = None; declarations = ((record { type_spec = (s.derived (n (codes "lock_type") 2 6)); attributes = ([]); entities = ((record { name = (n (codes "l") 2 20); dimensions = ((s.explicit (record { lower = None; upper = (f.number 2 kinds.Unstated (p 2 22)) })) ∷ []); coshape = (Some (s.explicit_coshape ([]) None)); initial = None }) ∷ []); at = (p 2 1) }) ∷ []); statements = (s.more_statements (s.action (s.unlock (f.part_ref (n (codes "l") 3 9) f.no_section_subscripts f.no_image_selector) f.no_specifiers) (p 3 1)) s.no_statements) }); procedures = None; end = record { name = None; at = (p 4 1) } }) 48 3 9 ≡ true
unfolding judged_statements
lock_of_array = refl

-- an event that is none: integer :: x[*]; event post (x); end
post_of_integer : answers (record { name = None; uses = ([]); body = (record { implicit_none = None; declarations = ((record { type_spec = (s.integer None); attributes = ([]); entities = ((record { name = (n (codes "x") 1 12); dimensions = ([]); coshape = (Some (s.explicit_coshape ([]) None)); initial = None }) ∷ []); at = (p 1 1) }) ∷ []); statements = (s.more_statements (s.action (s.event_post (f.part_ref (n (codes "x") 2 13) f.no_section_subscripts f.no_image_selector) f.no_specifiers) (p 2 1)) s.no_statements) }); procedures = None; end = record { name = None; at = (p 3 1) } }) 49 2 13 ≡ true
unfolding judged_statements
post_of_integer = refl

-- of EVENT_QUERY too: integer :: x[*], c; call event_query(x, c); end
query_of_integer : answers (record { name = None; uses = ([]); body = (record { implicit_none = None; declarations = ((record { type_spec = (s.integer None); attributes = ([]); entities = ((record { name = (n (codes "x") 1 12); dimensions = ([]); coshape = (Some (s.explicit_coshape ([]) None)); initial = None }) ∷ (record { name = (n (codes "c") 1 18); dimensions = ([]); coshape = None; initial = None }) ∷ []); at = (p 1 1) }) ∷ []); statements = (s.more_statements (s.action (s.call (n (codes "event_query") 2 6) (Some (f.more_arguments None (f.designator (f.part_ref (n (codes "x") 2 18) f.no_section_subscripts f.no_image_selector)) (f.more_arguments None (f.designator (f.part_ref (n (codes "c") 2 21) f.no_section_subscripts f.no_image_selector)) f.no_arguments)))) (p 2 1)) s.no_statements) }); procedures = None; end = record { name = None; at = (p 3 1) } }) 49 2 18 ≡ true
unfolding judged_statements
query_of_integer = refl

-- EVENT WAIT of another image's event: use iso_fortran_env; type(event_type) :: e[*]; event wait (e[1]); end
wait_coindexed : answers (record { name = None; uses = ((record { nature = natures.Unstated; module_name = (n (codes "iso_fortran_env") 1 5); only = None; at = (p 1 1) }) ∷ []); body = (record { implicit_none = None; declarations = ((record { type_spec = (s.derived (n (codes "event_type") 2 6)); attributes = ([]); entities = ((record { name = (n (codes "e") 2 21); dimensions = ([]); coshape = (Some (s.explicit_coshape ([]) None)); initial = None }) ∷ []); at = (p 2 1) }) ∷ []); statements = (s.more_statements (s.action (s.event_wait (f.part_ref (n (codes "e") 3 13) f.no_section_subscripts (f.image_selector (f.more_expressions (f.number 1 kinds.Unstated (p 3 15)) f.no_expressions) f.no_specifiers)) f.no_specifiers) (p 3 1)) s.no_statements) }); procedures = None; end = record { name = None; at = (p 4 1) } }) 50 3 13 ≡ true
unfolding judged_statements
wait_coindexed = refl

-- EVENT_QUERY of one: use iso_fortran_env; type(event_type) :: e[*]; integer :: c; call event_query(e[1], c); end
query_coindexed : answers (record { name = None; uses = ((record { nature = natures.Unstated; module_name = (n (codes "iso_fortran_env") 1 5); only = None; at = (p 1 1) }) ∷ []); body = (record { implicit_none = None; declarations = ((record { type_spec = (s.derived (n (codes "event_type") 2 6)); attributes = ([]); entities = ((record { name = (n (codes "e") 2 21); dimensions = ([]); coshape = (Some (s.explicit_coshape ([]) None)); initial = None }) ∷ []); at = (p 2 1) }) ∷ (record { type_spec = (s.integer None); attributes = ([]); entities = ((record { name = (n (codes "c") 3 12); dimensions = ([]); coshape = None; initial = None }) ∷ []); at = (p 3 1) }) ∷ []); statements = (s.more_statements (s.action (s.call (n (codes "event_query") 4 6) (Some (f.more_arguments None (f.designator (f.part_ref (n (codes "e") 4 18) f.no_section_subscripts (f.image_selector (f.more_expressions (f.number 1 kinds.Unstated (p 4 20)) f.no_expressions) f.no_specifiers))) (f.more_arguments None (f.designator (f.part_ref (n (codes "c") 4 24) f.no_section_subscripts f.no_image_selector)) f.no_arguments)))) (p 4 1)) s.no_statements) }); procedures = None; end = record { name = None; at = (p 5 1) } }) 50 4 18 ≡ true
unfolding judged_statements
query_coindexed = refl

-- EVENT POST may have it: use iso_fortran_env; type(event_type) :: e[*]; event post (e[1]); event wait (e,
-- until_count=2); end
post_coindexed : accepted (record { name = None; uses = ((record { nature = natures.Unstated; module_name = (n (codes "iso_fortran_env") 1 5); only = None; at = (p 1 1) }) ∷ []); body = (record { implicit_none = None; declarations = ((record { type_spec = (s.derived (n (codes "event_type") 2 6)); attributes = ([]); entities = ((record { name = (n (codes "e") 2 21); dimensions = ([]); coshape = (Some (s.explicit_coshape ([]) None)); initial = None }) ∷ []); at = (p 2 1) }) ∷ []); statements = (s.more_statements (s.action (s.event_post (f.part_ref (n (codes "e") 3 13) f.no_section_subscripts (f.image_selector (f.more_expressions (f.number 1 kinds.Unstated (p 3 15)) f.no_expressions) f.no_specifiers)) f.no_specifiers) (p 3 1)) (s.more_statements (s.action (s.event_wait (f.part_ref (n (codes "e") 4 13) f.no_section_subscripts f.no_image_selector) (f.more_specifiers (n (codes "until_count") 4 16) (f.number 2 kinds.Unstated (p 4 28)) f.no_specifiers)) (p 4 1)) s.no_statements)) }); procedures = None; end = record { name = None; at = (p 5 1) } }) ≡ true
unfolding judged_statements
post_coindexed = refl

-- an image set that is no integer: sync images (.true.); end
logical_images : answers (record { name = None; uses = ([]); body = (record { implicit_none = None; declarations = ([]); statements = (s.more_statements (s.action (s.sync_images (s.images (f.logical true (p 1 14))) f.no_specifiers) (p 1 1)) s.no_statements) }); procedures = None; end = record { name = None; at = (p 2 1) } }) 52 1 14 ≡ true
unfolding judged_statements
logical_images = refl

-- one of rank two: integer :: a(2, 2); sync images (a); end
table_of_images : answers (record { name = None; uses = ([]); body = (record { implicit_none = None; declarations = ((record { type_spec = (s.integer None); attributes = ([]); entities = ((record { name = (n (codes "a") 1 12); dimensions = ((s.explicit (record { lower = None; upper = (f.number 2 kinds.Unstated (p 1 14)) })) ∷ (s.explicit (record { lower = None; upper = (f.number 2 kinds.Unstated (p 1 17)) })) ∷ []); coshape = None; initial = None }) ∷ []); at = (p 1 1) }) ∷ []); statements = (s.more_statements (s.action (s.sync_images (s.images (f.designator (f.part_ref (n (codes "a") 2 14) f.no_section_subscripts f.no_image_selector))) f.no_specifiers) (p 2 1)) s.no_statements) }); procedures = None; end = record { name = None; at = (p 3 1) } }) 52 2 14 ≡ true
unfolding judged_statements
table_of_images = refl

-- an ATOM that is no coarray: integer :: a; call atomic_add(a, 1); end
atom_alone : answers (record { name = None; uses = ([]); body = (record { implicit_none = None; declarations = ((record { type_spec = (s.integer None); attributes = ([]); entities = ((record { name = (n (codes "a") 1 12); dimensions = ([]); coshape = None; initial = None }) ∷ []); at = (p 1 1) }) ∷ []); statements = (s.more_statements (s.action (s.call (n (codes "atomic_add") 2 6) (Some (f.more_arguments None (f.designator (f.part_ref (n (codes "a") 2 17) f.no_section_subscripts f.no_image_selector)) (f.more_arguments None (f.number 1 kinds.Unstated (p 2 20)) f.no_arguments)))) (p 2 1)) s.no_statements) }); procedures = None; end = record { name = None; at = (p 3 1) } }) 53 2 17 ≡ true
unfolding judged_statements
atom_alone = refl

-- one of kind 8: integer(8) :: a[*]; call atomic_define(a, 1); end
atom_of_eight : answers (record { name = None; uses = ([]); body = (record { implicit_none = None; declarations = ((record { type_spec = (s.integer (Some (f.number 8 kinds.Unstated (p 1 9)))); attributes = ([]); entities = ((record { name = (n (codes "a") 1 15); dimensions = ([]); coshape = (Some (s.explicit_coshape ([]) None)); initial = None }) ∷ []); at = (p 1 1) }) ∷ []); statements = (s.more_statements (s.action (s.call (n (codes "atomic_define") 2 6) (Some (f.more_arguments None (f.designator (f.part_ref (n (codes "a") 2 20) f.no_section_subscripts f.no_image_selector)) (f.more_arguments None (f.number 1 kinds.Unstated (p 2 23)) f.no_arguments)))) (p 2 1)) s.no_statements) }); procedures = None; end = record { name = None; at = (p 3 1) } }) 53 2 20 ≡ true
unfolding judged_statements
atom_of_eight = refl

-- atomic calls: integer :: a[*], o; logical :: b[*]; call atomic_fetch_add(a[1], 1, o); call atomic_define(b, .true.);
-- end
atoms : accepted (record { name = None; uses = ([]); body = (record { implicit_none = None; declarations = ((record { type_spec = (s.integer None); attributes = ([]); entities = ((record { name = (n (codes "a") 1 12); dimensions = ([]); coshape = (Some (s.explicit_coshape ([]) None)); initial = None }) ∷ (record { name = (n (codes "o") 1 18); dimensions = ([]); coshape = None; initial = None }) ∷ []); at = (p 1 1) }) ∷ (record { type_spec = (s.logical None); attributes = ([]); entities = ((record { name = (n (codes "b") 2 12); dimensions = ([]); coshape = (Some (s.explicit_coshape ([]) None)); initial = None }) ∷ []); at = (p 2 1) }) ∷ []); statements = (s.more_statements (s.action (s.call (n (codes "atomic_fetch_add") 3 6) (Some (f.more_arguments None (f.designator (f.part_ref (n (codes "a") 3 23) f.no_section_subscripts (f.image_selector (f.more_expressions (f.number 1 kinds.Unstated (p 3 25)) f.no_expressions) f.no_specifiers))) (f.more_arguments None (f.number 1 kinds.Unstated (p 3 29)) (f.more_arguments None (f.designator (f.part_ref (n (codes "o") 3 32) f.no_section_subscripts f.no_image_selector)) f.no_arguments))))) (p 3 1)) (s.more_statements (s.action (s.call (n (codes "atomic_define") 4 6) (Some (f.more_arguments None (f.designator (f.part_ref (n (codes "b") 4 20) f.no_section_subscripts f.no_image_selector)) (f.more_arguments None (f.logical true (p 4 23)) f.no_arguments)))) (p 4 1)) s.no_statements)) }); procedures = None; end = record { name = None; at = (p 5 1) } }) ≡ true
unfolding judged_statements
atoms = refl

-- a collective of a value: call co_sum(1); end
collective_of_value : answers (record { name = None; uses = ([]); body = (record { implicit_none = None; declarations = ([]); statements = (s.more_statements (s.action (s.call (n (codes "co_sum") 1 6) (Some (f.more_arguments None (f.number 1 kinds.Unstated (p 1 13)) f.no_arguments))) (p 1 1)) s.no_statements) }); procedures = None; end = record { name = None; at = (p 2 1) } }) 54 1 13 ≡ true
unfolding judged_statements
collective_of_value = refl

-- CO_MAX of a logical: logical :: b; call co_max(b); end
collective_of_logical : answers (record { name = None; uses = ([]); body = (record { implicit_none = None; declarations = ((record { type_spec = (s.logical None); attributes = ([]); entities = ((record { name = (n (codes "b") 1 12); dimensions = ([]); coshape = None; initial = None }) ∷ []); at = (p 1 1) }) ∷ []); statements = (s.more_statements (s.action (s.call (n (codes "co_max") 2 6) (Some (f.more_arguments None (f.designator (f.part_ref (n (codes "b") 2 13) f.no_section_subscripts f.no_image_selector)) f.no_arguments))) (p 2 1)) s.no_statements) }); procedures = None; end = record { name = None; at = (p 3 1) } }) 54 2 13 ≡ true
unfolding judged_statements
collective_of_logical = refl

-- CO_BROADCAST of one: logical :: b; call co_broadcast(b, 1); end
broadcast_of_logical : accepted (record { name = None; uses = ([]); body = (record { implicit_none = None; declarations = ((record { type_spec = (s.logical None); attributes = ([]); entities = ((record { name = (n (codes "b") 1 12); dimensions = ([]); coshape = None; initial = None }) ∷ []); at = (p 1 1) }) ∷ []); statements = (s.more_statements (s.action (s.call (n (codes "co_broadcast") 2 6) (Some (f.more_arguments None (f.designator (f.part_ref (n (codes "b") 2 19) f.no_section_subscripts f.no_image_selector)) (f.more_arguments None (f.number 1 kinds.Unstated (p 2 22)) f.no_arguments)))) (p 2 1)) s.no_statements) }); procedures = None; end = record { name = None; at = (p 3 1) } }) ≡ true
unfolding judged_statements
broadcast_of_logical = refl

-- ALLOCATE of what isn't allocatable: integer :: a; allocate (a); end
allocate_of_none : answers (record { name = None; uses = ([]); body = (record { implicit_none = None; declarations = ((record { type_spec = (s.integer None); attributes = ([]); entities = ((record { name = (n (codes "a") 1 12); dimensions = ([]); coshape = None; initial = None }) ∷ []); at = (p 1 1) }) ∷ []); statements = (s.more_statements (s.action (s.allocate ((record { name = (n (codes "a") 2 11); bounds = ([]); cobounds = None }) ∷ []) f.no_specifiers) (p 2 1)) s.no_statements) }); procedures = None; end = record { name = None; at = (p 3 1) } }) 55 2 11 ≡ true
unfolding judged_statements
allocate_of_none = refl

-- of an array without bounds: integer, allocatable :: a(:); allocate (a); end
allocate_without_bounds : answers (record { name = None; uses = ([]); body = (record { implicit_none = None; declarations = ((record { type_spec = (s.integer None); attributes = (s.allocatable ∷ []); entities = ((record { name = (n (codes "a") 1 25); dimensions = ((s.deferred (p 1 27)) ∷ []); coshape = None; initial = None }) ∷ []); at = (p 1 1) }) ∷ []); statements = (s.more_statements (s.action (s.allocate ((record { name = (n (codes "a") 2 11); bounds = ([]); cobounds = None }) ∷ []) f.no_specifiers) (p 2 1)) s.no_statements) }); procedures = None; end = record { name = None; at = (p 3 1) } }) 55 2 11 ≡ true
unfolding judged_statements
allocate_without_bounds = refl

-- DEALLOCATE of what isn't allocatable: integer :: a(2); deallocate (a); end
deallocate_of_none : answers (record { name = None; uses = ([]); body = (record { implicit_none = None; declarations = ((record { type_spec = (s.integer None); attributes = ([]); entities = ((record { name = (n (codes "a") 1 12); dimensions = ((s.explicit (record { lower = None; upper = (f.number 2 kinds.Unstated (p 1 14)) })) ∷ []); coshape = None; initial = None }) ∷ []); at = (p 1 1) }) ∷ []); statements = (s.more_statements (s.action (s.deallocate ((n (codes "a") 2 13) ∷ []) f.no_specifiers) (p 2 1)) s.no_statements) }); procedures = None; end = record { name = None; at = (p 3 1) } }) 55 2 13 ≡ true
unfolding judged_statements
deallocate_of_none = refl

-- ALLOCATE of both: integer, allocatable :: a(:), x(:)[:]; integer :: s; allocate (a(2), x(0:3)[*], stat=s); deallocate
-- (x, a); end
allocated : accepted (record { name = None; uses = ([]); body = (record { implicit_none = None; declarations = ((record { type_spec = (s.integer None); attributes = (s.allocatable ∷ []); entities = ((record { name = (n (codes "a") 1 25); dimensions = ((s.deferred (p 1 27)) ∷ []); coshape = None; initial = None }) ∷ (record { name = (n (codes "x") 1 31); dimensions = ((s.deferred (p 1 33)) ∷ []); coshape = (Some (s.deferred_coshape 1)); initial = None }) ∷ []); at = (p 1 1) }) ∷ (record { type_spec = (s.integer None); attributes = ([]); entities = ((record { name = (n (codes "s") 2 12); dimensions = ([]); coshape = None; initial = None }) ∷ []); at = (p 2 1) }) ∷ []); statements = (s.more_statements (s.action (s.allocate ((record { name = (n (codes "a") 3 11); bounds = ((s.explicit (record { lower = None; upper = (f.number 2 kinds.Unstated (p 3 13)) })) ∷ []); cobounds = None }) ∷ (record { name = (n (codes "x") 3 17); bounds = ((s.explicit (record { lower = (Some (f.number 0 kinds.Unstated (p 3 19))); upper = (f.number 3 kinds.Unstated (p 3 21)) })) ∷ []); cobounds = (Some (s.explicit_coshape ([]) None)) }) ∷ []) (f.more_specifiers (n (codes "stat") 3 28) (f.designator (f.part_ref (n (codes "s") 3 33) f.no_section_subscripts f.no_image_selector)) f.no_specifiers)) (p 3 1)) (s.more_statements (s.action (s.deallocate ((n (codes "x") 4 13) ∷ (n (codes "a") 4 16) ∷ []) f.no_specifiers) (p 4 1)) s.no_statements)) }); procedures = None; end = record { name = None; at = (p 5 1) } }) ≡ true
unfolding judged_statements
allocated = refl

-- a list of images into a scalar: integer :: a; a = failed_images(); end
list_into_scalar : answers (record { name = None; uses = ([]); body = (record { implicit_none = None; declarations = ((record { type_spec = (s.integer None); attributes = ([]); entities = ((record { name = (n (codes "a") 1 12); dimensions = ([]); coshape = None; initial = None }) ∷ []); at = (p 1 1) }) ∷ []); statements = (s.more_statements (s.action (s.assignment (f.part_ref (n (codes "a") 2 1) f.no_section_subscripts f.no_image_selector) (f.function_reference (n (codes "failed_images") 2 5) f.no_arguments)) (p 2 1)) s.no_statements) }); procedures = None; end = record { name = None; at = (p 3 1) } }) 56 2 5 ≡ true
unfolding judged_statements
list_into_scalar = refl

-- into an allocatable array: integer, allocatable :: a(:); a = stopped_images(); end
list_into_list : accepted (record { name = None; uses = ([]); body = (record { implicit_none = None; declarations = ((record { type_spec = (s.integer None); attributes = (s.allocatable ∷ []); entities = ((record { name = (n (codes "a") 1 25); dimensions = ((s.deferred (p 1 27)) ∷ []); coshape = None; initial = None }) ∷ []); at = (p 1 1) }) ∷ []); statements = (s.more_statements (s.action (s.assignment (f.part_ref (n (codes "a") 2 1) f.no_section_subscripts f.no_image_selector) (f.function_reference (n (codes "stopped_images") 2 5) f.no_arguments)) (p 2 1)) s.no_statements) }); procedures = None; end = record { name = None; at = (p 3 1) } }) ≡ true
unfolding judged_statements
list_into_list = refl

-- a text that is no format: print '(q)', 1; end
no_format : answers (record { name = None; uses = ([]); body = (record { implicit_none = None; declarations = ([]); statements = (s.more_statements (s.action (s.print (s.written (record { text = (codes "(q)"); at = (p 1 7) })) (s.value (f.number 1 kinds.Unstated (p 1 14)) ∷ [])) (p 1 1)) s.no_statements) }); procedures = None; end = record { name = None; at = (p 2 1) } }) 57 1 7 ≡ true
unfolding judged_statements
no_format = refl

-- one without a data descriptor: print '(3x)', 1; end
format_without_data : answers (record { name = None; uses = ([]); body = (record { implicit_none = None; declarations = ([]); statements = (s.more_statements (s.action (s.print (s.written (record { text = (codes "(3x)"); at = (p 1 7) })) (s.value (f.number 1 kinds.Unstated (p 1 15)) ∷ [])) (p 1 1)) s.no_statements) }); procedures = None; end = record { name = None; at = (p 2 1) } }) 57 1 7 ≡ true
unfolding judged_statements
format_without_data = refl

-- a format: print '(a, 2I3, l2, 1x, i0)', 'it', 1, 2, .true., 3; end
formatted : accepted (record { name = None; uses = ([]); body = (record { implicit_none = None; declarations = ([]); statements = (s.more_statements (s.action (s.print (s.written (record { text = (codes "(a, 2I3, l2, 1x, i0)"); at = (p 1 7) })) (s.quoted (record { text = (codes "it"); at = (p 1 31) }) ∷ s.value (f.number 1 kinds.Unstated (p 1 37)) ∷ s.value (f.number 2 kinds.Unstated (p 1 40)) ∷ s.value (f.logical true (p 1 43)) ∷ s.value (f.number 3 kinds.Unstated (p 1 51)) ∷ [])) (p 1 1)) s.no_statements) }); procedures = None; end = record { name = None; at = (p 2 1) } }) ≡ true
unfolding judged_statements
formatted = refl

-- a team that is printed: use iso_fortran_env; type(team_type) :: t; print *, t; end
printed_team : answers (record { name = None; uses = ((record { nature = natures.Unstated; module_name = (n (codes "iso_fortran_env") 1 5); only = None; at = (p 1 1) }) ∷ []); body = (record { implicit_none = None; declarations = ((record { type_spec = (s.derived (n (codes "team_type") 2 6)); attributes = ([]); entities = ((record { name = (n (codes "t") 2 20); dimensions = ([]); coshape = None; initial = None }) ∷ []); at = (p 2 1) }) ∷ []); statements = (s.more_statements (s.action (s.print s.free (s.value (f.designator (f.part_ref (n (codes "t") 3 10) f.no_section_subscripts f.no_image_selector)) ∷ [])) (p 3 1)) s.no_statements) }); procedures = None; end = record { name = None; at = (p 4 1) } }) 58 3 10 ≡ true
unfolding judged_statements
printed_team = refl

-- or a lock: use iso_fortran_env; type(lock_type) :: l[*]; print *, l; end
printed_lock : answers (record { name = None; uses = ((record { nature = natures.Unstated; module_name = (n (codes "iso_fortran_env") 1 5); only = None; at = (p 1 1) }) ∷ []); body = (record { implicit_none = None; declarations = ((record { type_spec = (s.derived (n (codes "lock_type") 2 6)); attributes = ([]); entities = ((record { name = (n (codes "l") 2 20); dimensions = ([]); coshape = (Some (s.explicit_coshape ([]) None)); initial = None }) ∷ []); at = (p 2 1) }) ∷ []); statements = (s.more_statements (s.action (s.print s.free (s.value (f.designator (f.part_ref (n (codes "l") 3 10) f.no_section_subscripts f.no_image_selector)) ∷ [])) (p 3 1)) s.no_statements) }); procedures = None; end = record { name = None; at = (p 4 1) } }) 58 3 10 ≡ true
unfolding judged_statements
printed_lock = refl

-- a specifier that SYNC ALL hasn't: integer :: s; sync all (until_count=s); end
unknown_specifier : answers (record { name = None; uses = ([]); body = (record { implicit_none = None; declarations = ((record { type_spec = (s.integer None); attributes = ([]); entities = ((record { name = (n (codes "s") 1 12); dimensions = ([]); coshape = None; initial = None }) ∷ []); at = (p 1 1) }) ∷ []); statements = (s.more_statements (s.action (s.sync_all (Some (f.more_specifiers (n (codes "until_count") 2 11) (f.designator (f.part_ref (n (codes "s") 2 23) f.no_section_subscripts f.no_image_selector)) f.no_specifiers))) (p 2 1)) s.no_statements) }); procedures = None; end = record { name = None; at = (p 3 1) } }) 35 2 11 ≡ true
unfolding judged_statements
unknown_specifier = refl

-- teams: use iso_fortran_env; type(team_type) :: t; integer :: s; form team (1, t, new_index=1, stat=s); change team
-- (t); sync team (t); end team (stat=s); end
teams_formed : accepted (record { name = None; uses = ((record { nature = natures.Unstated; module_name = (n (codes "iso_fortran_env") 1 5); only = None; at = (p 1 1) }) ∷ []); body = (record { implicit_none = None; declarations = ((record { type_spec = (s.derived (n (codes "team_type") 2 6)); attributes = ([]); entities = ((record { name = (n (codes "t") 2 20); dimensions = ([]); coshape = None; initial = None }) ∷ []); at = (p 2 1) }) ∷ (record { type_spec = (s.integer None); attributes = ([]); entities = ((record { name = (n (codes "s") 3 12); dimensions = ([]); coshape = None; initial = None }) ∷ []); at = (p 3 1) }) ∷ []); statements = (s.more_statements (s.action (s.form_team (f.number 1 kinds.Unstated (p 4 12)) (n (codes "t") 4 15) (f.more_specifiers (n (codes "new_index") 4 18) (f.number 1 kinds.Unstated (p 4 28)) (f.more_specifiers (n (codes "stat") 4 31) (f.designator (f.part_ref (n (codes "s") 4 36) f.no_section_subscripts f.no_image_selector)) f.no_specifiers))) (p 4 1)) (s.more_statements (s.change_team_construct (f.designator (f.part_ref (n (codes "t") 5 14) f.no_section_subscripts f.no_image_selector)) f.no_specifiers (s.more_statements (s.action (s.sync_team (f.designator (f.part_ref (n (codes "t") 6 12) f.no_section_subscripts f.no_image_selector)) f.no_specifiers) (p 6 1)) s.no_statements) (s.present (n (codes "stat") 7 11) (f.designator (f.part_ref (n (codes "s") 7 16) f.no_section_subscripts f.no_image_selector))) (p 5 1) (p 7 1)) s.no_statements)) }); procedures = None; end = record { name = None; at = (p 8 1) } }) ≡ true
unfolding judged_statements
teams_formed = refl
