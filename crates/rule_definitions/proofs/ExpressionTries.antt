-- Expressions that break a rule, and expressions like them that break none, worked out by hand.
use Rattle.std.proofs.Common.{◌≡◌, true, [], ◌∷◌, refl, codes, Some, None}
use Rattle.fortran_tree.specs.declared.expr.NumberKind.TheVariants as kinds
use Rattle.fortran_tree.specs.declared.expr.Operator.TheVariants as operators
use Rattle.fortran_tree.specs.declared.expr.PrefixOperator.TheVariants as prefixes
use Rattle.fortran_tree.specs.declared.declaration.Intent.TheVariants as intents
use Rattle.fortran_tree.specs.declared.unit.ModuleNature.TheVariants as natures
use Rattle.fortran_tree.specs.declared.unit.Recursion.TheVariants as recursions
use Rattle.fortran_tree.specs.Expressions as f
use Rattle.fortran_tree.specs.Statements as s
use Rattle.fortran_tree.specs.Units as u
use Rattle.rule_definitions.proofs.Trees.{p, n, answers, accepted}
use Rattle.rule_definitions.specs.Statements.{judged_statements}

-- an operand of another type: print *, 1 + .true.; end
logical_operand : answers (record { name = None; uses = ([]); body = (record { implicit_none = None; declarations = ([]); statements = (s.more_statements (s.action (s.print s.free (s.value (f.binary operators.Add (f.number 1 kinds.Unstated (p 1 10)) (f.logical true (p 1 14)) (p 1 10)) ∷ [])) (p 1 1)) s.no_statements) }); procedures = None; end = record { name = None; at = (p 2 1) } }) 31 1 14 ≡ true
unfolding judged_statements
logical_operand = refl

-- of NOT too: print *, .not. 1; end
integer_operand : answers (record { name = None; uses = ([]); body = (record { implicit_none = None; declarations = ([]); statements = (s.more_statements (s.action (s.print s.free (s.value (f.prefix prefixes.Not (f.number 1 kinds.Unstated (p 1 16)) (p 1 10)) ∷ [])) (p 1 1)) s.no_statements) }); procedures = None; end = record { name = None; at = (p 2 1) } }) 31 1 16 ≡ true
unfolding judged_statements
integer_operand = refl

-- a subscript that is no integer: integer :: a(2); print *, a(.true.); end
subscript_type : answers (record { name = None; uses = ([]); body = (record { implicit_none = None; declarations = ((record { type_spec = (s.integer None); attributes = ([]); entities = ((record { name = (n (codes "a") 1 12); dimensions = ((s.explicit (record { lower = None; upper = (f.number 2 kinds.Unstated (p 1 14)) })) ∷ []); coshape = None; initial = None }) ∷ []); at = (p 1 1) }) ∷ []); statements = (s.more_statements (s.action (s.print s.free (s.value (f.designator (f.part_ref (n (codes "a") 2 10) (f.more_section_subscripts (f.subscript (f.logical true (p 2 12))) f.no_section_subscripts) f.no_image_selector)) ∷ [])) (p 2 1)) s.no_statements) }); procedures = None; end = record { name = None; at = (p 3 1) } }) 31 2 12 ≡ true
unfolding judged_statements
subscript_type = refl

-- items of unlike kind: print *, [1, 2, 3_8]; end
unlike_items : answers (record { name = None; uses = ([]); body = (record { implicit_none = None; declarations = ([]); statements = (s.more_statements (s.action (s.print s.free (s.value (f.array_constructor (f.more_expressions (f.number 1 kinds.Unstated (p 1 11)) (f.more_expressions (f.number 2 kinds.Unstated (p 1 14)) (f.more_expressions (f.number 3 kinds.Eight (p 1 17)) f.no_expressions))) (p 1 10)) ∷ [])) (p 1 1)) s.no_statements) }); procedures = None; end = record { name = None; at = (p 2 1) } }) 31 1 17 ≡ true
unfolding judged_statements
unlike_items = refl

-- operands of the right types: print *, 1 + 2 < 4 .and. .not. (3 == 4); end
compared : accepted (record { name = None; uses = ([]); body = (record { implicit_none = None; declarations = ([]); statements = (s.more_statements (s.action (s.print s.free (s.value (f.binary operators.And (f.binary operators.Less (f.binary operators.Add (f.number 1 kinds.Unstated (p 1 10)) (f.number 2 kinds.Unstated (p 1 14)) (p 1 10)) (f.number 4 kinds.Unstated (p 1 18)) (p 1 10)) (f.prefix prefixes.Not (f.parenthesized (f.binary operators.Equal (f.number 3 kinds.Unstated (p 1 33)) (f.number 4 kinds.Unstated (p 1 38)) (p 1 33)) (p 1 32)) (p 1 26)) (p 1 10)) ∷ [])) (p 1 1)) s.no_statements) }); procedures = None; end = record { name = None; at = (p 2 1) } }) ≡ true
unfolding judged_statements
compared = refl

-- two subscripts of an array of rank one: integer :: a(2); print *, a(1, 1); end
too_many_subscripts : answers (record { name = None; uses = ([]); body = (record { implicit_none = None; declarations = ((record { type_spec = (s.integer None); attributes = ([]); entities = ((record { name = (n (codes "a") 1 12); dimensions = ((s.explicit (record { lower = None; upper = (f.number 2 kinds.Unstated (p 1 14)) })) ∷ []); coshape = None; initial = None }) ∷ []); at = (p 1 1) }) ∷ []); statements = (s.more_statements (s.action (s.print s.free (s.value (f.designator (f.part_ref (n (codes "a") 2 10) (f.more_section_subscripts (f.subscript (f.number 1 kinds.Unstated (p 2 12))) (f.more_section_subscripts (f.subscript (f.number 1 kinds.Unstated (p 2 15))) f.no_section_subscripts)) f.no_image_selector)) ∷ [])) (p 2 1)) s.no_statements) }); procedures = None; end = record { name = None; at = (p 3 1) } }) 33 2 10 ≡ true
unfolding judged_statements
too_many_subscripts = refl

-- one cosubscript of corank two: integer :: a[2, *]; print *, a[1]; end
too_few_cosubscripts : answers (record { name = None; uses = ([]); body = (record { implicit_none = None; declarations = ((record { type_spec = (s.integer None); attributes = ([]); entities = ((record { name = (n (codes "a") 1 12); dimensions = ([]); coshape = (Some (s.explicit_coshape ((record { lower = None; upper = (f.number 2 kinds.Unstated (p 1 14)) }) ∷ []) None)); initial = None }) ∷ []); at = (p 1 1) }) ∷ []); statements = (s.more_statements (s.action (s.print s.free (s.value (f.designator (f.part_ref (n (codes "a") 2 10) f.no_section_subscripts (f.image_selector (f.more_expressions (f.number 1 kinds.Unstated (p 2 12)) f.no_expressions) f.no_specifiers))) ∷ [])) (p 2 1)) s.no_statements) }); procedures = None; end = record { name = None; at = (p 3 1) } }) 33 2 10 ≡ true
unfolding judged_statements
too_few_cosubscripts = refl

-- a coindexed array without subscripts: integer :: a(2)[*]; print *, a[1]; end
coindexed_array : answers (record { name = None; uses = ([]); body = (record { implicit_none = None; declarations = ((record { type_spec = (s.integer None); attributes = ([]); entities = ((record { name = (n (codes "a") 1 12); dimensions = ((s.explicit (record { lower = None; upper = (f.number 2 kinds.Unstated (p 1 14)) })) ∷ []); coshape = (Some (s.explicit_coshape ([]) None)); initial = None }) ∷ []); at = (p 1 1) }) ∷ []); statements = (s.more_statements (s.action (s.print s.free (s.value (f.designator (f.part_ref (n (codes "a") 2 10) f.no_section_subscripts (f.image_selector (f.more_expressions (f.number 1 kinds.Unstated (p 2 12)) f.no_expressions) f.no_specifiers))) ∷ [])) (p 2 1)) s.no_statements) }); procedures = None; end = record { name = None; at = (p 3 1) } }) 33 2 10 ≡ true
unfolding judged_statements
coindexed_array = refl

-- one with them: integer :: a(2)[*]; print *, a(1:2)[1]; end
section_coindexed : accepted (record { name = None; uses = ([]); body = (record { implicit_none = None; declarations = ((record { type_spec = (s.integer None); attributes = ([]); entities = ((record { name = (n (codes "a") 1 12); dimensions = ((s.explicit (record { lower = None; upper = (f.number 2 kinds.Unstated (p 1 14)) })) ∷ []); coshape = (Some (s.explicit_coshape ([]) None)); initial = None }) ∷ []); at = (p 1 1) }) ∷ []); statements = (s.more_statements (s.action (s.print s.free (s.value (f.designator (f.part_ref (n (codes "a") 2 10) (f.more_section_subscripts (f.triplet (f.given (f.number 1 kinds.Unstated (p 2 12))) (f.given (f.number 2 kinds.Unstated (p 2 14))) f.missing (p 2 12)) f.no_section_subscripts) (f.image_selector (f.more_expressions (f.number 1 kinds.Unstated (p 2 17)) f.no_expressions) f.no_specifiers))) ∷ [])) (p 2 1)) s.no_statements) }); procedures = None; end = record { name = None; at = (p 3 1) } }) ≡ true
unfolding judged_statements
section_coindexed = refl

-- a selector on what is no coarray: integer :: a; print *, a[1]; end
selector_of_none : answers (record { name = None; uses = ([]); body = (record { implicit_none = None; declarations = ((record { type_spec = (s.integer None); attributes = ([]); entities = ((record { name = (n (codes "a") 1 12); dimensions = ([]); coshape = None; initial = None }) ∷ []); at = (p 1 1) }) ∷ []); statements = (s.more_statements (s.action (s.print s.free (s.value (f.designator (f.part_ref (n (codes "a") 2 10) f.no_section_subscripts (f.image_selector (f.more_expressions (f.number 1 kinds.Unstated (p 2 12)) f.no_expressions) f.no_specifiers))) ∷ [])) (p 2 1)) s.no_statements) }); procedures = None; end = record { name = None; at = (p 3 1) } }) 34 2 10 ≡ true
unfolding judged_statements
selector_of_none = refl

-- nor on a constant: integer, parameter :: n = 1; print *, n[1]; end
selector_of_constant : answers (record { name = None; uses = ([]); body = (record { implicit_none = None; declarations = ((record { type_spec = (s.integer None); attributes = (s.parameter ∷ []); entities = ((record { name = (n (codes "n") 1 23); dimensions = ([]); coshape = None; initial = (Some (f.number 1 kinds.Unstated (p 1 27))) }) ∷ []); at = (p 1 1) }) ∷ []); statements = (s.more_statements (s.action (s.print s.free (s.value (f.designator (f.part_ref (n (codes "n") 2 10) f.no_section_subscripts (f.image_selector (f.more_expressions (f.number 1 kinds.Unstated (p 2 12)) f.no_expressions) f.no_specifiers))) ∷ [])) (p 2 1)) s.no_statements) }); procedures = None; end = record { name = None; at = (p 3 1) } }) 34 2 10 ≡ true
unfolding judged_statements
selector_of_constant = refl

-- TEAM= and TEAM_NUMBER=: use iso_fortran_env; type(team_type) :: t; integer :: x[*]; print *, x[1, team=t,
-- team_number=1]; end
two_teams : answers (record { name = None; uses = ((record { nature = natures.Unstated; module_name = (n (codes "iso_fortran_env") 1 5); only = None; at = (p 1 1) }) ∷ []); body = (record { implicit_none = None; declarations = ((record { type_spec = (s.derived (n (codes "team_type") 2 6)); attributes = ([]); entities = ((record { name = (n (codes "t") 2 20); dimensions = ([]); coshape = None; initial = None }) ∷ []); at = (p 2 1) }) ∷ (record { type_spec = (s.integer None); attributes = ([]); entities = ((record { name = (n (codes "x") 3 12); dimensions = ([]); coshape = (Some (s.explicit_coshape ([]) None)); initial = None }) ∷ []); at = (p 3 1) }) ∷ []); statements = (s.more_statements (s.action (s.print s.free (s.value (f.designator (f.part_ref (n (codes "x") 4 10) f.no_section_subscripts (f.image_selector (f.more_expressions (f.number 1 kinds.Unstated (p 4 12)) f.no_expressions) (f.more_specifiers (n (codes "team") 4 15) (f.designator (f.part_ref (n (codes "t") 4 20) f.no_section_subscripts f.no_image_selector)) (f.more_specifiers (n (codes "team_number") 4 23) (f.number 1 kinds.Unstated (p 4 35)) f.no_specifiers))))) ∷ [])) (p 4 1)) s.no_statements) }); procedures = None; end = record { name = None; at = (p 5 1) } }) 35 4 23 ≡ true
unfolding judged_statements
two_teams = refl

-- STAT= twice: integer :: x[*], s; print *, x[1, stat=s, stat=s]; end
stat_twice : answers (record { name = None; uses = ([]); body = (record { implicit_none = None; declarations = ((record { type_spec = (s.integer None); attributes = ([]); entities = ((record { name = (n (codes "x") 1 12); dimensions = ([]); coshape = (Some (s.explicit_coshape ([]) None)); initial = None }) ∷ (record { name = (n (codes "s") 1 18); dimensions = ([]); coshape = None; initial = None }) ∷ []); at = (p 1 1) }) ∷ []); statements = (s.more_statements (s.action (s.print s.free (s.value (f.designator (f.part_ref (n (codes "x") 2 10) f.no_section_subscripts (f.image_selector (f.more_expressions (f.number 1 kinds.Unstated (p 2 12)) f.no_expressions) (f.more_specifiers (n (codes "stat") 2 15) (f.designator (f.part_ref (n (codes "s") 2 20) f.no_section_subscripts f.no_image_selector)) (f.more_specifiers (n (codes "stat") 2 23) (f.designator (f.part_ref (n (codes "s") 2 28) f.no_section_subscripts f.no_image_selector)) f.no_specifiers))))) ∷ [])) (p 2 1)) s.no_statements) }); procedures = None; end = record { name = None; at = (p 3 1) } }) 35 2 23 ≡ true
unfolding judged_statements
stat_twice = refl

-- TEAM= alone: use iso_fortran_env; type(team_type) :: t; integer :: x[*]; print *, x[1, team=t]; end
team_given : accepted (record { name = None; uses = ((record { nature = natures.Unstated; module_name = (n (codes "iso_fortran_env") 1 5); only = None; at = (p 1 1) }) ∷ []); body = (record { implicit_none = None; declarations = ((record { type_spec = (s.derived (n (codes "team_type") 2 6)); attributes = ([]); entities = ((record { name = (n (codes "t") 2 20); dimensions = ([]); coshape = None; initial = None }) ∷ []); at = (p 2 1) }) ∷ (record { type_spec = (s.integer None); attributes = ([]); entities = ((record { name = (n (codes "x") 3 12); dimensions = ([]); coshape = (Some (s.explicit_coshape ([]) None)); initial = None }) ∷ []); at = (p 3 1) }) ∷ []); statements = (s.more_statements (s.action (s.print s.free (s.value (f.designator (f.part_ref (n (codes "x") 4 10) f.no_section_subscripts (f.image_selector (f.more_expressions (f.number 1 kinds.Unstated (p 4 12)) f.no_expressions) (f.more_specifiers (n (codes "team") 4 15) (f.designator (f.part_ref (n (codes "t") 4 20) f.no_section_subscripts f.no_image_selector)) f.no_specifiers)))) ∷ [])) (p 4 1)) s.no_statements) }); procedures = None; end = record { name = None; at = (p 5 1) } }) ≡ true
unfolding judged_statements
team_given = refl

-- STAT= of another type: integer :: x[*]; logical :: b; print *, x[1, stat=b]; end
stat_logical : answers (record { name = None; uses = ([]); body = (record { implicit_none = None; declarations = ((record { type_spec = (s.integer None); attributes = ([]); entities = ((record { name = (n (codes "x") 1 12); dimensions = ([]); coshape = (Some (s.explicit_coshape ([]) None)); initial = None }) ∷ []); at = (p 1 1) }) ∷ (record { type_spec = (s.logical None); attributes = ([]); entities = ((record { name = (n (codes "b") 2 12); dimensions = ([]); coshape = None; initial = None }) ∷ []); at = (p 2 1) }) ∷ []); statements = (s.more_statements (s.action (s.print s.free (s.value (f.designator (f.part_ref (n (codes "x") 3 10) f.no_section_subscripts (f.image_selector (f.more_expressions (f.number 1 kinds.Unstated (p 3 12)) f.no_expressions) (f.more_specifiers (n (codes "stat") 3 15) (f.designator (f.part_ref (n (codes "b") 3 20) f.no_section_subscripts f.no_image_selector)) f.no_specifiers)))) ∷ [])) (p 3 1)) s.no_statements) }); procedures = None; end = record { name = None; at = (p 4 1) } }) 36 3 20 ≡ true
unfolding judged_statements
stat_logical = refl

-- a coarray as STAT=: integer :: x[*], s[*]; print *, x[1, stat=s]; end
stat_coarray : answers (record { name = None; uses = ([]); body = (record { implicit_none = None; declarations = ((record { type_spec = (s.integer None); attributes = ([]); entities = ((record { name = (n (codes "x") 1 12); dimensions = ([]); coshape = (Some (s.explicit_coshape ([]) None)); initial = None }) ∷ (record { name = (n (codes "s") 1 18); dimensions = ([]); coshape = (Some (s.explicit_coshape ([]) None)); initial = None }) ∷ []); at = (p 1 1) }) ∷ []); statements = (s.more_statements (s.action (s.print s.free (s.value (f.designator (f.part_ref (n (codes "x") 2 10) f.no_section_subscripts (f.image_selector (f.more_expressions (f.number 1 kinds.Unstated (p 2 12)) f.no_expressions) (f.more_specifiers (n (codes "stat") 2 15) (f.designator (f.part_ref (n (codes "s") 2 20) f.no_section_subscripts f.no_image_selector)) f.no_specifiers)))) ∷ [])) (p 2 1)) s.no_statements) }); procedures = None; end = record { name = None; at = (p 3 1) } }) 36 2 20 ≡ true
unfolding judged_statements
stat_coarray = refl

-- an array operand: integer :: a(2); print *, 1 + a; end
array_operand : answers (record { name = None; uses = ([]); body = (record { implicit_none = None; declarations = ((record { type_spec = (s.integer None); attributes = ([]); entities = ((record { name = (n (codes "a") 1 12); dimensions = ((s.explicit (record { lower = None; upper = (f.number 2 kinds.Unstated (p 1 14)) })) ∷ []); coshape = None; initial = None }) ∷ []); at = (p 1 1) }) ∷ []); statements = (s.more_statements (s.action (s.print s.free (s.value (f.binary operators.Add (f.number 1 kinds.Unstated (p 2 10)) (f.designator (f.part_ref (n (codes "a") 2 14) f.no_section_subscripts f.no_image_selector)) (p 2 10)) ∷ [])) (p 2 1)) s.no_statements) }); procedures = None; end = record { name = None; at = (p 3 1) } }) 37 2 14 ≡ true
unfolding judged_statements
array_operand = refl

-- an array as a subscript: integer :: a(2); print *, a(a); end
array_subscript : answers (record { name = None; uses = ([]); body = (record { implicit_none = None; declarations = ((record { type_spec = (s.integer None); attributes = ([]); entities = ((record { name = (n (codes "a") 1 12); dimensions = ((s.explicit (record { lower = None; upper = (f.number 2 kinds.Unstated (p 1 14)) })) ∷ []); coshape = None; initial = None }) ∷ []); at = (p 1 1) }) ∷ []); statements = (s.more_statements (s.action (s.print s.free (s.value (f.designator (f.part_ref (n (codes "a") 2 10) (f.more_section_subscripts (f.subscript (f.designator (f.part_ref (n (codes "a") 2 12) f.no_section_subscripts f.no_image_selector))) f.no_section_subscripts) f.no_image_selector)) ∷ [])) (p 2 1)) s.no_statements) }); procedures = None; end = record { name = None; at = (p 3 1) } }) 37 2 12 ≡ true
unfolding judged_statements
array_subscript = refl

-- too few arguments: print *, f(); contains; integer function f(a); integer, intent(in) :: a; f = a; end function; end
few_arguments : answers (record { name = None; uses = ([]); body = (record { implicit_none = None; declarations = ([]); statements = (s.more_statements (s.action (s.print s.free (s.value (f.function_reference (n (codes "f") 1 10) f.no_arguments) ∷ [])) (p 1 1)) s.no_statements) }); procedures = (Some ((record { heading = (u.function (u.result_type (s.integer None) ∷ []) (n (codes "f") 3 18) ((n (codes "a") 3 20) ∷ []) None); body = (record { implicit_none = None; declarations = ((record { type_spec = (s.integer None); attributes = ((s.intent intents.In) ∷ []); entities = ((record { name = (n (codes "a") 4 24); dimensions = ([]); coshape = None; initial = None }) ∷ []); at = (p 4 1) }) ∷ []); statements = (s.more_statements (s.action (s.assignment (f.part_ref (n (codes "f") 5 1) f.no_section_subscripts f.no_image_selector) (f.designator (f.part_ref (n (codes "a") 5 5) f.no_section_subscripts f.no_image_selector))) (p 5 1)) s.no_statements) }); end = record { name = None; at = (p 6 1) }; at = (p 3 1) }) ∷ [])); end = record { name = None; at = (p 7 1) } }) 45 1 10 ≡ true
unfolding judged_statements
few_arguments = refl

-- one of another kind: print *, f(1_8); contains; integer function f(a); integer, intent(in) :: a; f = a; end function;
-- end
other_kind : answers (record { name = None; uses = ([]); body = (record { implicit_none = None; declarations = ([]); statements = (s.more_statements (s.action (s.print s.free (s.value (f.designator (f.part_ref (n (codes "f") 1 10) (f.more_section_subscripts (f.subscript (f.number 1 kinds.Eight (p 1 12))) f.no_section_subscripts) f.no_image_selector)) ∷ [])) (p 1 1)) s.no_statements) }); procedures = (Some ((record { heading = (u.function (u.result_type (s.integer None) ∷ []) (n (codes "f") 3 18) ((n (codes "a") 3 20) ∷ []) None); body = (record { implicit_none = None; declarations = ((record { type_spec = (s.integer None); attributes = ((s.intent intents.In) ∷ []); entities = ((record { name = (n (codes "a") 4 24); dimensions = ([]); coshape = None; initial = None }) ∷ []); at = (p 4 1) }) ∷ []); statements = (s.more_statements (s.action (s.assignment (f.part_ref (n (codes "f") 5 1) f.no_section_subscripts f.no_image_selector) (f.designator (f.part_ref (n (codes "a") 5 5) f.no_section_subscripts f.no_image_selector))) (p 5 1)) s.no_statements) }); end = record { name = None; at = (p 6 1) }; at = (p 3 1) }) ∷ [])); end = record { name = None; at = (p 7 1) } }) 45 1 12 ≡ true
unfolding judged_statements
other_kind = refl

-- one of another extent: integer :: b(3); print *, f(b); contains; integer function f(a); integer, intent(in) :: a(2);
-- f = a(1); end function; end
other_extent : answers (record { name = None; uses = ([]); body = (record { implicit_none = None; declarations = ((record { type_spec = (s.integer None); attributes = ([]); entities = ((record { name = (n (codes "b") 1 12); dimensions = ((s.explicit (record { lower = None; upper = (f.number 3 kinds.Unstated (p 1 14)) })) ∷ []); coshape = None; initial = None }) ∷ []); at = (p 1 1) }) ∷ []); statements = (s.more_statements (s.action (s.print s.free (s.value (f.designator (f.part_ref (n (codes "f") 2 10) (f.more_section_subscripts (f.subscript (f.designator (f.part_ref (n (codes "b") 2 12) f.no_section_subscripts f.no_image_selector))) f.no_section_subscripts) f.no_image_selector)) ∷ [])) (p 2 1)) s.no_statements) }); procedures = (Some ((record { heading = (u.function (u.result_type (s.integer None) ∷ []) (n (codes "f") 4 18) ((n (codes "a") 4 20) ∷ []) None); body = (record { implicit_none = None; declarations = ((record { type_spec = (s.integer None); attributes = ((s.intent intents.In) ∷ []); entities = ((record { name = (n (codes "a") 5 24); dimensions = ((s.explicit (record { lower = None; upper = (f.number 2 kinds.Unstated (p 5 26)) })) ∷ []); coshape = None; initial = None }) ∷ []); at = (p 5 1) }) ∷ []); statements = (s.more_statements (s.action (s.assignment (f.part_ref (n (codes "f") 6 1) f.no_section_subscripts f.no_image_selector) (f.designator (f.part_ref (n (codes "a") 6 5) (f.more_section_subscripts (f.subscript (f.number 1 kinds.Unstated (p 6 7))) f.no_section_subscripts) f.no_image_selector))) (p 6 1)) s.no_statements) }); end = record { name = None; at = (p 7 1) }; at = (p 4 1) }) ∷ [])); end = record { name = None; at = (p 8 1) } }) 45 2 12 ≡ true
unfolding judged_statements
other_extent = refl

-- one that matches: print *, f(1); contains; integer function f(a); integer, intent(in) :: a; f = a; end function; end
called_right : accepted (record { name = None; uses = ([]); body = (record { implicit_none = None; declarations = ([]); statements = (s.more_statements (s.action (s.print s.free (s.value (f.designator (f.part_ref (n (codes "f") 1 10) (f.more_section_subscripts (f.subscript (f.number 1 kinds.Unstated (p 1 12))) f.no_section_subscripts) f.no_image_selector)) ∷ [])) (p 1 1)) s.no_statements) }); procedures = (Some ((record { heading = (u.function (u.result_type (s.integer None) ∷ []) (n (codes "f") 3 18) ((n (codes "a") 3 20) ∷ []) None); body = (record { implicit_none = None; declarations = ((record { type_spec = (s.integer None); attributes = ((s.intent intents.In) ∷ []); entities = ((record { name = (n (codes "a") 4 24); dimensions = ([]); coshape = None; initial = None }) ∷ []); at = (p 4 1) }) ∷ []); statements = (s.more_statements (s.action (s.assignment (f.part_ref (n (codes "f") 5 1) f.no_section_subscripts f.no_image_selector) (f.designator (f.part_ref (n (codes "a") 5 5) f.no_section_subscripts f.no_image_selector))) (p 5 1)) s.no_statements) }); end = record { name = None; at = (p 6 1) }; at = (p 3 1) }) ∷ [])); end = record { name = None; at = (p 7 1) } }) ≡ true
unfolding judged_statements
called_right = refl

-- a value for what a procedure may define: call s(1); contains; subroutine s(a); integer :: a; a = 1; end subroutine;
-- end
value_for_out : answers (record { name = None; uses = ([]); body = (record { implicit_none = None; declarations = ([]); statements = (s.more_statements (s.action (s.call (n (codes "s") 1 6) (Some (f.more_arguments None (f.number 1 kinds.Unstated (p 1 8)) f.no_arguments))) (p 1 1)) s.no_statements) }); procedures = (Some ((record { heading = (u.subroutine recursions.Unstated (n (codes "s") 3 12) (Some ((n (codes "a") 3 14) ∷ []))); body = (record { implicit_none = None; declarations = ((record { type_spec = (s.integer None); attributes = ([]); entities = ((record { name = (n (codes "a") 4 12); dimensions = ([]); coshape = None; initial = None }) ∷ []); at = (p 4 1) }) ∷ []); statements = (s.more_statements (s.action (s.assignment (f.part_ref (n (codes "a") 5 1) f.no_section_subscripts f.no_image_selector) (f.number 1 kinds.Unstated (p 5 5))) (p 5 1)) s.no_statements) }); end = record { name = None; at = (p 6 1) }; at = (p 3 1) }) ∷ [])); end = record { name = None; at = (p 7 1) } }) 46 1 8 ≡ true
unfolding judged_statements
value_for_out = refl

-- a coarray for it: integer :: x[*]; call s(x); contains; subroutine s(a); integer, intent(out) :: a; a = 1; end
-- subroutine; end
coarray_for_out : answers (record { name = None; uses = ([]); body = (record { implicit_none = None; declarations = ((record { type_spec = (s.integer None); attributes = ([]); entities = ((record { name = (n (codes "x") 1 12); dimensions = ([]); coshape = (Some (s.explicit_coshape ([]) None)); initial = None }) ∷ []); at = (p 1 1) }) ∷ []); statements = (s.more_statements (s.action (s.call (n (codes "s") 2 6) (Some (f.more_arguments None (f.designator (f.part_ref (n (codes "x") 2 8) f.no_section_subscripts f.no_image_selector)) f.no_arguments))) (p 2 1)) s.no_statements) }); procedures = (Some ((record { heading = (u.subroutine recursions.Unstated (n (codes "s") 4 12) (Some ((n (codes "a") 4 14) ∷ []))); body = (record { implicit_none = None; declarations = ((record { type_spec = (s.integer None); attributes = ((s.intent intents.Out) ∷ []); entities = ((record { name = (n (codes "a") 5 25); dimensions = ([]); coshape = None; initial = None }) ∷ []); at = (p 5 1) }) ∷ []); statements = (s.more_statements (s.action (s.assignment (f.part_ref (n (codes "a") 6 1) f.no_section_subscripts f.no_image_selector) (f.number 1 kinds.Unstated (p 6 5))) (p 6 1)) s.no_statements) }); end = record { name = None; at = (p 7 1) }; at = (p 4 1) }) ∷ [])); end = record { name = None; at = (p 8 1) } }) 46 2 8 ≡ true
unfolding judged_statements
coarray_for_out = refl

-- CALL of a function: call f(); contains; integer function f(); f = 1; end function; end
function_called : answers (record { name = None; uses = ([]); body = (record { implicit_none = None; declarations = ([]); statements = (s.more_statements (s.action (s.call (n (codes "f") 1 6) (Some f.no_arguments)) (p 1 1)) s.no_statements) }); procedures = (Some ((record { heading = (u.function (u.result_type (s.integer None) ∷ []) (n (codes "f") 3 18) ([]) None); body = (record { implicit_none = None; declarations = ([]); statements = (s.more_statements (s.action (s.assignment (f.part_ref (n (codes "f") 4 1) f.no_section_subscripts f.no_image_selector) (f.number 1 kinds.Unstated (p 4 5))) (p 4 1)) s.no_statements) }); end = record { name = None; at = (p 5 1) }; at = (p 3 1) }) ∷ [])); end = record { name = None; at = (p 6 1) } }) 47 1 6 ≡ true
unfolding judged_statements
function_called = refl

-- a reference to a subroutine: print *, s(); contains; subroutine s(); end subroutine; end
subroutine_read : answers (record { name = None; uses = ([]); body = (record { implicit_none = None; declarations = ([]); statements = (s.more_statements (s.action (s.print s.free (s.value (f.function_reference (n (codes "s") 1 10) f.no_arguments) ∷ [])) (p 1 1)) s.no_statements) }); procedures = (Some ((record { heading = (u.subroutine recursions.Unstated (n (codes "s") 3 12) (Some ([]))); body = (record { implicit_none = None; declarations = ([]); statements = s.no_statements }); end = record { name = None; at = (p 4 1) }; at = (p 3 1) }) ∷ [])); end = record { name = None; at = (p 5 1) } }) 47 1 10 ≡ true
unfolding judged_statements
subroutine_read = refl

-- a function's bare name: print *, abs; end
bare_name : answers (record { name = None; uses = ([]); body = (record { implicit_none = None; declarations = ([]); statements = (s.more_statements (s.action (s.print s.free (s.value (f.designator (f.part_ref (n (codes "abs") 1 10) f.no_section_subscripts f.no_image_selector)) ∷ [])) (p 1 1)) s.no_statements) }); procedures = None; end = record { name = None; at = (p 2 1) } }) 47 1 10 ≡ true
unfolding judged_statements
bare_name = refl

-- a team that is none: print *, this_image(1); end
team_of_integer : answers (record { name = None; uses = ([]); body = (record { implicit_none = None; declarations = ([]); statements = (s.more_statements (s.action (s.print s.free (s.value (f.designator (f.part_ref (n (codes "this_image") 1 10) (f.more_section_subscripts (f.subscript (f.number 1 kinds.Unstated (p 1 21))) f.no_section_subscripts) f.no_image_selector)) ∷ [])) (p 1 1)) s.no_statements) }); procedures = None; end = record { name = None; at = (p 2 1) } }) 51 1 21 ≡ true
unfolding judged_statements
team_of_integer = refl

-- a team where an integer is wanted: use iso_fortran_env; type(team_type) :: t; print *, image_status(t); end
team_as_image : answers (record { name = None; uses = ((record { nature = natures.Unstated; module_name = (n (codes "iso_fortran_env") 1 5); only = None; at = (p 1 1) }) ∷ []); body = (record { implicit_none = None; declarations = ((record { type_spec = (s.derived (n (codes "team_type") 2 6)); attributes = ([]); entities = ((record { name = (n (codes "t") 2 20); dimensions = ([]); coshape = None; initial = None }) ∷ []); at = (p 2 1) }) ∷ []); statements = (s.more_statements (s.action (s.print s.free (s.value (f.designator (f.part_ref (n (codes "image_status") 3 10) (f.more_section_subscripts (f.subscript (f.designator (f.part_ref (n (codes "t") 3 23) f.no_section_subscripts f.no_image_selector))) f.no_section_subscripts) f.no_image_selector)) ∷ [])) (p 3 1)) s.no_statements) }); procedures = None; end = record { name = None; at = (p 4 1) } }) 51 3 23 ≡ true
unfolding judged_statements
team_as_image = refl

-- MIN of one: print *, min(1); end
one_argument : answers (record { name = None; uses = ([]); body = (record { implicit_none = None; declarations = ([]); statements = (s.more_statements (s.action (s.print s.free (s.value (f.designator (f.part_ref (n (codes "min") 1 10) (f.more_section_subscripts (f.subscript (f.number 1 kinds.Unstated (p 1 14))) f.no_section_subscripts) f.no_image_selector)) ∷ [])) (p 1 1)) s.no_statements) }); procedures = None; end = record { name = None; at = (p 2 1) } }) 59 1 10 ≡ true
unfolding judged_statements
one_argument = refl

-- a keyword that ABS hasn't: print *, abs(b=1); end
keyword_unknown : answers (record { name = None; uses = ([]); body = (record { implicit_none = None; declarations = ([]); statements = (s.more_statements (s.action (s.print s.free (s.value (f.function_reference (n (codes "abs") 1 10) (f.more_arguments (Some (n (codes "b") 1 14)) (f.number 1 kinds.Unstated (p 1 16)) f.no_arguments)) ∷ [])) (p 1 1)) s.no_statements) }); procedures = None; end = record { name = None; at = (p 2 1) } }) 59 1 14 ≡ true
unfolding judged_statements
keyword_unknown = refl

-- SIZE of a scalar: integer :: a; print *, size(a); end
size_of_scalar : answers (record { name = None; uses = ([]); body = (record { implicit_none = None; declarations = ((record { type_spec = (s.integer None); attributes = ([]); entities = ((record { name = (n (codes "a") 1 12); dimensions = ([]); coshape = None; initial = None }) ∷ []); at = (p 1 1) }) ∷ []); statements = (s.more_statements (s.action (s.print s.free (s.value (f.designator (f.part_ref (n (codes "size") 2 10) (f.more_section_subscripts (f.subscript (f.designator (f.part_ref (n (codes "a") 2 15) f.no_section_subscripts f.no_image_selector))) f.no_section_subscripts) f.no_image_selector)) ∷ [])) (p 2 1)) s.no_statements) }); procedures = None; end = record { name = None; at = (p 3 1) } }) 59 2 15 ≡ true
unfolding judged_statements
size_of_scalar = refl

-- keywords in any order: print *, mod(p=3, a=7), max(1, 2, 3), int(5, kind=8); end
by_keyword : accepted (record { name = None; uses = ([]); body = (record { implicit_none = None; declarations = ([]); statements = (s.more_statements (s.action (s.print s.free (s.value (f.function_reference (n (codes "mod") 1 10) (f.more_arguments (Some (n (codes "p") 1 14)) (f.number 3 kinds.Unstated (p 1 16)) (f.more_arguments (Some (n (codes "a") 1 19)) (f.number 7 kinds.Unstated (p 1 21)) f.no_arguments))) ∷ s.value (f.designator (f.part_ref (n (codes "max") 1 25) (f.more_section_subscripts (f.subscript (f.number 1 kinds.Unstated (p 1 29))) (f.more_section_subscripts (f.subscript (f.number 2 kinds.Unstated (p 1 32))) (f.more_section_subscripts (f.subscript (f.number 3 kinds.Unstated (p 1 35))) f.no_section_subscripts))) f.no_image_selector)) ∷ s.value (f.function_reference (n (codes "int") 1 39) (f.more_arguments None (f.number 5 kinds.Unstated (p 1 43)) (f.more_arguments (Some (n (codes "kind") 1 46)) (f.number 8 kinds.Unstated (p 1 51)) f.no_arguments))) ∷ [])) (p 1 1)) s.no_statements) }); procedures = None; end = record { name = None; at = (p 2 1) } }) ≡ true
unfolding judged_statements
by_keyword = refl

-- functions of coarrays and teams: integer :: x[*]; print *, image_index(x, [1]), this_image(x, 1), num_images(-1); end
index_of_coarray : accepted (record { name = None; uses = ([]); body = (record { implicit_none = None; declarations = ((record { type_spec = (s.integer None); attributes = ([]); entities = ((record { name = (n (codes "x") 1 12); dimensions = ([]); coshape = (Some (s.explicit_coshape ([]) None)); initial = None }) ∷ []); at = (p 1 1) }) ∷ []); statements = (s.more_statements (s.action (s.print s.free (s.value (f.designator (f.part_ref (n (codes "image_index") 2 10) (f.more_section_subscripts (f.subscript (f.designator (f.part_ref (n (codes "x") 2 22) f.no_section_subscripts f.no_image_selector))) (f.more_section_subscripts (f.subscript (f.array_constructor (f.more_expressions (f.number 1 kinds.Unstated (p 2 26)) f.no_expressions) (p 2 25))) f.no_section_subscripts)) f.no_image_selector)) ∷ s.value (f.designator (f.part_ref (n (codes "this_image") 2 31) (f.more_section_subscripts (f.subscript (f.designator (f.part_ref (n (codes "x") 2 42) f.no_section_subscripts f.no_image_selector))) (f.more_section_subscripts (f.subscript (f.number 1 kinds.Unstated (p 2 45))) f.no_section_subscripts)) f.no_image_selector)) ∷ s.value (f.designator (f.part_ref (n (codes "num_images") 2 49) (f.more_section_subscripts (f.subscript (f.prefix prefixes.Minus (f.number 1 kinds.Unstated (p 2 61)) (p 2 60))) f.no_section_subscripts) f.no_image_selector)) ∷ [])) (p 2 1)) s.no_statements) }); procedures = None; end = record { name = None; at = (p 3 1) } }) ≡ true
unfolding judged_statements
index_of_coarray = refl

-- a list of images as a value: print *, failed_images(); end
list_added : answers (record { name = None; uses = ([]); body = (record { implicit_none = None; declarations = ([]); statements = (s.more_statements (s.action (s.print s.free (s.value (f.function_reference (n (codes "failed_images") 1 10) f.no_arguments) ∷ [])) (p 1 1)) s.no_statements) }); procedures = None; end = record { name = None; at = (p 2 1) } }) 56 1 10 ≡ true
unfolding judged_statements
list_added = refl

-- under SIZE it may stand: print *, size(failed_images()); end
list_counted : accepted (record { name = None; uses = ([]); body = (record { implicit_none = None; declarations = ([]); statements = (s.more_statements (s.action (s.print s.free (s.value (f.designator (f.part_ref (n (codes "size") 1 10) (f.more_section_subscripts (f.subscript (f.function_reference (n (codes "failed_images") 1 15) f.no_arguments)) f.no_section_subscripts) f.no_image_selector)) ∷ [])) (p 1 1)) s.no_statements) }); procedures = None; end = record { name = None; at = (p 2 1) } }) ≡ true
unfolding judged_statements
list_counted = refl
