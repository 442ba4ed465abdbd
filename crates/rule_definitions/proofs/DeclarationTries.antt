-- Declarations that break a rule, and declarations like them that break none, worked out by hand.
use Rattle.std.proofs.Common.{◌≡◌, true, [], ◌∷◌, refl, codes, Some, None}
use Rattle.fortran_tree.specs.declared.expr.NumberKind.TheVariants as kinds
use Rattle.fortran_tree.specs.declared.expr.Operator.TheVariants as operators
use Rattle.fortran_tree.specs.declared.declaration.Intent.TheVariants as intents
use Rattle.fortran_tree.specs.declared.unit.ModuleNature.TheVariants as natures
use Rattle.fortran_tree.specs.declared.unit.Recursion.TheVariants as recursions
use Rattle.fortran_tree.specs.Expressions as f
use Rattle.fortran_tree.specs.Statements as s
use Rattle.fortran_tree.specs.Units as u
use Rattle.rule_definitions.proofs.Trees.{p, n, answers, accepted}
use Rattle.rule_definitions.specs.Statements.{judged_statements}

-- a name that nothing declares: integer :: a; a = b; end
undeclared_value : answers (record { name = None; uses = ([]); body = (record { implicit_none = None; declarations = ((record { type_spec = (s.integer None); attributes = ([]); entities = ((record { name = (n (codes "a") 1 12); dimensions = ([]); coshape = None; initial = None }) ∷ []); at = (p 1 1) }) ∷ []); statements = (s.more_statements (s.action (s.assignment (f.part_ref (n (codes "a") 2 1) f.no_section_subscripts f.no_image_selector) (f.designator (f.part_ref (n (codes "b") 2 5) f.no_section_subscripts f.no_image_selector))) (p 2 1)) s.no_statements) }); procedures = None; end = record { name = None; at = (p 3 1) } }) 20 2 5 ≡ true
unfolding judged_statements
undeclared_value = refl

-- nor above its declaration: integer :: a(n); integer, parameter :: n = 3; end
used_above : answers (record { name = None; uses = ([]); body = (record { implicit_none = None; declarations = ((record { type_spec = (s.integer None); attributes = ([]); entities = ((record { name = (n (codes "a") 1 12); dimensions = ((s.explicit (record { lower = None; upper = (f.designator (f.part_ref (n (codes "n") 1 14) f.no_section_subscripts f.no_image_selector)) })) ∷ []); coshape = None; initial = None }) ∷ []); at = (p 1 1) }) ∷ (record { type_spec = (s.integer None); attributes = (s.parameter ∷ []); entities = ((record { name = (n (codes "n") 2 23); dimensions = ([]); coshape = None; initial = (Some (f.number 3 kinds.Unstated (p 2 27))) }) ∷ []); at = (p 2 1) }) ∷ []); statements = s.no_statements }); procedures = None; end = record { name = None; at = (p 3 1) } }) 20 1 14 ≡ true
unfolding judged_statements
used_above = refl

-- a name that the module hasn't: use iso_fortran_env, only: int64, int16; end
only_unknown : answers (record { name = None; uses = ((record { nature = natures.Unstated; module_name = (n (codes "iso_fortran_env") 1 5); only = (Some ((n (codes "int64") 1 28) ∷ (n (codes "int16") 1 35) ∷ [])); at = (p 1 1) }) ∷ []); body = (record { implicit_none = None; declarations = ([]); statements = s.no_statements }); procedures = None; end = record { name = None; at = (p 2 1) } }) 20 1 35 ≡ true
unfolding judged_statements
only_unknown = refl

-- a type that USE didn't make accessible: type(team_type) :: t; end
type_unknown : answers (record { name = None; uses = ([]); body = (record { implicit_none = None; declarations = ((record { type_spec = (s.derived (n (codes "team_type") 1 6)); attributes = ([]); entities = ((record { name = (n (codes "t") 1 20); dimensions = ([]); coshape = None; initial = None }) ∷ []); at = (p 1 1) }) ∷ []); statements = s.no_statements }); procedures = None; end = record { name = None; at = (p 2 1) } }) 20 1 6 ≡ true
unfolding judged_statements
type_unknown = refl

-- behind its declaration a name may stand: integer, parameter :: n = 3; integer :: a(n); a = n; end
used_behind : accepted (record { name = None; uses = ([]); body = (record { implicit_none = None; declarations = ((record { type_spec = (s.integer None); attributes = (s.parameter ∷ []); entities = ((record { name = (n (codes "n") 1 23); dimensions = ([]); coshape = None; initial = (Some (f.number 3 kinds.Unstated (p 1 27))) }) ∷ []); at = (p 1 1) }) ∷ (record { type_spec = (s.integer None); attributes = ([]); entities = ((record { name = (n (codes "a") 2 12); dimensions = ((s.explicit (record { lower = None; upper = (f.designator (f.part_ref (n (codes "n") 2 14) f.no_section_subscripts f.no_image_selector)) })) ∷ []); coshape = None; initial = None }) ∷ []); at = (p 2 1) }) ∷ []); statements = (s.more_statements (s.action (s.assignment (f.part_ref (n (codes "a") 3 1) f.no_section_subscripts f.no_image_selector) (f.designator (f.part_ref (n (codes "n") 3 5) f.no_section_subscripts f.no_image_selector))) (p 3 1)) s.no_statements) }); procedures = None; end = record { name = None; at = (p 4 1) } }) ≡ true
unfolding judged_statements
used_behind = refl

-- a name twice in one scope: integer :: a, a; end
twice : answers (record { name = None; uses = ([]); body = (record { implicit_none = None; declarations = ((record { type_spec = (s.integer None); attributes = ([]); entities = ((record { name = (n (codes "a") 1 12); dimensions = ([]); coshape = None; initial = None }) ∷ (record { name = (n (codes "a") 1 15); dimensions = ([]); coshape = None; initial = None }) ∷ []); at = (p 1 1) }) ∷ []); statements = s.no_statements }); procedures = None; end = record { name = None; at = (p 2 1) } }) 21 1 15 ≡ true
unfolding judged_statements
twice = refl

-- also in another statement: integer :: a; logical :: b, a; end
twice_in_two : answers (record { name = None; uses = ([]); body = (record { implicit_none = None; declarations = ((record { type_spec = (s.integer None); attributes = ([]); entities = ((record { name = (n (codes "a") 1 12); dimensions = ([]); coshape = None; initial = None }) ∷ []); at = (p 1 1) }) ∷ (record { type_spec = (s.logical None); attributes = ([]); entities = ((record { name = (n (codes "b") 2 12); dimensions = ([]); coshape = None; initial = None }) ∷ (record { name = (n (codes "a") 2 15); dimensions = ([]); coshape = None; initial = None }) ∷ []); at = (p 2 1) }) ∷ []); statements = s.no_statements }); procedures = None; end = record { name = None; at = (p 3 1) } }) 21 2 15 ≡ true
unfolding judged_statements
twice_in_two = refl

-- a procedure may declare the name anew: integer :: a; a = 1; contains; subroutine s(); logical :: a; a = .true.; end
-- subroutine; end
own_in_procedure : accepted (record { name = None; uses = ([]); body = (record { implicit_none = None; declarations = ((record { type_spec = (s.integer None); attributes = ([]); entities = ((record { name = (n (codes "a") 1 12); dimensions = ([]); coshape = None; initial = None }) ∷ []); at = (p 1 1) }) ∷ []); statements = (s.more_statements (s.action (s.assignment (f.part_ref (n (codes "a") 2 1) f.no_section_subscripts f.no_image_selector) (f.number 1 kinds.Unstated (p 2 5))) (p 2 1)) s.no_statements) }); procedures = (Some ((record { heading = (u.subroutine recursions.Unstated (n (codes "s") 4 12) (Some ([]))); body = (record { implicit_none = None; declarations = ((record { type_spec = (s.logical None); attributes = ([]); entities = ((record { name = (n (codes "a") 5 12); dimensions = ([]); coshape = None; initial = None }) ∷ []); at = (p 5 1) }) ∷ []); statements = (s.more_statements (s.action (s.assignment (f.part_ref (n (codes "a") 6 1) f.no_section_subscripts f.no_image_selector) (f.logical true (p 6 5))) (p 6 1)) s.no_statements) }); end = record { name = None; at = (p 7 1) }; at = (p 4 1) }) ∷ [])); end = record { name = None; at = (p 8 1) } }) ≡ true
unfolding judged_statements
own_in_procedure = refl

-- a constant without a value: integer, parameter :: n; end
no_value : answers (record { name = None; uses = ([]); body = (record { implicit_none = None; declarations = ((record { type_spec = (s.integer None); attributes = (s.parameter ∷ []); entities = ((record { name = (n (codes "n") 1 23); dimensions = ([]); coshape = None; initial = None }) ∷ []); at = (p 1 1) }) ∷ []); statements = s.no_statements }); procedures = None; end = record { name = None; at = (p 2 1) } }) 22 1 23 ≡ true
unfolding judged_statements
no_value = refl

-- a value that isn't constant: integer :: b; integer :: a = b + 1; end
not_constant : answers (record { name = None; uses = ([]); body = (record { implicit_none = None; declarations = ((record { type_spec = (s.integer None); attributes = ([]); entities = ((record { name = (n (codes "b") 1 12); dimensions = ([]); coshape = None; initial = None }) ∷ []); at = (p 1 1) }) ∷ (record { type_spec = (s.integer None); attributes = ([]); entities = ((record { name = (n (codes "a") 2 12); dimensions = ([]); coshape = None; initial = (Some (f.binary operators.Add (f.designator (f.part_ref (n (codes "b") 2 16) f.no_section_subscripts f.no_image_selector)) (f.number 1 kinds.Unstated (p 2 20)) (p 2 16))) }) ∷ []); at = (p 2 1) }) ∷ []); statements = s.no_statements }); procedures = None; end = record { name = None; at = (p 3 1) } }) 22 2 16 ≡ true
unfolding judged_statements
not_constant = refl

-- one that leaves its kind: integer :: a = 2147483647 + 1; end
leaves_kind : answers (record { name = None; uses = ([]); body = (record { implicit_none = None; declarations = ((record { type_spec = (s.integer None); attributes = ([]); entities = ((record { name = (n (codes "a") 1 12); dimensions = ([]); coshape = None; initial = (Some (f.binary operators.Add (f.number 2147483647 kinds.Unstated (p 1 16)) (f.number 1 kinds.Unstated (p 1 29)) (p 1 16))) }) ∷ []); at = (p 1 1) }) ∷ []); statements = s.no_statements }); procedures = None; end = record { name = None; at = (p 2 1) } }) 22 1 16 ≡ true
unfolding judged_statements
leaves_kind = refl

-- one that doesn't: integer, parameter :: n = 2 ** 30 + mod(7, 4); integer :: a = n; end
constant_power : accepted (record { name = None; uses = ([]); body = (record { implicit_none = None; declarations = ((record { type_spec = (s.integer None); attributes = (s.parameter ∷ []); entities = ((record { name = (n (codes "n") 1 23); dimensions = ([]); coshape = None; initial = (Some (f.binary operators.Add (f.binary operators.Power (f.number 2 kinds.Unstated (p 1 27)) (f.number 30 kinds.Unstated (p 1 32)) (p 1 27)) (f.designator (f.part_ref (n (codes "mod") 1 37) (f.more_section_subscripts (f.subscript (f.number 7 kinds.Unstated (p 1 41))) (f.more_section_subscripts (f.subscript (f.number 4 kinds.Unstated (p 1 44))) f.no_section_subscripts)) f.no_image_selector)) (p 1 27))) }) ∷ []); at = (p 1 1) }) ∷ (record { type_spec = (s.integer None); attributes = ([]); entities = ((record { name = (n (codes "a") 2 12); dimensions = ([]); coshape = None; initial = (Some (f.designator (f.part_ref (n (codes "n") 2 16) f.no_section_subscripts f.no_image_selector))) }) ∷ []); at = (p 2 1) }) ∷ []); statements = s.no_statements }); procedures = None; end = record { name = None; at = (p 3 1) } }) ≡ true
unfolding judged_statements
constant_power = refl

-- a kind that there isn't: integer(2) :: a; end
kind_unknown : answers (record { name = None; uses = ([]); body = (record { implicit_none = None; declarations = ((record { type_spec = (s.integer (Some (f.number 2 kinds.Unstated (p 1 9)))); attributes = ([]); entities = ((record { name = (n (codes "a") 1 15); dimensions = ([]); coshape = None; initial = None }) ∷ []); at = (p 1 1) }) ∷ []); statements = s.no_statements }); procedures = None; end = record { name = None; at = (p 2 1) } }) 23 1 9 ≡ true
unfolding judged_statements
kind_unknown = refl

-- nor one of a logical: logical(8) :: a; end
logical_kind : answers (record { name = None; uses = ([]); body = (record { implicit_none = None; declarations = ((record { type_spec = (s.logical (Some (f.number 8 kinds.Unstated (p 1 9)))); attributes = ([]); entities = ((record { name = (n (codes "a") 1 15); dimensions = ([]); coshape = None; initial = None }) ∷ []); at = (p 1 1) }) ∷ []); statements = s.no_statements }); procedures = None; end = record { name = None; at = (p 2 1) } }) 23 1 9 ≡ true
unfolding judged_statements
logical_kind = refl

-- a literal that its kind can't hold: print *, 2147483648; end
literal_too_great : answers (record { name = None; uses = ([]); body = (record { implicit_none = None; declarations = ([]); statements = (s.more_statements (s.action (s.print s.free (s.value (f.number 2147483648 kinds.Unstated (p 1 10)) ∷ [])) (p 1 1)) s.no_statements) }); procedures = None; end = record { name = None; at = (p 2 1) } }) 23 1 10 ≡ true
unfolding judged_statements
literal_too_great = refl

-- kind 8 holds it: integer, parameter :: k = 8; print *, 2147483648_k; end
literal_of_eight : accepted (record { name = None; uses = ([]); body = (record { implicit_none = None; declarations = ((record { type_spec = (s.integer None); attributes = (s.parameter ∷ []); entities = ((record { name = (n (codes "k") 1 23); dimensions = ([]); coshape = None; initial = (Some (f.number 8 kinds.Unstated (p 1 27))) }) ∷ []); at = (p 1 1) }) ∷ []); statements = (s.more_statements (s.action (s.print s.free (s.value (f.number 2147483648 (kinds.Named (codes "k")) (p 2 10)) ∷ [])) (p 2 1)) s.no_statements) }); procedures = None; end = record { name = None; at = (p 3 1) } }) ≡ true
unfolding judged_statements
literal_of_eight = refl

-- four dimensions: integer :: a(1, 1, 1, 1); end
rank_four : answers (record { name = None; uses = ([]); body = (record { implicit_none = None; declarations = ((record { type_spec = (s.integer None); attributes = ([]); entities = ((record { name = (n (codes "a") 1 12); dimensions = ((s.explicit (record { lower = None; upper = (f.number 1 kinds.Unstated (p 1 14)) })) ∷ (s.explicit (record { lower = None; upper = (f.number 1 kinds.Unstated (p 1 17)) })) ∷ (s.explicit (record { lower = None; upper = (f.number 1 kinds.Unstated (p 1 20)) })) ∷ (s.explicit (record { lower = None; upper = (f.number 1 kinds.Unstated (p 1 23)) })) ∷ []); coshape = None; initial = None }) ∷ []); at = (p 1 1) }) ∷ []); statements = s.no_statements }); procedures = None; end = record { name = None; at = (p 2 1) } }) 24 1 12 ≡ true
unfolding judged_statements
rank_four = refl

-- four codimensions: integer :: a[2, 2, 2, *]; end
corank_four : answers (record { name = None; uses = ([]); body = (record { implicit_none = None; declarations = ((record { type_spec = (s.integer None); attributes = ([]); entities = ((record { name = (n (codes "a") 1 12); dimensions = ([]); coshape = (Some (s.explicit_coshape ((record { lower = None; upper = (f.number 2 kinds.Unstated (p 1 14)) }) ∷ (record { lower = None; upper = (f.number 2 kinds.Unstated (p 1 17)) }) ∷ (record { lower = None; upper = (f.number 2 kinds.Unstated (p 1 20)) }) ∷ []) None)); initial = None }) ∷ []); at = (p 1 1) }) ∷ []); statements = s.no_statements }); procedures = None; end = record { name = None; at = (p 2 1) } }) 24 1 12 ≡ true
unfolding judged_statements
corank_four = refl

-- a bound that isn't constant: integer :: n; integer :: a(n); end
bound_variable : answers (record { name = None; uses = ([]); body = (record { implicit_none = None; declarations = ((record { type_spec = (s.integer None); attributes = ([]); entities = ((record { name = (n (codes "n") 1 12); dimensions = ([]); coshape = None; initial = None }) ∷ []); at = (p 1 1) }) ∷ (record { type_spec = (s.integer None); attributes = ([]); entities = ((record { name = (n (codes "a") 2 12); dimensions = ((s.explicit (record { lower = None; upper = (f.designator (f.part_ref (n (codes "n") 2 14) f.no_section_subscripts f.no_image_selector)) })) ∷ []); coshape = None; initial = None }) ∷ []); at = (p 2 1) }) ∷ []); statements = s.no_statements }); procedures = None; end = record { name = None; at = (p 3 1) } }) 25 2 14 ≡ true
unfolding judged_statements
bound_variable = refl

-- one that kind 4 can't hold: integer :: a(2147483648_8); end
bound_too_great : answers (record { name = None; uses = ([]); body = (record { implicit_none = None; declarations = ((record { type_spec = (s.integer None); attributes = ([]); entities = ((record { name = (n (codes "a") 1 12); dimensions = ((s.explicit (record { lower = None; upper = (f.number 2147483648 kinds.Eight (p 1 14)) })) ∷ []); coshape = None; initial = None }) ∷ []); at = (p 1 1) }) ∷ []); statements = s.no_statements }); procedures = None; end = record { name = None; at = (p 2 1) } }) 25 1 14 ≡ true
unfolding judged_statements
bound_too_great = refl

-- an upper cobound below its lower one: integer :: a[2:1, *]; end
cobound_below : answers (record { name = None; uses = ([]); body = (record { implicit_none = None; declarations = ((record { type_spec = (s.integer None); attributes = ([]); entities = ((record { name = (n (codes "a") 1 12); dimensions = ([]); coshape = (Some (s.explicit_coshape ((record { lower = (Some (f.number 2 kinds.Unstated (p 1 14))); upper = (f.number 1 kinds.Unstated (p 1 16)) }) ∷ []) None)); initial = None }) ∷ []); at = (p 1 1) }) ∷ []); statements = s.no_statements }); procedures = None; end = record { name = None; at = (p 2 1) } }) 25 1 16 ≡ true
unfolding judged_statements
cobound_below = refl

-- a size is constant: integer :: a(3), b(size(a) + 1); b = 0; end
bound_of_size : accepted (record { name = None; uses = ([]); body = (record { implicit_none = None; declarations = ((record { type_spec = (s.integer None); attributes = ([]); entities = ((record { name = (n (codes "a") 1 12); dimensions = ((s.explicit (record { lower = None; upper = (f.number 3 kinds.Unstated (p 1 14)) })) ∷ []); coshape = None; initial = None }) ∷ (record { name = (n (codes "b") 1 18); dimensions = ((s.explicit (record { lower = None; upper = (f.binary operators.Add (f.designator (f.part_ref (n (codes "size") 1 20) (f.more_section_subscripts (f.subscript (f.designator (f.part_ref (n (codes "a") 1 25) f.no_section_subscripts f.no_image_selector))) f.no_section_subscripts) f.no_image_selector)) (f.number 1 kinds.Unstated (p 1 30)) (p 1 20)) })) ∷ []); coshape = None; initial = None }) ∷ []); at = (p 1 1) }) ∷ []); statements = (s.more_statements (s.action (s.assignment (f.part_ref (n (codes "b") 2 1) f.no_section_subscripts f.no_image_selector) (f.number 0 kinds.Unstated (p 2 5))) (p 2 1)) s.no_statements) }); procedures = None; end = record { name = None; at = (p 3 1) } }) ≡ true
unfolding judged_statements
bound_of_size = refl

-- an allocatable with bounds: integer, allocatable :: a(3); end
allocatable_bounds : answers (record { name = None; uses = ([]); body = (record { implicit_none = None; declarations = ((record { type_spec = (s.integer None); attributes = (s.allocatable ∷ []); entities = ((record { name = (n (codes "a") 1 25); dimensions = ((s.explicit (record { lower = None; upper = (f.number 3 kinds.Unstated (p 1 27)) })) ∷ []); coshape = None; initial = None }) ∷ []); at = (p 1 1) }) ∷ []); statements = s.no_statements }); procedures = None; end = record { name = None; at = (p 2 1) } }) 26 1 25 ≡ true
unfolding judged_statements
allocatable_bounds = refl

-- deferred shape without ALLOCATABLE: integer :: a(:); end
colon_alone : answers (record { name = None; uses = ([]); body = (record { implicit_none = None; declarations = ((record { type_spec = (s.integer None); attributes = ([]); entities = ((record { name = (n (codes "a") 1 12); dimensions = ((s.deferred (p 1 14)) ∷ []); coshape = None; initial = None }) ∷ []); at = (p 1 1) }) ∷ []); statements = s.no_statements }); procedures = None; end = record { name = None; at = (p 2 1) } }) 26 1 12 ≡ true
unfolding judged_statements
colon_alone = refl

-- an allocatable scalar that is no coarray: integer, allocatable :: a; end
allocatable_scalar : answers (record { name = None; uses = ([]); body = (record { implicit_none = None; declarations = ((record { type_spec = (s.integer None); attributes = (s.allocatable ∷ []); entities = ((record { name = (n (codes "a") 1 25); dimensions = ([]); coshape = None; initial = None }) ∷ []); at = (p 1 1) }) ∷ []); statements = s.no_statements }); procedures = None; end = record { name = None; at = (p 2 1) } }) 26 1 25 ≡ true
unfolding judged_statements
allocatable_scalar = refl

-- one that is: integer, allocatable :: a[:]; end
allocatable_coarray : accepted (record { name = None; uses = ([]); body = (record { implicit_none = None; declarations = ((record { type_spec = (s.integer None); attributes = (s.allocatable ∷ []); entities = ((record { name = (n (codes "a") 1 25); dimensions = ([]); coshape = (Some (s.deferred_coshape 1)); initial = None }) ∷ []); at = (p 1 1) }) ∷ []); statements = s.no_statements }); procedures = None; end = record { name = None; at = (p 2 1) } }) ≡ true
unfolding judged_statements
allocatable_coarray = refl

-- an event that is no coarray: use iso_fortran_env; type(event_type) :: e; end
event_alone : answers (record { name = None; uses = ((record { nature = natures.Unstated; module_name = (n (codes "iso_fortran_env") 1 5); only = None; at = (p 1 1) }) ∷ []); body = (record { implicit_none = None; declarations = ((record { type_spec = (s.derived (n (codes "event_type") 2 6)); attributes = ([]); entities = ((record { name = (n (codes "e") 2 21); dimensions = ([]); coshape = None; initial = None }) ∷ []); at = (p 2 1) }) ∷ []); statements = s.no_statements }); procedures = None; end = record { name = None; at = (p 3 1) } }) 27 2 21 ≡ true
unfolding judged_statements
event_alone = refl

-- an array of teams: use iso_fortran_env; type(team_type) :: t(2); end
team_array : answers (record { name = None; uses = ((record { nature = natures.Unstated; module_name = (n (codes "iso_fortran_env") 1 5); only = None; at = (p 1 1) }) ∷ []); body = (record { implicit_none = None; declarations = ((record { type_spec = (s.derived (n (codes "team_type") 2 6)); attributes = ([]); entities = ((record { name = (n (codes "t") 2 20); dimensions = ((s.explicit (record { lower = None; upper = (f.number 2 kinds.Unstated (p 2 22)) })) ∷ []); coshape = None; initial = None }) ∷ []); at = (p 2 1) }) ∷ []); statements = s.no_statements }); procedures = None; end = record { name = None; at = (p 3 1) } }) 27 2 20 ≡ true
unfolding judged_statements
team_array = refl

-- a coarray in a procedure: call s(); contains; subroutine s(); integer :: a[*]; end subroutine; end
coarray_in_procedure : answers (record { name = None; uses = ([]); body = (record { implicit_none = None; declarations = ([]); statements = (s.more_statements (s.action (s.call (n (codes "s") 1 6) (Some f.no_arguments)) (p 1 1)) s.no_statements) }); procedures = (Some ((record { heading = (u.subroutine recursions.Unstated (n (codes "s") 3 12) (Some ([]))); body = (record { implicit_none = None; declarations = ((record { type_spec = (s.integer None); attributes = ([]); entities = ((record { name = (n (codes "a") 4 12); dimensions = ([]); coshape = (Some (s.explicit_coshape ([]) None)); initial = None }) ∷ []); at = (p 4 1) }) ∷ []); statements = s.no_statements }); end = record { name = None; at = (p 5 1) }; at = (p 3 1) }) ∷ [])); end = record { name = None; at = (p 6 1) } }) 28 4 12 ≡ true
unfolding judged_statements
coarray_in_procedure = refl

-- an initial value in one: call s(); contains; subroutine s(); integer :: a = 1; end subroutine; end
value_in_procedure : answers (record { name = None; uses = ([]); body = (record { implicit_none = None; declarations = ([]); statements = (s.more_statements (s.action (s.call (n (codes "s") 1 6) (Some f.no_arguments)) (p 1 1)) s.no_statements) }); procedures = (Some ((record { heading = (u.subroutine recursions.Unstated (n (codes "s") 3 12) (Some ([]))); body = (record { implicit_none = None; declarations = ((record { type_spec = (s.integer None); attributes = ([]); entities = ((record { name = (n (codes "a") 4 12); dimensions = ([]); coshape = None; initial = (Some (f.number 1 kinds.Unstated (p 4 16))) }) ∷ []); at = (p 4 1) }) ∷ []); statements = s.no_statements }); end = record { name = None; at = (p 5 1) }; at = (p 3 1) }) ∷ [])); end = record { name = None; at = (p 6 1) } }) 28 4 16 ≡ true
unfolding judged_statements
value_in_procedure = refl

-- INTENT of what is no dummy: integer, intent(in) :: a; end
intent_of_none : answers (record { name = None; uses = ([]); body = (record { implicit_none = None; declarations = ((record { type_spec = (s.integer None); attributes = ((s.intent intents.In) ∷ []); entities = ((record { name = (n (codes "a") 1 24); dimensions = ([]); coshape = None; initial = None }) ∷ []); at = (p 1 1) }) ∷ []); statements = s.no_statements }); procedures = None; end = record { name = None; at = (p 2 1) } }) 29 1 24 ≡ true
unfolding judged_statements
intent_of_none = refl

-- a dummy without a type: contains; subroutine s(a); end subroutine; end
untyped_dummy : answers (record { name = None; uses = ([]); body = (record { implicit_none = None; declarations = ([]); statements = s.no_statements }); procedures = (Some ((record { heading = (u.subroutine recursions.Unstated (n (codes "s") 2 12) (Some ((n (codes "a") 2 14) ∷ []))); body = (record { implicit_none = None; declarations = ([]); statements = s.no_statements }); end = record { name = None; at = (p 3 1) }; at = (p 2 1) }) ∷ [])); end = record { name = None; at = (p 4 1) } }) 29 2 14 ≡ true
unfolding judged_statements
untyped_dummy = refl

-- one cell too many: integer :: a(65536); integer :: b; end
too_many_cells : answers (record { name = None; uses = ([]); body = (record { implicit_none = None; declarations = ((record { type_spec = (s.integer None); attributes = ([]); entities = ((record { name = (n (codes "a") 1 12); dimensions = ((s.explicit (record { lower = None; upper = (f.number 65536 kinds.Unstated (p 1 14)) })) ∷ []); coshape = None; initial = None }) ∷ []); at = (p 1 1) }) ∷ (record { type_spec = (s.integer None); attributes = ([]); entities = ((record { name = (n (codes "b") 2 12); dimensions = ([]); coshape = None; initial = None }) ∷ []); at = (p 2 1) }) ∷ []); statements = s.no_statements }); procedures = None; end = record { name = None; at = (p 3 1) } }) 30 2 12 ≡ true
unfolding judged_statements
too_many_cells = refl

-- coarrays are counted apart: integer :: a(65536); integer :: b(65536)[*]; end
coarrays_apart : accepted (record { name = None; uses = ([]); body = (record { implicit_none = None; declarations = ((record { type_spec = (s.integer None); attributes = ([]); entities = ((record { name = (n (codes "a") 1 12); dimensions = ((s.explicit (record { lower = None; upper = (f.number 65536 kinds.Unstated (p 1 14)) })) ∷ []); coshape = None; initial = None }) ∷ []); at = (p 1 1) }) ∷ (record { type_spec = (s.integer None); attributes = ([]); entities = ((record { name = (n (codes "b") 2 12); dimensions = ((s.explicit (record { lower = None; upper = (f.number 65536 kinds.Unstated (p 2 14)) })) ∷ []); coshape = (Some (s.explicit_coshape ([]) None)); initial = None }) ∷ []); at = (p 2 1) }) ∷ []); statements = s.no_statements }); procedures = None; end = record { name = None; at = (p 3 1) } }) ≡ true
unfolding judged_statements
coarrays_apart = refl

-- an initial value of another type: integer :: a = .true.; end
value_of_other_type : answers (record { name = None; uses = ([]); body = (record { implicit_none = None; declarations = ((record { type_spec = (s.integer None); attributes = ([]); entities = ((record { name = (n (codes "a") 1 12); dimensions = ([]); coshape = None; initial = (Some (f.logical true (p 1 16))) }) ∷ []); at = (p 1 1) }) ∷ []); statements = s.no_statements }); procedures = None; end = record { name = None; at = (p 2 1) } }) 32 1 16 ≡ true
unfolding judged_statements
value_of_other_type = refl

-- one of another shape: integer :: a(2) = [1, 2, 3]; end
value_of_other_shape : answers (record { name = None; uses = ([]); body = (record { implicit_none = None; declarations = ((record { type_spec = (s.integer None); attributes = ([]); entities = ((record { name = (n (codes "a") 1 12); dimensions = ((s.explicit (record { lower = None; upper = (f.number 2 kinds.Unstated (p 1 14)) })) ∷ []); coshape = None; initial = (Some (f.array_constructor (f.more_expressions (f.number 1 kinds.Unstated (p 1 20)) (f.more_expressions (f.number 2 kinds.Unstated (p 1 23)) (f.more_expressions (f.number 3 kinds.Unstated (p 1 26)) f.no_expressions))) (p 1 19))) }) ∷ []); at = (p 1 1) }) ∷ []); statements = s.no_statements }); procedures = None; end = record { name = None; at = (p 2 1) } }) 38 1 19 ≡ true
unfolding judged_statements
value_of_other_shape = refl
