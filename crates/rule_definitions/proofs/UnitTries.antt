-- Programs with several units, worked out by hand.
use Rattle.std.proofs.Common.{◌≡◌, true, false, [], ◌∷◌, refl, codes, Some, None}
use Rattle.fortran_tree.specs.declared.expr.NumberKind.TheVariants as kinds
use Rattle.fortran_tree.specs.declared.expr.Operator.TheVariants as operators
use Rattle.fortran_tree.specs.declared.declaration.Intent.TheVariants as intents
use Rattle.fortran_tree.specs.declared.unit.ModuleNature.TheVariants as natures
use Rattle.fortran_tree.specs.declared.unit.Recursion.TheVariants as recursions
use Rattle.fortran_tree.specs.Expressions as f
use Rattle.fortran_tree.specs.Statements as s
use Rattle.fortran_tree.specs.Units as u
use Rattle.rule_definitions.proofs.Trees.{p, n, answers, accepted}
use Rattle.rule_definitions.specs.Statements.{judged_statements}

-- nothing at all: end
no_statement : accepted (record { name = None; uses = ([]); body = (record { implicit_none = None; declarations = ([]); statements = s.no_statements }); procedures = None; end = record { name = None; at = (p 1 1) } }) ≡ true
unfolding judged_statements
no_statement = refl

-- another module: use iso_c_binding; end
other_module : answers (record { name = None; uses = ((record { nature = natures.Unstated; module_name = (n (codes "iso_c_binding") 1 5); only = None; at = (p 1 1) }) ∷ []); body = (record { implicit_none = None; declarations = ([]); statements = s.no_statements }); procedures = None; end = record { name = None; at = (p 2 1) } }) 20 1 5 ≡ true
unfolding judged_statements
other_module = refl

-- a result without a type: contains; function f(); end function; end
untyped_result : answers (record { name = None; uses = ([]); body = (record { implicit_none = None; declarations = ([]); statements = s.no_statements }); procedures = (Some ((record { heading = (u.function ([]) (n (codes "f") 2 10) ([]) None); body = (record { implicit_none = None; declarations = ([]); statements = s.no_statements }); end = record { name = None; at = (p 3 1) }; at = (p 2 1) }) ∷ [])); end = record { name = None; at = (p 4 1) } }) 20 2 10 ≡ true
unfolding judged_statements
untyped_result = refl

-- two procedures of one name: contains; subroutine s(); end subroutine; subroutine s(); end subroutine; end
procedure_twice : answers (record { name = None; uses = ([]); body = (record { implicit_none = None; declarations = ([]); statements = s.no_statements }); procedures = (Some ((record { heading = (u.subroutine recursions.Unstated (n (codes "s") 2 12) (Some ([]))); body = (record { implicit_none = None; declarations = ([]); statements = s.no_statements }); end = record { name = None; at = (p 3 1) }; at = (p 2 1) }) ∷ (record { heading = (u.subroutine recursions.Unstated (n (codes "s") 4 12) (Some ([]))); body = (record { implicit_none = None; declarations = ([]); statements = s.no_statements }); end = record { name = None; at = (p 5 1) }; at = (p 4 1) }) ∷ [])); end = record { name = None; at = (p 6 1) } }) 21 4 12 ≡ true
unfolding judged_statements
procedure_twice = refl

-- a procedure with a variable's name: integer :: s; contains; subroutine s(); end subroutine; end
procedure_of_variable : answers (record { name = None; uses = ([]); body = (record { implicit_none = None; declarations = ((record { type_spec = (s.integer None); attributes = ([]); entities = ((record { name = (n (codes "s") 1 12); dimensions = ([]); coshape = None; initial = None }) ∷ []); at = (p 1 1) }) ∷ []); statements = s.no_statements }); procedures = (Some ((record { heading = (u.subroutine recursions.Unstated (n (codes "s") 3 12) (Some ([]))); body = (record { implicit_none = None; declarations = ([]); statements = s.no_statements }); end = record { name = None; at = (p 4 1) }; at = (p 3 1) }) ∷ [])); end = record { name = None; at = (p 5 1) } }) 21 3 12 ≡ true
unfolding judged_statements
procedure_of_variable = refl

-- a dummy twice: contains; subroutine s(a, a); integer :: a; end subroutine; end
dummy_twice : answers (record { name = None; uses = ([]); body = (record { implicit_none = None; declarations = ([]); statements = s.no_statements }); procedures = (Some ((record { heading = (u.subroutine recursions.Unstated (n (codes "s") 2 12) (Some ((n (codes "a") 2 14) ∷ (n (codes "a") 2 17) ∷ []))); body = (record { implicit_none = None; declarations = ((record { type_spec = (s.integer None); attributes = ([]); entities = ((record { name = (n (codes "a") 3 12); dimensions = ([]); coshape = None; initial = None }) ∷ []); at = (p 3 1) }) ∷ []); statements = s.no_statements }); end = record { name = None; at = (p 4 1) }; at = (p 2 1) }) ∷ [])); end = record { name = None; at = (p 5 1) } }) 21 2 17 ≡ true
unfolding judged_statements
dummy_twice = refl

-- two types before FUNCTION: contains; integer logical function f(); f = 1; end function; end
two_prefix_types : answers (record { name = None; uses = ([]); body = (record { implicit_none = None; declarations = ([]); statements = s.no_statements }); procedures = (Some ((record { heading = (u.function (u.result_type (s.integer None) ∷ u.result_type (s.logical None) ∷ []) (n (codes "f") 2 26) ([]) None); body = (record { implicit_none = None; declarations = ([]); statements = (s.more_statements (s.action (s.assignment (f.part_ref (n (codes "f") 3 1) f.no_section_subscripts f.no_image_selector) (f.number 1 kinds.Unstated (p 3 5))) (p 3 1)) s.no_statements) }); end = record { name = None; at = (p 4 1) }; at = (p 2 1) }) ∷ [])); end = record { name = None; at = (p 5 1) } }) 21 2 26 ≡ true
unfolding judged_statements
two_prefix_types = refl

-- another name behind END SUBROUTINE: contains; subroutine s(); end subroutine t; end
end_of_procedure : answers (record { name = None; uses = ([]); body = (record { implicit_none = None; declarations = ([]); statements = s.no_statements }); procedures = (Some ((record { heading = (u.subroutine recursions.Unstated (n (codes "s") 2 12) (Some ([]))); body = (record { implicit_none = None; declarations = ([]); statements = s.no_statements }); end = record { name = (Some (n (codes "t") 3 16)); at = (p 3 1) }; at = (p 2 1) }) ∷ [])); end = record { name = None; at = (p 4 1) } }) 41 3 16 ≡ true
unfolding judged_statements
end_of_procedure = refl

-- another name behind END PROGRAM: program a; end program b
end_of_program : answers (record { name = (Some (n (codes "a") 1 9)); uses = ([]); body = (record { implicit_none = None; declarations = ([]); statements = s.no_statements }); procedures = None; end = record { name = (Some (n (codes "b") 2 13)); at = (p 2 1) } }) 41 2 13 ≡ true
unfolding judged_statements
end_of_program = refl

-- a function that stands further down: print *, f(2); contains; recursive integer function f(n) result(r); integer,
-- intent(in) :: n; r = g(n); end function; integer function g(n); integer :: n; g = n; n = 0; end function; end
procedure_below : accepted (record { name = None; uses = ([]); body = (record { implicit_none = None; declarations = ([]); statements = (s.more_statements (s.action (s.print s.free (s.value (f.designator (f.part_ref (n (codes "f") 1 10) (f.more_section_subscripts (f.subscript (f.number 2 kinds.Unstated (p 1 12))) f.no_section_subscripts) f.no_image_selector)) ∷ [])) (p 1 1)) s.no_statements) }); procedures = (Some ((record { heading = (u.function (u.result_type (s.integer None) ∷ []) (n (codes "f") 3 28) ((n (codes "n") 3 30) ∷ []) (Some (n (codes "r") 3 40))); body = (record { implicit_none = None; declarations = ((record { type_spec = (s.integer None); attributes = ((s.intent intents.In) ∷ []); entities = ((record { name = (n (codes "n") 4 24); dimensions = ([]); coshape = None; initial = None }) ∷ []); at = (p 4 1) }) ∷ []); statements = (s.more_statements (s.action (s.assignment (f.part_ref (n (codes "r") 5 1) f.no_section_subscripts f.no_image_selector) (f.designator (f.part_ref (n (codes "g") 5 5) (f.more_section_subscripts (f.subscript (f.designator (f.part_ref (n (codes "n") 5 7) f.no_section_subscripts f.no_image_selector))) f.no_section_subscripts) f.no_image_selector))) (p 5 1)) s.no_statements) }); end = record { name = None; at = (p 6 1) }; at = (p 3 1) }) ∷ (record { heading = (u.function (u.result_type (s.integer None) ∷ []) (n (codes "g") 7 18) ((n (codes "n") 7 20) ∷ []) None); body = (record { implicit_none = None; declarations = ((record { type_spec = (s.integer None); attributes = ([]); entities = ((record { name = (n (codes "n") 8 12); dimensions = ([]); coshape = None; initial = None }) ∷ []); at = (p 8 1) }) ∷ []); statements = (s.more_statements (s.action (s.assignment (f.part_ref (n (codes "g") 9 1) f.no_section_subscripts f.no_image_selector) (f.designator (f.part_ref (n (codes "n") 9 5) f.no_section_subscripts f.no_image_selector))) (p 9 1)) (s.more_statements (s.action (s.assignment (f.part_ref (n (codes "n") 10 1) f.no_section_subscripts f.no_image_selector) (f.number 0 kinds.Unstated (p 10 5))) (p 10 1)) s.no_statements)) }); end = record { name = None; at = (p 11 1) }; at = (p 7 1) }) ∷ [])); end = record { name = None; at = (p 12 1) } }) ≡ true
unfolding judged_statements
procedure_below = refl

-- the main program's variables are seen in a procedure: integer :: a(2); call s(); contains; subroutine s(); a(1) =
-- a(2); end subroutine; end
host_seen : accepted (record { name = None; uses = ([]); body = (record { implicit_none = None; declarations = ((record { type_spec = (s.integer None); attributes = ([]); entities = ((record { name = (n (codes "a") 1 12); dimensions = ((s.explicit (record { lower = None; upper = (f.number 2 kinds.Unstated (p 1 14)) })) ∷ []); coshape = None; initial = None }) ∷ []); at = (p 1 1) }) ∷ []); statements = (s.more_statements (s.action (s.call (n (codes "s") 2 6) (Some f.no_arguments)) (p 2 1)) s.no_statements) }); procedures = (Some ((record { heading = (u.subroutine recursions.Unstated (n (codes "s") 4 12) (Some ([]))); body = (record { implicit_none = None; declarations = ([]); statements = (s.more_statements (s.action (s.assignment (f.part_ref (n (codes "a") 5 1) (f.more_section_subscripts (f.subscript (f.number 1 kinds.Unstated (p 5 3))) f.no_section_subscripts) f.no_image_selector) (f.designator (f.part_ref (n (codes "a") 5 8) (f.more_section_subscripts (f.subscript (f.number 2 kinds.Unstated (p 5 10))) f.no_section_subscripts) f.no_image_selector))) (p 5 1)) s.no_statements) }); end = record { name = None; at = (p 6 1) }; at = (p 4 1) }) ∷ [])); end = record { name = None; at = (p 7 1) } }) ≡ true
unfolding judged_statements
host_seen = refl

-- the first place counts: integer :: a; a = b + .true.; a = .false.; end
first_place_counts : answers (record { name = None; uses = ([]); body = (record { implicit_none = None; declarations = ((record { type_spec = (s.integer None); attributes = ([]); entities = ((record { name = (n (codes "a") 1 12); dimensions = ([]); coshape = None; initial = None }) ∷ []); at = (p 1 1) }) ∷ []); statements = (s.more_statements (s.action (s.assignment (f.part_ref (n (codes "a") 2 1) f.no_section_subscripts f.no_image_selector) (f.binary operators.Add (f.designator (f.part_ref (n (codes "b") 2 5) f.no_section_subscripts f.no_image_selector)) (f.logical true (p 2 9)) (p 2 5))) (p 2 1)) (s.more_statements (s.action (s.assignment (f.part_ref (n (codes "a") 3 1) f.no_section_subscripts f.no_image_selector) (f.logical false (p 3 5))) (p 3 1)) s.no_statements)) }); procedures = None; end = record { name = None; at = (p 4 1) } }) 20 2 5 ≡ true
unfolding judged_statements
first_place_counts = refl
