-- Declarations and programs that the grammar reads, and trees that it doesn't have for them, worked out by hand; `;`
-- ends a statement.
use Rattle.std.proofs.Common.{◌≡◌, true, false, [], ◌∷◌, refl, codes, Some, None}
use Rattle.fortran_tree.specs.declared.declaration.Intent.TheVariants as t
use Rattle.fortran_tree.specs.declared.unit.ModuleNature.TheVariants as u
use Rattle.fortran_tree.specs.declared.unit.Recursion.TheVariants as r
use Rattle.fortran_tree.specs.Statements as s
use Rattle.fortran_tree.specs.Units as unit
use Rattle.fortran_grammar.specs.ActionGrammar.{declaration}
use Rattle.fortran_grammar.specs.ProgramGrammar.{program}
use Rattle.fortran_grammar.specs.Acceptance.{spelled}
use Rattle.fortran_grammar.proofs.SmallTrees.{here, n, d, i}
use Rattle.fortran_grammar.proofs.Trying.{cut}

-- a declaration
declares : spelled (declaration (record { type_spec = s.integer None; attributes = []; entities = record { name = (n (codes "x") 12); dimensions = []; coshape = None; initial = None } ∷ record { name = (n (codes "y") 16); dimensions = []; coshape = None; initial = None } ∷ []; at = (here 1) })) 64 (cut (codes "integer :: x , y ;")) ≡ true
declares = refl

-- whose colons may be left out
colons_left_out : spelled (declaration (record { type_spec = s.integer None; attributes = []; entities = record { name = (n (codes "x") 9); dimensions = []; coshape = None; initial = None } ∷ []; at = (here 1) })) 64 (cut (codes "integer x ;")) ≡ true
colons_left_out = refl

-- but not before an initial value
colons_before_value : spelled (declaration (record { type_spec = s.integer None; attributes = []; entities = record { name = (n (codes "x") 9); dimensions = []; coshape = None; initial = Some (i 1 13) } ∷ []; at = (here 1) })) 64 (cut (codes "integer x = 1 ;")) ≡ false
colons_before_value = refl

-- an initial value
initial_value : spelled (declaration (record { type_spec = s.integer None; attributes = []; entities = record { name = (n (codes "x") 12); dimensions = []; coshape = None; initial = Some (i 1 16) } ∷ []; at = (here 1) })) 64 (cut (codes "integer :: x = 1 ;")) ≡ true
initial_value = refl

-- nor behind an attribute
colons_behind_attribute : spelled (declaration (record { type_spec = s.integer None; attributes = s.save ∷ []; entities = record { name = (n (codes "x") 16); dimensions = []; coshape = None; initial = None } ∷ []; at = (here 1) })) 64 (cut (codes "integer , save x ;")) ≡ false
colons_behind_attribute = refl

-- KIND= may be left out
kind_word : spelled (declaration (record { type_spec = s.integer (Some (i 8 18)); attributes = []; entities = record { name = (n (codes "x") 25); dimensions = []; coshape = None; initial = None } ∷ []; at = (here 1) })) 64 (cut (codes "integer ( kind = 8 ) :: x ;")) ≡ true
kind_word = refl

-- and is left out here
kind_alone : spelled (declaration (record { type_spec = s.logical (Some (i 4 11)); attributes = []; entities = record { name = (n (codes "x") 15); dimensions = []; coshape = None; initial = None } ∷ []; at = (here 1) })) 64 (cut (codes "logical ( 4 ) x ;")) ≡ true
kind_alone = refl

-- a derived type
derived : spelled (declaration (record { type_spec = s.derived (n (codes "team_type") 8); attributes = []; entities = record { name = (n (codes "t") 23); dimensions = []; coshape = None; initial = None } ∷ []; at = (here 1) })) 64 (cut (codes "type ( team_type ) :: t ;")) ≡ true
derived = refl

-- attributes
attributes : spelled (declaration (record { type_spec = s.integer None; attributes = s.parameter ∷ s.allocatable ∷ s.dimension (s.deferred (here 49) ∷ []) ∷ s.codimension (s.deferred_coshape 2) ∷ []; entities = record { name = (n (codes "x") 80); dimensions = []; coshape = None; initial = None } ∷ []; at = (here 1) })) 64 (cut (codes "integer , parameter , allocatable , dimension ( : ) , codimension [ : , : ] :: x ;")) ≡ true
attributes = refl

-- INTENT
intents : spelled (declaration (record { type_spec = s.integer None; attributes = s.intent t.InOut ∷ s.intent t.In ∷ s.intent t.Out ∷ []; entities = record { name = (n (codes "x") 65); dimensions = []; coshape = None; initial = None } ∷ []; at = (here 1) })) 64 (cut (codes "integer , intent ( in out ) , intent ( in ) , intent ( out ) :: x ;")) ≡ true
intents = refl

-- IN OUT in one word
intent_in_one : spelled (declaration (record { type_spec = s.integer None; attributes = s.intent t.InOut ∷ []; entities = record { name = (n (codes "x") 31); dimensions = []; coshape = None; initial = None } ∷ []; at = (here 1) })) 64 (cut (codes "integer , intent ( inout ) :: x ;")) ≡ true
intent_in_one = refl

-- bounds and cobounds
bounds : spelled (declaration (record { type_spec = s.integer None; attributes = []; entities = record { name = (n (codes "x") 12); dimensions = s.explicit (record { lower = Some (i 2 16); upper = (i 3 20) }) ∷ s.explicit (record { lower = None; upper = (i 4 24) }) ∷ []; coshape = Some (s.explicit_coshape (record { lower = None; upper = (i 5 30) } ∷ []) (Some (i 0 34))); initial = None } ∷ []; at = (here 1) })) 64 (cut (codes "integer :: x ( 2 : 3 , 4 ) [ 5 , 0 : * ] ;")) ≡ true
bounds = refl

-- explicit cobounds end with an asterisk
no_asterisk : spelled (declaration (record { type_spec = s.integer None; attributes = []; entities = record { name = (n (codes "x") 12); dimensions = []; coshape = Some (s.explicit_coshape [] None); initial = None } ∷ []; at = (here 1) })) 64 (cut (codes "integer :: x [ ] ;")) ≡ false
no_asterisk = refl

-- the shortest program
shortest : spelled (program (record { name = None; uses = []; body = record { implicit_none = None; declarations = []; statements = s.no_statements }; procedures = None; end = record { name = None; at = (here 1) } })) 64 (cut (codes "end ;")) ≡ true
shortest = refl

-- whose END may have its word
end_program : spelled (program (record { name = None; uses = []; body = record { implicit_none = None; declarations = []; statements = s.no_statements }; procedures = None; end = record { name = None; at = (here 1) } })) 64 (cut (codes "end program ;")) ≡ true
end_program = refl

-- in one word, and a name
end_in_one : spelled (program (record { name = None; uses = []; body = record { implicit_none = None; declarations = []; statements = s.no_statements }; procedures = None; end = record { name = Some (n (codes "p") 12); at = (here 1) } })) 64 (cut (codes "endprogram p ;")) ≡ true
end_in_one = refl

-- before a name the word stands
end_needs_word : spelled (program (record { name = None; uses = []; body = record { implicit_none = None; declarations = []; statements = s.no_statements }; procedures = None; end = record { name = Some (n (codes "p") 5); at = (here 1) } })) 64 (cut (codes "end p ;")) ≡ false
end_needs_word = refl

-- PROGRAM
named_program : spelled (program (record { name = Some (n (codes "p") 9); uses = []; body = record { implicit_none = None; declarations = []; statements = s.no_statements }; procedures = None; end = record { name = Some (n (codes "p") 25); at = (here 13) } })) 64 (cut (codes "program p ; end program p ;")) ≡ true
named_program = refl

-- USE in each form
uses : spelled (program (record { name = None; uses = record { nature = u.Unstated; module_name = (n (codes "m") 5); only = None; at = (here 1) } ∷ record { nature = u.Unstated; module_name = (n (codes "m") 16); only = Some []; at = (here 9) } ∷ record { nature = u.Intrinsic; module_name = (n (codes "m") 48); only = Some ((n (codes "a") 59) ∷ (n (codes "b") 63) ∷ []); at = (here 29) } ∷ []; body = record { implicit_none = None; declarations = []; statements = s.no_statements }; procedures = None; end = record { name = None; at = (here 67) } })) 64 (cut (codes "use m ; use :: m , only : ; use , intrinsic :: m , only : a , b ; end ;")) ≡ true
uses = refl

-- IMPLICIT NONE, a declaration and a statement
implicit : spelled (program (record { name = None; uses = []; body = record { implicit_none = Some (here 1); declarations = record { type_spec = s.integer None; attributes = []; entities = record { name = (n (codes "x") 28); dimensions = []; coshape = None; initial = None } ∷ []; at = (here 17) } ∷ []; statements = s.more_statements (s.action (s.assignment (d (codes "x") 32) (i 1 36)) (here 32)) s.no_statements }; procedures = None; end = record { name = None; at = (here 40) } })) 64 (cut (codes "implicit none ; integer :: x ; x = 1 ; end ;")) ≡ true
implicit = refl

-- IMPLICIT NONE isn't forgotten
implicit_kept : spelled (program (record { name = None; uses = []; body = record { implicit_none = None; declarations = []; statements = s.no_statements }; procedures = None; end = record { name = None; at = (here 17) } })) 64 (cut (codes "implicit none ; end ;")) ≡ false
implicit_kept = refl

-- an empty CONTAINS part
contains_nothing : spelled (program (record { name = None; uses = []; body = record { implicit_none = None; declarations = []; statements = s.no_statements }; procedures = Some []; end = record { name = None; at = (here 12) } })) 64 (cut (codes "contains ; end ;")) ≡ true
contains_nothing = refl

-- subroutines
subroutines : spelled (program (record { name = None; uses = []; body = record { implicit_none = None; declarations = []; statements = s.no_statements }; procedures = Some (record { heading = unit.subroutine r.Unstated (n (codes "s") 23) None; body = record { implicit_none = None; declarations = []; statements = s.no_statements }; end = record { name = None; at = (here 27) }; at = (here 12) } ∷ record { heading = unit.subroutine r.Recursive (n (codes "s") 54) (Some ((n (codes "a") 58) ∷ (n (codes "b") 62) ∷ [])); body = record { implicit_none = None; declarations = []; statements = s.no_statements }; end = record { name = Some (n (codes "s") 83); at = (here 68) }; at = (here 33) } ∷ record { heading = unit.subroutine r.Unstated (n (codes "s") 98) (Some []); body = record { implicit_none = None; declarations = []; statements = s.no_statements }; end = record { name = None; at = (here 106) }; at = (here 87) } ∷ []); end = record { name = None; at = (here 122) } })) 64 (cut (codes "contains ; subroutine s ; end ; recursive subroutine s ( a , b ) ; end subroutine s ; subroutine s ( ) ; endsubroutine ; end ;")) ≡ true
subroutines = refl

-- functions
functions : spelled (program (record { name = None; uses = []; body = record { implicit_none = None; declarations = []; statements = s.no_statements }; procedures = Some (record { heading = unit.function [] (n (codes "f") 21) [] None; body = record { implicit_none = None; declarations = []; statements = s.no_statements }; end = record { name = None; at = (here 29) }; at = (here 12) } ∷ record { heading = unit.function (unit.recursive ∷ unit.result_type (s.integer None) ∷ []) (n (codes "f") 70) ((n (codes "a") 74) ∷ []) (Some (n (codes "r") 87)); body = record { implicit_none = None; declarations = []; statements = s.no_statements }; end = record { name = Some (n (codes "f") 106); at = (here 93) }; at = (here 43) } ∷ []); end = record { name = None; at = (here 110) } })) 64 (cut (codes "contains ; function f ( ) ; endfunction ; recursive integer function f ( a ) result ( r ) ; end function f ; end ;")) ≡ true
functions = refl

-- a function has brackets
function_brackets : spelled (program (record { name = None; uses = []; body = record { implicit_none = None; declarations = []; statements = s.no_statements }; procedures = Some (record { heading = unit.function [] (n (codes "f") 21) [] None; body = record { implicit_none = None; declarations = []; statements = s.no_statements }; end = record { name = None; at = (here 25) }; at = (here 12) } ∷ []); end = record { name = None; at = (here 31) } })) 64 (cut (codes "contains ; function f ; end ; end ;")) ≡ false
function_brackets = refl
