-- Some trees with the places of the words, and which construct is open where they end, worked out by hand: a token
-- stands at column 1 of each line.
use Rattle.std.proofs.Common.{◌≡◌, ℕ, true, List, [], ◌∷◌, Some, None, refl}
use Rattle.caf_base.specs.declared.place.Pos.{Pos}
use Rattle.fortran_tree.specs.declared.statement.End.{End}
use Rattle.fortran_tree.specs.declared.unit.Recursion.TheVariants as recursions
use Rattle.fortran_tree.specs.Expressions as e
use Rattle.fortran_tree.specs.Expressions.{Expression}
use Rattle.fortran_tree.specs.Statements as s
use Rattle.fortran_tree.specs.Statements.{Statement, Statements}
use Rattle.fortran_tree.specs.Units as u
use Rattle.fortran_tree.specs.Units.{Body, Procedure, Program}
use Rattle.fortran_grammar.specs.Tokens as t
use Rattle.fortran_grammar.specs.Tokens.{Token}
use Rattle.program_reader.specs.Unfinished.{first_place}
use Rattle.open_constructs.specs.Open.{extents, innermost}

abbrev line : ℕ → Pos
line n = record { line = n; col = 1 }

-- words up to a line
abbrev words : List ℕ → List Token
words [] = []
words (n ∷ ns) = record { tok = t.over; at = line n } ∷ words ns

abbrev place : List ℕ → Program → Pos
place ns x = innermost (words ns) (extents x) (first_place (words ns))

-- a tree whose last line is 9
abbrev ended : ℕ → End
ended n = record { name = None; at = line n }

abbrev yes : Expression
yes = e.logical true (line 1)

abbrev alone : Statement → Statements
alone x = s.more_statements x s.no_statements

abbrev body : Statements → Body
body b = record { implicit_none = None; declarations = []; statements = b }

abbrev main : Statements → Program
main b = record { name = None; uses = []; body = body b; procedures = None; end = ended 9 }

-- line 1: contains; 2: subroutine s; 3: do; 4: if (..) then; 5: end if; 6: end do; 7: end; 9: end
abbrev nested : Program
nested =
    let test = s.if_construct yes s.no_statements s.no_else_ifs s.no_else_block (line 4) (line 5) in
    let loop = s.do_construct None s.unlimited (alone test) (line 3) (ended 6) in
    let inner : Procedure = record { heading = u.subroutine recursions.Unstated (record { text = 115 ∷ []; at = line 2 }) None; body = body (alone loop); end = ended 7; at = line 2 } in
    record { name = None; uses = []; body = body s.no_statements; procedures = Some (inner ∷ []); end = ended 9 }

behind_contains : place (1 ∷ []) nested ≡ line 1
behind_contains = refl

in_procedure : place (1 ∷ 2 ∷ []) nested ≡ line 2
in_procedure = refl

in_loop : place (1 ∷ 2 ∷ 3 ∷ []) nested ≡ line 3
in_loop = refl

in_test : place (1 ∷ 2 ∷ 3 ∷ 4 ∷ []) nested ≡ line 4
in_test = refl

behind_test : place (1 ∷ 2 ∷ 3 ∷ 4 ∷ 5 ∷ []) nested ≡ line 3
behind_test = refl

behind_loop : place (1 ∷ 2 ∷ 3 ∷ 4 ∷ 5 ∷ 6 ∷ []) nested ≡ line 2
behind_loop = refl

behind_procedure : place (1 ∷ 2 ∷ 3 ∷ 4 ∷ 5 ∷ 6 ∷ 7 ∷ []) nested ≡ line 1
behind_procedure = refl

-- line 1: if (..) then; 2: else if (..) then; 3: critical; 4: end critical; 5: else; 6: do; 7: end do; 8: end if; 9:
-- end
abbrev branches : Program
branches =
    let region = s.critical_construct s.absent s.no_statements (line 3) (line 4) in
    let loop = s.do_construct None s.unlimited s.no_statements (line 6) (ended 7) in
    main (alone (s.if_construct yes s.no_statements (s.more_else_ifs yes (alone region) (line 2) s.no_else_ifs) (s.else_block (alone loop) (line 5)) (line 1) (line 8)))

in_branch : place (1 ∷ 2 ∷ []) branches ≡ line 1
in_branch = refl

in_region : place (1 ∷ 2 ∷ 3 ∷ []) branches ≡ line 3
in_region = refl

behind_region : place (1 ∷ 2 ∷ 3 ∷ 4 ∷ []) branches ≡ line 1
behind_region = refl

in_last_branch : place (1 ∷ 2 ∷ 3 ∷ 4 ∷ 5 ∷ 6 ∷ []) branches ≡ line 6
in_last_branch = refl

-- line 1: select case (..); 2: case default; 3: change team (..); 4: end team; 5: end select; 9: end
abbrev chosen : Program
chosen =
    let team = s.change_team_construct yes e.no_specifiers s.no_statements s.absent (line 3) (line 4) in
    main (alone (s.case_construct yes (s.more_case_blocks s.default (alone team) (line 2) s.no_case_blocks) (line 1) (line 5)))

before_case : place (1 ∷ []) chosen ≡ line 1
before_case = refl

in_team : place (1 ∷ 2 ∷ 3 ∷ []) chosen ≡ line 3
in_team = refl

behind_team : place (1 ∷ 2 ∷ 3 ∷ 4 ∷ []) chosen ≡ line 1
behind_team = refl
