-- Readers of actions as statements, of CASE, and of the END statements of procedures and programs.
use Rattle.std.specs.Prelude.{ℕ, Bool, true, false, codes, List, ◌++◌, Option, Some, None}
use Rattle.caf_base.specs.declared.place.Pos.{Pos}
use Rattle.reader_theory.specs.Readers.{token, both, first, mapped, pick, optional, behind, pair}
use Rattle.fortran_tokens.specs.declared.token.Sign.TheVariants as sign
use Rattle.fortran_tree.specs.declared.name.Name.{Name}
use Rattle.fortran_tree.specs.Expressions.{Expression}
use Rattle.fortran_tree.specs.Statements as s
use Rattle.fortran_tree.specs.Statements.{ActionStatement, CaseRange, CaseSelector}
use Rattle.expr_reader.specs.Tests.{is_sign, is_key, is_word, a_name, placed, list_of}
use Rattle.statement_reader.specs.Families.{Family, rounded, an_expression}
use Rattle.statement_reader.specs.Actions.{a_designator, a_key, maybe_name, maybe_expression, of_two}
use Rattle.statement_reader.specs.Keywords.{a_keyword_action}
use Rattle.statement_reader.specs.Heads.{is_over, an_end, with, located, deepened, an_if}

-- designator "=" expr
abbrev pub an_assignment : Family ActionStatement
an_assignment left = mapped (of_two s.assignment) (both pair (a_designator left) (behind (is_sign sign.Assign) (an_expression left)))

abbrev pub is_assignment : ActionStatement → Bool
is_assignment (s.assignment d e) = true
is_assignment f = false

-- an action at its place, up to the end of its statement
abbrev pub line_of : Family ActionStatement → Family (Pos × ActionStatement)
line_of r left = both first (placed pair (r left)) (token is_over)

abbrev pub assignment_line : Family (Pos × ActionStatement)
assignment_line = line_of an_assignment

abbrev pub keyword_line : Family (Pos × ActionStatement)
keyword_line = line_of a_keyword_action

-- what stands before the action of a one-line IF
abbrev pub if_prefix : Family (Pos × Expression)
if_prefix = located an_if

-- the name of a DO construct and its colon
abbrev pub construct_prefix : Family Name
construct_prefix = deepened is_word (λ left. both first a_name (token (is_sign sign.Colon)))

-- ranges of values
abbrev pub at_most_of : Pos × Expression → CaseRange
at_most_of q = s.at_most q.1 q.0

abbrev pub range_of : Expression × Option (Option Expression) → CaseRange
range_of (e, None) = s.single e
range_of (e, Some None) = s.at_least e
range_of (e, Some (Some f)) = s.between e f

abbrev pub colon_bound : Family (Option Expression)
colon_bound left = behind (is_sign sign.Colon) (maybe_expression left)

abbrev pub a_case_range : Family CaseRange
a_case_range left = pick (is_sign sign.Colon) (mapped at_most_of (located (λ l. behind (is_sign sign.Colon) (an_expression l)) left))
    (mapped range_of (both pair (an_expression left) (optional (is_sign sign.Colon) (colon_bound left))))

abbrev pub a_case_selector : Family CaseSelector
a_case_selector left = pick (is_key (codes "default")) (mapped (λ z. s.default) (a_key (codes "default") left)) (mapped s.ranges (rounded (λ l. list_of (a_case_range l)) left))

abbrev pub case_line : Family ((Pos × Unit {0}) × CaseSelector)
case_line left = both pair (located (a_key (codes "case")) left) (with a_case_selector an_end left)

-- END of a procedure or of the program: alone, with its keyword, with its keyword and its name
abbrev pub name_if_any : Option (Option Name) → Option Name
name_if_any None = None
name_if_any (Some o) = o

abbrev pub end_with : List ℕ → Family (Option Name)
end_with k left = pick (is_key (codes "end" ++ k)) (behind (is_key (codes "end" ++ k)) (maybe_name left))
    (mapped name_if_any (behind (is_key (codes "end")) (optional (is_key k) (behind (is_key k) (maybe_name left)))))
