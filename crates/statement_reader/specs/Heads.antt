-- Readers of the statements that begin, divide and end constructs (ISO/IEC 1539-1:2018, 11.1), each with the end of its
-- statement.
use Rattle.std.specs.Prelude.{ℕ, zero, suc, Bool, true, false, codes, List, ◌++◌, Option, Some, None}
use Rattle.caf_base.specs.declared.place.Pos.{Pos}
use Rattle.reader_theory.specs.Words.{found}
use Rattle.reader_theory.specs.Readers.{token, both, first, mapped, pick, ahead, optional, behind, pair, sunk}
use Rattle.fortran_tokens.specs.declared.token.Sign.TheVariants as sign
use Rattle.fortran_tree.specs.declared.name.Name.{Name}
use Rattle.fortran_tree.specs.Expressions.{Expression, Specifiers}
use Rattle.fortran_tree.specs.Statements as s
use Rattle.fortran_tree.specs.Statements.{LoopControl, CaseRange, CaseSelector, BracketedSpecifier, ActionStatement}
use Rattle.fortran_grammar.specs.Tokens as t
use Rattle.fortran_grammar.specs.Tokens.{Tok, Token}
use Rattle.expr_reader.specs.Tests.{is_sign, is_key, is_word, a_name, placed}
use Rattle.statement_reader.specs.Families.{Family, rounded, an_expression}
use Rattle.statement_reader.specs.Actions.{Assigned, a_specifier, a_team, a_key, maybe_name}

abbrev pub is_over_tok : Tok → Bool
is_over_tok t.over = true
is_over_tok x = false

abbrev pub is_over : Token → Bool
is_over x = is_over_tok x.tok

abbrev pub an_end : Family (Unit {0})
an_end left = mapped (λ z. tt) (token is_over)

-- a part, and behind it a fixed one
abbrev pub with : {A : Type 0} → Family A → Family (Unit {0}) → Family A
with r q left = both first (r left) (q left)

-- what is a level from its first token on
abbrev pub deepened : {A : Type 0} → (Token → Bool) → Family A → Family A
deepened test r zero = sunk test
deepened test r (suc left) = r left

abbrev pub behind_key : {A : Type 0} → List ℕ → Family A → Family A
behind_key k r left = behind (is_key k) (r left)

-- with the place of the first token
abbrev pub located : {A : Type 0} → Family A → Family (Pos × A)
located r left = placed pair (r left)

-- two keywords, or both as one word
abbrev pub a_joined : List ℕ → List ℕ → Family (Unit {0})
a_joined j k left = pick (is_key (j ++ k)) (a_key (j ++ k) left) (behind (is_key j) (a_key k left))

abbrev pub a_condition : Family Expression
a_condition left = rounded an_expression left

-- IF: the prefix of a one-line IF, and the statement of a construct
abbrev pub an_if : Family Expression
an_if = deepened (is_key (codes "if")) (behind_key (codes "if") a_condition)

abbrev pub then_end : Family (Unit {0})
then_end = behind_key (codes "then") an_end

abbrev pub an_if_then : Family (Pos × Expression)
an_if_then = located (deepened (is_key (codes "if")) (behind_key (codes "if") (with a_condition then_end)))

abbrev pub a_joined_at : List ℕ → List ℕ → Family (Pos × Unit {0})
a_joined_at j k = located (a_joined j k)

abbrev pub an_else_if : Family ((Pos × Unit {0}) × Expression)
an_else_if left = both pair (a_joined_at (codes "else") (codes "if") left) (with a_condition then_end left)

abbrev pub an_else : Family (Pos × Unit {0})
an_else = with (located (a_key (codes "else"))) an_end

-- END IF, END SELECT, END CRITICAL; and END DO with the name of its construct
abbrev pub end_of : List ℕ → Family (Pos × Unit {0})
end_of k = with (a_joined_at (codes "end") k) an_end

abbrev pub end_do : Family ((Pos × Unit {0}) × Option Name)
end_do left = both pair (a_joined_at (codes "end") (codes "do") left) (with maybe_name an_end left)

abbrev pub step_part : Family (Option Expression)
step_part left = optional (is_sign sign.Comma) (behind (is_sign sign.Comma) (an_expression left))

abbrev pub a_range : Family (Expression × (Expression × Option Expression))
a_range left = both pair (an_expression left) (behind (is_sign sign.Comma) (both pair (an_expression left) (step_part left)))

-- SELECT CASE and CASE
abbrev pub a_select_case : Family (Unit {0} × Expression)
a_select_case left = both pair (a_joined (codes "select") (codes "case") left) (with a_condition an_end left)

-- CRITICAL and CHANGE TEAM
abbrev pub specifier_of : Option (Option Assigned) → BracketedSpecifier
specifier_of None = s.absent
specifier_of (Some None) = s.empty
specifier_of (Some (Some q)) = s.present q.0 q.1

abbrev pub a_bracketed_specifier : Family BracketedSpecifier
a_bracketed_specifier left = mapped specifier_of (optional (is_sign sign.OpenRound) (rounded (λ l. optional is_word (a_specifier l)) left))

abbrev pub a_critical : Family (Pos × BracketedSpecifier)
a_critical = located (deepened (is_key (codes "critical")) (behind_key (codes "critical") (with a_bracketed_specifier an_end)))

abbrev pub a_change_team : Family (Pos × (Expression × Specifiers))
a_change_team = located (deepened (is_key (codes "change")) (behind_key (codes "change") (behind_key (codes "team") (with (rounded a_team) an_end))))

abbrev pub end_team : Family ((Pos × Unit {0}) × BracketedSpecifier)
end_team left = both pair (a_joined_at (codes "end") (codes "team") left) (with a_bracketed_specifier an_end left)

-- the control of a DO statement: none, WHILE before a bracket, or a variable
abbrev pub counted_of : Name × (Expression × (Expression × Option Expression)) → LoopControl
counted_of q = s.counted q.0 q.1.0 q.1.1.0 q.1.1.1

abbrev pub a_while : Family LoopControl
a_while left = mapped s.while (behind (is_key (codes "while")) (a_condition left))

abbrev pub a_count : Family LoopControl
a_count left = mapped counted_of (both pair a_name (behind (is_sign sign.Assign) (a_range left)))

abbrev pub a_control : Family LoopControl
a_control left = pick is_word (ahead (is_key (codes "while")) (is_sign sign.OpenRound) (a_while left) (a_count left)) (found s.unlimited)
