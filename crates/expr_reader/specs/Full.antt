-- All primaries (ISO/IEC 1539-1:2018, R1001): literals, designators, function references, expressions in brackets,
-- array constructors.
use Rattle.std.specs.Prelude.{ℕ, Bool, true, false, cond, List, [], ◌∷◌, Option, Some, None}
use Rattle.caf_base.specs.declared.place.Pos.{Pos}
use Rattle.reader_theory.specs.Words.{found}
use Rattle.reader_theory.specs.Readers.{token, both, both_by, mapped, pick, optional, sunk, pair}
use Rattle.fortran_tokens.specs.declared.token.Sign.TheVariants as sign
use Rattle.fortran_tree.specs.declared.name.Name.{Name}
use Rattle.fortran_tree.specs.declared.expr.NumberKind.TheVariants as kinds
use Rattle.fortran_tree.specs.Expressions as s
use Rattle.fortran_tree.specs.Expressions.{Expression, Expressions, ImageSelector}
use Rattle.fortran_grammar.specs.Tokens as t
use Rattle.fortran_grammar.specs.Tokens.{Tok, Token}
use Rattle.expr_reader.specs.Reading.{Reader, Tier, tier}
use Rattle.expr_reader.specs.Tests.{is_sign, is_word, a_name, placed, in_round, in_square, list_of}
use Rattle.expr_reader.specs.Pieces.{Piece, pieces_or_none, is_call, subscripts_of, arguments_of}
use Rattle.expr_reader.specs.Selectors.{Chosen, choices}

abbrev pub is_integer_tok : Tok → Bool
is_integer_tok (t.integer n k) = true
is_integer_tok x = false

abbrev pub is_integer : Token → Bool
is_integer x = is_integer_tok x.tok

abbrev pub number_in : Tok → Pos → Expression
number_in (t.integer n k) at = s.number n k at
number_in x at = s.number 0 kinds.Unstated at

abbrev pub number_of : Token → Expression
number_of x = number_in x.tok x.at

abbrev pub is_truth_tok : Tok → Bool
is_truth_tok (t.sign sign.True) = true
is_truth_tok (t.sign sign.False) = true
is_truth_tok x = false

abbrev pub is_truth : Token → Bool
is_truth x = is_truth_tok x.tok

abbrev pub truth_tok : Tok → Bool
truth_tok (t.sign sign.True) = true
truth_tok x = false

abbrev pub truth_of : Token → Expression
truth_of x = s.logical (truth_tok x.tok) x.at

-- a square bracket of either spelling
abbrev pub is_square_tok : Tok → Bool
is_square_tok (t.sign sign.OpenSquare) = true
is_square_tok (t.sign sign.OpenArray) = true
is_square_tok x = false

abbrev pub is_square : Token → Bool
is_square x = is_square_tok x.tok

-- A name, what stands in round brackets behind it, and an image selector.
abbrev pub is_function : Option (List Piece) → Bool
is_function None = false
is_function (Some ps) = is_call ps

abbrev pub selector_of : Option Chosen → ImageSelector
selector_of None = s.no_image_selector
selector_of (Some c) = s.image_selector c.0 c.1

abbrev pub by_pieces : Name → Option (List Piece) → Option Chosen → Expression
by_pieces n None c = s.designator (s.part_ref n s.no_section_subscripts (selector_of c))
by_pieces n (Some ps) c = cond (is_call ps) (s.function_reference n (arguments_of ps)) (s.designator (s.part_ref n (subscripts_of ps) (selector_of c)))

abbrev pub named_expression : Name × Option (List Piece) → Option Chosen → Expression
named_expression nb c = by_pieces nb.0 nb.1 c

-- behind a function stands no selector
abbrev pub selector_part : Reader Chosen → Bool → Reader (Option Chosen)
selector_part selector true = found None
selector_part selector false = optional is_square selector

abbrev pub named_reader : Reader (List Piece) → Reader Chosen → Reader Expression
named_reader brackets selector = both_by named_expression (both pair a_name (optional (is_sign sign.OpenRound) brackets)) (λ nb. selector_part selector (is_function nb.1))

abbrev pub expressions_of : List Expression → Expressions
expressions_of [] = s.no_expressions
expressions_of (e ∷ es) = s.more_expressions e (expressions_of es)

abbrev pub grouped : Pos → Expression → Expression
grouped p e = s.parenthesized e p

abbrev pub constructed : Pos → Expressions → Expression
constructed p es = s.array_constructor es p

-- all of them, from the readers of what stands in brackets
abbrev pub any_primary : Reader (List Piece) → Reader Chosen → Reader Expression → Reader Expressions → Reader Expression
any_primary brackets selector group constructor =
    pick is_integer (mapped number_of (token is_integer)) (pick is_truth (mapped truth_of (token is_truth)) (pick is_word (named_reader brackets selector)
    (pick (is_sign sign.OpenRound) (placed grouped group) (placed constructed constructor))))

abbrev pub all_primaries : Reader Expression → Reader Expression
all_primaries r = any_primary (in_round (pieces_or_none r)) (in_square (choices r)) (in_round r) (in_square (mapped expressions_of (list_of r)))

abbrev pub last_primaries : Reader Expression
last_primaries = any_primary (sunk (is_sign sign.OpenRound)) (sunk is_square) (sunk (is_sign sign.OpenRound)) (sunk is_square)

-- the readers of expressions where so many levels are left
abbrev pub full : ℕ → Tier
full left = tier last_primaries all_primaries left
