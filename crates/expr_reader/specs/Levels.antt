-- The readers of what stands in brackets, where so many levels are left.
use Rattle.std.specs.Prelude.{ℕ, zero, suc, Bool, false, cond, List, [], ◌∷◌}
use Rattle.reader_theory.specs.Words.{Verdict, fault, expected, too_deep, found}
use Rattle.reader_theory.specs.Readers.{token, both, both_by, first, second, mapped, sunk}
use Rattle.fortran_tokens.specs.declared.token.Sign.{Sign}
use Rattle.fortran_tokens.specs.declared.token.Sign.TheVariants as sign
use Rattle.fortran_tree.specs.declared.name.Name.{Name}
use Rattle.fortran_tree.specs.Expressions.{Expression, Expressions}
use Rattle.fortran_grammar.specs.Tokens.{Token}
use Rattle.expr_reader.specs.Openings.{opens}
use Rattle.expr_reader.specs.Reading.{Reader, maybe_signed}
use Rattle.expr_reader.specs.Tests.{is_sign, a_name, in_round, in_square, list_of}
use Rattle.expr_reader.specs.Pieces.{Piece, pieces_or_none}
use Rattle.expr_reader.specs.Selectors.{Chosen, choices}
use Rattle.expr_reader.specs.Full.{is_square, expressions_of, full}

-- a name and `=`
abbrev pub a_keyword : Reader Name
a_keyword = both first a_name (token (is_sign sign.Assign))

-- an opening bracket, and the sign that closes it; where no level is left it is one level too many
abbrev pub opened_round : ℕ → Token → List Token → Verdict Token Sign
opened_round zero x ts = fault too_deep (x ∷ ts)
opened_round (suc left) x ts = found sign.CloseRound ts

abbrev pub round_opened : ℕ → Reader Sign
round_opened left [] = fault expected []
round_opened left (x ∷ ts) = cond (is_sign sign.OpenRound x) (opened_round left x ts) (fault expected (x ∷ ts))

abbrev pub opened_square : ℕ → Token → List Token → Verdict Token Sign
opened_square zero x ts = fault too_deep (x ∷ ts)
opened_square (suc left) x ts = found (cond (is_sign sign.OpenSquare x) sign.CloseSquare sign.CloseArray) ts

abbrev pub square_opened : ℕ → Reader Sign
square_opened left [] = fault expected []
square_opened left (x ∷ ts) = cond (is_square x) (opened_square left x ts) (fault expected (x ∷ ts))

-- what stands between an opening bracket and the sign that closes it
abbrev pub enclosed : {A : Type 0} → Reader Sign → Reader A → Reader A
enclosed opener r = both_by second opener (λ s. both first r (token (is_sign s)))

-- an expression, what stands behind a name, an image selector, the values of an array constructor
unfoldable pub group_at : ℕ → Reader Expression
group_at zero = sunk (is_sign sign.OpenRound)
group_at (suc left) = in_round (full left).expression

unfoldable pub pieces_at : ℕ → Reader (List Piece)
pieces_at zero = sunk (is_sign sign.OpenRound)
pieces_at (suc left) = in_round (pieces_or_none (full left).expression)

unfoldable pub selector_at : ℕ → Reader Chosen
selector_at zero = sunk is_square
selector_at (suc left) = in_square (choices (full left).expression)

unfoldable pub constructor_at : ℕ → Reader Expressions
constructor_at zero = sunk is_square
constructor_at (suc left) = in_square (mapped expressions_of (list_of (full left).expression))

-- a term with a sign or none
unfoldable pub signed_term : ℕ → Reader Expression
signed_term zero = maybe_signed 6 (sunk (opens 7)) (full 0).term
signed_term (suc left) = maybe_signed 6 (full left).term (full (suc left)).term

-- the text begins with this sign
abbrev pub begins_with : Sign → List Token → Bool
begins_with s [] = false
begins_with s (x ∷ ts) = is_sign s x
