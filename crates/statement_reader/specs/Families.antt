-- Readers for each number of levels that are left.
use Rattle.std.specs.Prelude.{ℕ, zero, suc, Bool, true, false, cond, List, [], ◌∷◌}
use Rattle.reader_theory.specs.Words.{found}
use Rattle.reader_theory.specs.Readers.{pick, sunk}
use Rattle.fortran_tokens.specs.declared.token.Sign.TheVariants as sign
use Rattle.fortran_tree.specs.Expressions.{Expression}
use Rattle.fortran_grammar.specs.Tokens.{Token}
use Rattle.expr_reader.specs.Reading.{Reader}
use Rattle.expr_reader.specs.Tests.{is_sign, is_key, in_round, in_square, list_of}
use Rattle.expr_reader.specs.Full.{is_square, full}

abbrev pub Family : Type 0 → Type 0
Family A = ℕ → Reader A

-- in brackets, which are a level
abbrev pub rounded : {A : Type 0} → Family A → Family A
rounded r zero = sunk (is_sign sign.OpenRound)
rounded r (suc left) = in_round (r left)

abbrev pub squared : {A : Type 0} → Family A → Family A
squared r zero = sunk is_square
squared r (suc left) = in_square (r left)

abbrev pub an_expression : Family Expression
an_expression left = (full left).expression

-- the token is one of these keywords
abbrev pub is_one_of : List (List ℕ) → Token → Bool
is_one_of [] y = false
is_one_of (k ∷ ks) y = cond (is_key k y) true (is_one_of ks y)

-- a list that may be empty, whose first item begins with a token that passes
abbrev pub maybe_list : {A : Type 0} → (Token → Bool) → Reader A → Reader (List A)
maybe_list test r = pick test (list_of r) (found [])
