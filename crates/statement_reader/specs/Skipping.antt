-- What stands behind the bracket groups at the front of some tokens.
use Rattle.std.specs.Prelude.{ℕ, zero, suc, Bool, true, false, cond, List, [], ◌∷◌}
use Rattle.fortran_tokens.specs.declared.token.Sign.TheVariants as sign
use Rattle.fortran_grammar.specs.Tokens as t
use Rattle.fortran_grammar.specs.Tokens.{Tok, Token}
use Rattle.expr_reader.specs.Tests.{is_sign}

abbrev pub opens_tok : Tok → Bool
opens_tok (t.sign sign.OpenRound) = true
opens_tok (t.sign sign.OpenSquare) = true
opens_tok (t.sign sign.OpenArray) = true
opens_tok x = false

abbrev pub closes_tok : Tok → Bool
closes_tok (t.sign sign.CloseRound) = true
closes_tok (t.sign sign.CloseSquare) = true
closes_tok (t.sign sign.CloseArray) = true
closes_tok x = false

-- so many brackets are open
abbrev pub groups : ℕ → List Token → List Token
groups n [] = []
groups zero (y ∷ ts) = cond (opens_tok y.tok) (groups 1 ts) (y ∷ ts)
groups (suc n) (y ∷ ts) = cond (opens_tok y.tok) (groups (suc (suc n)) ts) (cond (closes_tok y.tok) (groups n ts) (groups (suc n) ts))

abbrev pub begins_equals : List Token → Bool
begins_equals [] = false
begins_equals (y ∷ ts) = is_sign sign.Assign y

-- behind the first token and the groups behind it stands `=`
abbrev pub assigns_first : List Token → Bool
assigns_first [] = false
assigns_first (y ∷ ts) = begins_equals (groups 0 ts)
