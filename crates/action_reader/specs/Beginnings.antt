-- How a text begins.
use Rattle.std.specs.Prelude.{Bool, false, List, [], ◌∷◌, ◌++◌}
use Rattle.caf_base.specs.declared.place.Pos.{Pos}
use Rattle.reader_theory.specs.Readers.{mapped, token, both, both_by, first, second}
use Rattle.fortran_tokens.specs.declared.token.Sign.{Sign}
use Rattle.fortran_grammar.specs.Tokens.{Token}
use Rattle.expr_reader.specs.Reading.{Reader}
use Rattle.expr_reader.specs.Tests.{is_sign, nowhere}

-- with a token that passes the test
abbrev pub begins : (Token → Bool) → List Token → Bool
begins test [] = false
begins test (x ∷ ts) = test x

-- at this place
abbrev pub first_at : List Token → Pos
first_at [] = nowhere
first_at (x ∷ ts) = x.at

-- a token of which nothing is kept
abbrev pub one : (Token → Bool) → Reader (Unit {0})
one test = mapped (λ z. tt) (token test)

-- what stands between an opening bracket and the sign that closes it
abbrev pub bracketed : {A : Type 0} → Reader Sign → Reader A → Reader A
bracketed opener r = both_by second opener (λ s. both first r (one (is_sign s)))

-- the items so far and further ones
abbrev pub grown : {A : Type 0} → List A → List A → List A
grown a es = a ++ es
