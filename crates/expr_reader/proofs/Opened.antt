-- Opening brackets, where a level is left or none.
use Rattle.std.proofs.Common.{◌≡◌, ℕ, zero, suc, ◌<◌, List, ◌∷◌, refl, arith}
use Rattle.reader_theory.specs.Words.{fault, too_deep, found}
use Rattle.fortran_tokens.specs.declared.token.Sign.TheVariants as sign
use Rattle.std.specs.Prelude.{cond}
use Rattle.fortran_grammar.specs.Tokens.{Token}
use Rattle.expr_reader.specs.Tests.{is_sign}
use Rattle.expr_reader.specs.Levels.{opened_round, opened_square}

pub round_none : (left : ℕ) (x : Token) (ts : List Token) → left ≡ 0 → opened_round left x ts ≡ fault too_deep (x ∷ ts)
round_none zero x ts e = refl
round_none (suc left) x ts e = absurd (omega arith)

pub round_some : (left : ℕ) (x : Token) (ts : List Token) → 0 < left → opened_round left x ts ≡ found sign.CloseRound ts
round_some zero x ts l = absurd (omega arith)
round_some (suc left) x ts l = refl

pub square_none : (left : ℕ) (x : Token) (ts : List Token) → left ≡ 0 → opened_square left x ts ≡ fault too_deep (x ∷ ts)
square_none zero x ts e = refl
square_none (suc left) x ts e = absurd (omega arith)

pub square_some : (left : ℕ) (x : Token) (ts : List Token) → 0 < left → opened_square left x ts ≡ found (cond (is_sign sign.OpenSquare x) sign.CloseSquare sign.CloseArray) ts
square_some zero x ts l = absurd (omega arith)
square_some (suc left) x ts l = refl

pub ruleset opened_laws = (round_none, round_some, square_none, square_some)
