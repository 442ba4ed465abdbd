-- What stands in brackets, where a level is left or none.
use Rattle.std.proofs.Common.{◌≡◌, ℕ, zero, suc, ◌-◌, List, refl, ap, sym, ◌∙◌, cond, [], ◌∷◌, true, false, Bool, arith}
use Rattle.reader_theory.specs.Words.{Verdict, found, fault, expected, too_deep}
use Rattle.reader_theory.specs.Readers.{then_by, joined, both, first, second, token, sunk}
use Rattle.fortran_tokens.specs.declared.token.Sign.{Sign}
use Rattle.fortran_tokens.specs.declared.token.Sign.TheVariants as sign
use Rattle.fortran_grammar.specs.Tokens as t
use Rattle.fortran_grammar.specs.Tokens.{Tok, Token}
use Rattle.expr_reader.specs.Full.{is_square, is_square_tok}
use Rattle.expr_reader.specs.Levels.{enclosed, round_opened, square_opened}
use Rattle.expr_reader.specs.Reading.{Reader}
use Rattle.expr_reader.specs.Tests.{in_round, in_square, is_sign, is_sign_tok}
use Rattle.statement_reader.specs.Families.{Family, rounded, squared}
use Rattle.action_reader.specs.Beginnings.{bracketed}
use Rattle.action_reader.proofs.Keys.{enclosed_is, key_laws, second_is}

module _ {A : Type 0} (q : Sign → Reader A) where
  cond_then : (b : Bool) (v w : Verdict Token Sign) → cond b (then_by second q v) (then_by second q w) ≡ then_by second q (cond b v w)
  cond_then true v w = refl
  cond_then false v w = refl

  opened_same : (x : Token) (s : Sign) (ts r : List Token) (b : Bool) → then_by second (λ _. q s) (cond b (found x ts) (fault expected r)) ≡ then_by second q (cond b (found s ts) (fault expected r))
  opened_same x s ts r true = second_is x (q s ts) ∙ sym (second_is s (q s ts))
  opened_same x s ts r false = refl

  square_same : (x : Token) (ts r : List Token) (k : Tok) → cond (is_sign_tok sign.OpenSquare k) (then_by second (λ _. q sign.CloseSquare) (cond (is_sign_tok sign.OpenSquare k) (found x ts) (fault expected r))) (then_by second (λ _. q sign.CloseArray) (cond (is_sign_tok sign.OpenArray k) (found x ts) (fault expected r))) ≡ then_by second q (cond (is_square_tok k) (found (cond (is_sign_tok sign.OpenSquare k) sign.CloseSquare sign.CloseArray) ts) (fault expected r))
  square_same x ts r (t.sign sign.OpenSquare) = second_is x (q sign.CloseSquare ts) ∙ sym (second_is sign.CloseSquare (q sign.CloseSquare ts))
  square_same x ts r (t.sign sign.OpenArray) = second_is x (q sign.CloseArray ts) ∙ sym (second_is sign.CloseArray (q sign.CloseArray ts))
  square_same x ts r (t.sign s) = refl
  square_same x ts r k = refl

module _ {A : Type 0} (r : Reader A) where
  abbrev closed : Sign → Reader A
  closed s = both first r (token (is_sign s))

  no_round : (ts : List Token) → sunk (is_sign sign.OpenRound) ts ≡ enclosed (round_opened zero) r ts
  no_round [] = refl
  no_round (x ∷ ts) = cond_then closed (is_sign sign.OpenRound x) (fault too_deep (x ∷ ts)) (fault expected (x ∷ ts))

  some_round : (left : ℕ) (ts : List Token) → in_round r ts ≡ enclosed (round_opened (suc left)) r ts
  some_round left [] = refl
  some_round left (x ∷ ts) = opened_same closed x sign.CloseRound ts (x ∷ ts) (is_sign sign.OpenRound x)

  no_square : (ts : List Token) → sunk is_square ts ≡ enclosed (square_opened zero) r ts
  no_square [] = refl
  no_square (x ∷ ts) = cond_then closed (is_square x) (fault too_deep (x ∷ ts)) (fault expected (x ∷ ts))

  some_square : (left : ℕ) (ts : List Token) → in_square r ts ≡ enclosed (square_opened (suc left)) r ts
  some_square left [] = refl
  some_square left (x ∷ ts) = square_same closed x ts (x ∷ ts) x.tok

back : (left : ℕ) → left ≡ suc left - 1
back left = omega arith

pub rounded_is : {A : Type 0} (r : Family A) (left : ℕ) (ts : List Token) → rounded r left ts ≡ bracketed (round_opened left) (r (left - 1)) ts
rounded_is r zero ts = no_round (r (zero - 1)) ts ∙ enclosed_is (round_opened zero) (r (zero - 1)) ts
rounded_is r (suc left) ts = some_round (r left) left ts ∙ (enclosed_is (round_opened (suc left)) (r left) ts ∙ ap (λ n. bracketed (round_opened (suc left)) (r n) ts) (back left))

pub squared_is : {A : Type 0} (r : Family A) (left : ℕ) (ts : List Token) → squared r left ts ≡ bracketed (square_opened left) (r (left - 1)) ts
squared_is r zero ts = no_square (r (zero - 1)) ts ∙ enclosed_is (square_opened zero) (r (zero - 1)) ts
squared_is r (suc left) ts = some_square (r left) left ts ∙ (enclosed_is (square_opened (suc left)) (r left) ts ∙ ap (λ n. bracketed (square_opened (suc left)) (r n) ts) (back left))

pub ruleset bracket_laws = (key_laws, rounded_is, squared_is)
