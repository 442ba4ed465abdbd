-- Readers by how a text begins.
use Rattle.std.proofs.Common.{◌≡◌, ℕ, zero, suc, ◌-◌, Bool, true, false, cond, List, [], ◌∷◌, refl, ap, sym, ◌∙◌, arith}
use Rattle.caf_base.specs.declared.place.Pos.{Pos}
use Rattle.reader_theory.specs.Words.{Verdict, found, fault, expected}
use Rattle.reader_theory.specs.Readers.{then_by, joined, pick, behind, token, both, first, second, turned}
use Rattle.fortran_tokens.specs.declared.token.Sign.{Sign}
use Rattle.fortran_tokens.specs.declared.token.Sign.TheVariants as sign
use Rattle.fortran_grammar.specs.Tokens.{Token}
use Rattle.expr_reader.specs.Reading.{Reader}
use Rattle.expr_reader.specs.Tests.{is_key, is_sign, placed}
use Rattle.expr_reader.specs.Levels.{enclosed, round_opened, square_opened}
use Rattle.expr_reader.proofs.Lengths.{words_laws}
use Rattle.statement_reader.specs.Families.{Family, rounded, squared}
use Rattle.action_reader.specs.Beginnings.{begins, first_at, one, bracketed}

pub pick_some : {A : Type 0} (test : Token → Bool) (p q : Reader A) (ts : List Token) → begins test ts ≡ true → pick test p q ts ≡ p ts
pick_some test p q [] e = absurd (cc)
pick_some test p q (x ∷ ts) e = ap (λ b. cond b (p (x ∷ ts)) (q (x ∷ ts))) e

pub pick_none : {A : Type 0} (test : Token → Bool) (p q : Reader A) (ts : List Token) → begins test ts ≡ false → pick test p q ts ≡ q ts
pick_none test p q [] e = refl
pick_none test p q (x ∷ ts) e = ap (λ b. cond b (p (x ∷ ts)) (q (x ∷ ts))) e

pub second_is : {A B : Type 0} (b : B) (v : Verdict Token A) → joined second b v ≡ v
second_is b (found a rest) = refl
second_is b (fault c rest) = refl

pub placed_is : {A B : Type 0} (f : Pos → A → B) (r : Reader A) (ts : List Token) → placed f r ts ≡ turned (f (first_at ts)) (r ts)
placed_is f r [] = refl
placed_is f r (x ∷ ts) = refl

by_one : {A : Type 0} (r : Reader A) (v : Verdict Token Token) → then_by second (λ _. r) v ≡ then_by second (λ _. r) (turned {B = Unit {0}} (λ z. tt) v)
by_one r (found x rest) = second_is x (r rest) ∙ sym (second_is {B = Unit {0}} tt (r rest))
by_one r (fault c rest) = refl

pub behind_is : {A : Type 0} (test : Token → Bool) (r : Reader A) (ts : List Token) → behind test r ts ≡ then_by second (λ _. r) (one test ts)
behind_is test r ts = by_one r (token test ts)

-- behind an opening bracket
first_one : {A : Type 0} (a : A) (v : Verdict Token Token) → joined first a v ≡ joined first a (turned {B = Unit {0}} (λ z. tt) v)
first_one a (found x rest) = refl
first_one a (fault c rest) = refl

one_closer : {A : Type 0} (r : Reader A) (s : Sign) (v : Verdict Token A) → then_by first (λ _. token (is_sign s)) v ≡ then_by first (λ _. one (is_sign s)) v
one_closer r s (found a rest) = first_one a (token (is_sign s) rest)
one_closer r s (fault c rest) = refl

pub enclosed_is : {A : Type 0} (opener : Reader Sign) (r : Reader A) (ts : List Token) → enclosed opener r ts ≡ bracketed opener r ts
enclosed_is opener r ts = by_verdict (opener ts)
  where
    by_verdict : (v : Verdict Token Sign) → then_by second (λ s. both first r (token (is_sign s))) v ≡ then_by second (λ s. both first r (one (is_sign s))) v
    by_verdict (found s rest) = ap (joined second s) (one_closer r s (r rest))
    by_verdict (fault c rest) = refl

pub ruleset key_laws = (words_laws, pick_some, pick_none, second_is, placed_is, behind_is)
