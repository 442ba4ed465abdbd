-- Lists of pieces by the modes of the code.
use Rattle.std.proofs.Common.{◌≡◌, ℕ, zero, suc, Bool, true, false, cond, List, [], ◌∷◌, length, Some, None, refl, ap, sym, ◌∙◌}
use Rattle.reader_theory.specs.Words.{Verdict, found, fault}
use Rattle.reader_theory.specs.Readers.{then_by, joined, several_by, both_by, behind, more_of, optional, turned}
use Rattle.fortran_tokens.specs.declared.token.Sign.TheVariants as sign
use Rattle.fortran_tree.specs.Expressions.{Expression}
use Rattle.fortran_grammar.specs.Tokens.{Token}
use Rattle.expr_reader.specs.declared.piece.Mode.{Mode}
use Rattle.expr_reader.specs.declared.piece.Mode.TheVariants as modes
use Rattle.expr_reader.specs.Designators.{subscript_list}
use Rattle.expr_reader.specs.Full.{is_square}
use Rattle.expr_reader.specs.Levels.{selector_at}
use Rattle.expr_reader.specs.Openings.{opens}
use Rattle.expr_reader.specs.Pieces.{Piece, Mode as Allowed, value, named, range, either, ranged, keyed, piece_in, pieces_after, next_mode}
use Rattle.expr_reader.specs.PieceViews.{mode_after, piece_by, further, grown}
use Rattle.expr_reader.specs.Reading.{Reader}
use Rattle.expr_reader.specs.Selectors.{choices}
use Rattle.expr_reader.specs.Tests.{is_sign}
use Rattle.expr_reader.proofs.Chained.{part_laws, tree_laws}
use Rattle.statement_reader.specs.Actions.{arguments_list}
use Rattle.statement_reader.specs.Families.{an_expression, squared}
use Rattle.expr_reader.proofs.Levels.{grown_one}
use Rattle.action_reader.specs.Beginnings.{begins}
use Rattle.action_reader.proofs.Keys.{pick_none, pick_some}
use Rattle.action_reader.proofs.Specifiers.{specifier_laws}

module _ {S : Type 0} (test : Token → Bool) (p : S → Reader Piece) (q : Mode → Reader Piece) (next : S → Piece → S) (mode : S → Mode) (same : (s : S) → p s ≡ q (mode s)) (step : (s : S) (a : Piece) → mode (next s a) ≡ mode_after (mode s) a) where
  turned_same : (n : ℕ) → ((s : S) (ts : List Token) → several_by test p next n s ts ≡ several_by test q mode_after n (mode s) ts) → (s : S) (v : Verdict Token Piece) → then_by more_of (λ a. several_by test p next n (next s a)) v ≡ then_by more_of (λ a. several_by test q mode_after n (mode_after (mode s) a)) v
  turned_same n h s (fault c rest) = refl
  turned_same n h s (found a rest) = ap (joined more_of a) (h (next s a) rest ∙ ap (λ z. several_by test q mode_after n z rest) (step s a))

  several_same : (n : ℕ) (s : S) (ts : List Token) → several_by test p next n s ts ≡ several_by test q mode_after n (mode s) ts
  several_same zero s ts = refl
  several_same (suc n) s [] = refl
  several_same (suc n) s (x ∷ ts) =
      ap (λ v. cond (test x) v (found [] (x ∷ ts)))
      (turned_same n (several_same n) s (p s (x ∷ ts)) ∙ ap (λ z. then_by more_of (λ a. several_by test q mode_after n (mode_after (mode s) a)) (z (x ∷ ts))) (same s))

abbrev mode_of : Allowed → Mode
mode_of either = modes.Either
mode_of ranged = modes.Ranged
mode_of keyed = modes.Keyed

after_same : (r : Reader Expression) (m : Allowed) (ts : List Token) → pieces_after r m ts ≡ further (mode_of m) r ts
after_same r m ts = several_same (is_sign sign.Comma) (λ m. behind (is_sign sign.Comma) (piece_in m r)) (λ m. behind (is_sign sign.Comma) (piece_by m r)) next_mode mode_of reads steps (length ts) m ts
  where
    reads : (m : Allowed) → behind (is_sign sign.Comma) (piece_in m r) ≡ behind (is_sign sign.Comma) (piece_by (mode_of m) r)
    reads either = refl
    reads ranged = refl
    reads keyed = refl

    steps : (m : Allowed) (a : Piece) → mode_of (next_mode m a) ≡ mode_after (mode_of m) a
    steps either (value e) = refl
    steps either (range a b c at) = refl
    steps either (named n e) = refl
    steps ranged (value e) = refl
    steps ranged (range a b c at) = refl
    steps ranged (named n e) = refl
    steps keyed (value e) = refl
    steps keyed (range a b c at) = refl
    steps keyed (named n e) = refl

ranged_same : (r : Reader Expression) (a : Piece) (rest : List Token) → pieces_after r (next_mode ranged a) rest ≡ further (mode_after modes.Ranged a) r rest
ranged_same r (value e) rest = after_same r ranged rest
ranged_same r (range a b c at) rest = after_same r ranged rest
ranged_same r (named n e) rest = after_same r keyed rest

keyed_same : (r : Reader Expression) (a : Piece) (rest : List Token) → pieces_after r (next_mode keyed a) rest ≡ further (mode_after modes.Keyed a) r rest
keyed_same r (value e) rest = after_same r keyed rest
keyed_same r (range a b c at) rest = after_same r ranged rest
keyed_same r (named n e) rest = after_same r keyed rest

-- the pieces are read so
abbrev pub started : Mode → Reader Expression → Reader (List Piece)
started m r ts = then_by more_of (λ a. further (mode_after m a) r) (piece_by m r ts)

pub subscripts_is : (r : Reader Expression) (ts : List Token) → subscript_list r ts ≡ started modes.Ranged r ts
subscripts_is r ts = by_verdict (piece_by modes.Ranged r ts)
  where
    by_verdict : (v : Verdict Token Piece) → then_by more_of (λ a. pieces_after r (next_mode ranged a)) v ≡ then_by more_of (λ a. further (mode_after modes.Ranged a) r) v
    by_verdict (found a rest) = ap (joined more_of a) (ranged_same r a rest)
    by_verdict (fault c rest) = refl

keyed_is : (r : Reader Expression) (ts : List Token) → then_by more_of (λ a. pieces_after r (next_mode keyed a)) (piece_by modes.Keyed r ts) ≡ started modes.Keyed r ts
keyed_is r ts = by_verdict (piece_by modes.Keyed r ts)
  where
    by_verdict : (v : Verdict Token Piece) → then_by more_of (λ a. pieces_after r (next_mode keyed a)) v ≡ then_by more_of (λ a. further (mode_after modes.Keyed a) r) v
    by_verdict (found a rest) = ap (joined more_of a) (keyed_same r a rest)
    by_verdict (fault c rest) = refl

pub arguments_some : (r : Reader Expression) (ts : List Token) → begins (opens 1) ts ≡ true → arguments_list r ts ≡ started modes.Keyed r ts
arguments_some r ts e = pick_some (opens 1) (both_by (λ a es. a ∷ es) (piece_in keyed r) (λ a. pieces_after r (next_mode keyed a))) (found []) ts e ∙ keyed_is r ts

pub arguments_none : (r : Reader Expression) (ts : List Token) → begins (opens 1) ts ≡ false → arguments_list r ts ≡ found [] ts
arguments_none r ts e = pick_none (opens 1) (both_by (λ a es. a ∷ es) (piece_in keyed r) (λ a. pieces_after r (next_mode keyed a))) (found []) ts e

-- behind the first piece
pub grown_first : (m : Mode) (r : Reader Expression) (ts : List Token) (p : Piece) (rest : List Token) (n : Mode) (acc : List Piece) → piece_by m r ts ≡ found p rest → n ≡ mode_after m p → acc ≡ p ∷ [] → started m r ts ≡ joined grown acc (further n r rest)
grown_first m r ts p rest n acc e f g =
    ap (then_by more_of (λ a. further (mode_after m a) r)) e
    ∙ (sym (grown_one p (further (mode_after m p) r rest))
    ∙ (ap (λ k. joined grown (p ∷ []) (further k r rest)) (sym f) ∙ ap (λ z. joined grown z (further n r rest)) (sym g)))

selector_same : (left : ℕ) (ts : List Token) → squared (λ l. choices (an_expression l)) left ts ≡ selector_at left ts
unfolding selector_at
selector_same zero ts = refl
selector_same (suc left) ts = refl

pub selector_is : (left : ℕ) (ts : List Token) → optional is_square (squared (λ l. choices (an_expression l)) left) ts ≡ optional is_square (selector_at left) ts
selector_is left [] = refl
selector_is left (x ∷ ts) = ap (λ v. cond (is_square x) (turned Some v) (found None (x ∷ ts))) (selector_same left (x ∷ ts))

pub ruleset mode_laws = (specifier_laws, part_laws, tree_laws, subscripts_is, arguments_some, arguments_none, selector_is)
