-- The readers of each level, from those of this level and of one further in.
use Rattle.std.proofs.lemmas.Bool.{false≢true}
use Rattle.std.proofs.Common.{◌≡◌, ℕ, zero, suc, ◌-◌, ◌<◌, Bool, true, false, cond, List, [], ◌∷◌, length, refl, ap, sym, subst, ◌∙◌, arith}
use Rattle.std.specs.declared.alloc.Global.{Global}
use Rattle.std.specs.declared.boxed.Box.{Box}
use Rattle.std.specs.Prelude.{Option, Some, None, Result}
use Rattle.reader_theory.specs.Words.{Verdict, found, fault, expected, too_deep}
use Rattle.reader_theory.specs.Readers.{then, then_by, joined, both, many, many_by, several_by, optional, sunk, token, mapped, behind, pair, first, second, more_of}
use Rattle.fortran_tokens.specs.declared.token.Sign.{Sign}
use Rattle.fortran_tokens.specs.declared.token.Sign.TheVariants as sign
use Rattle.fortran_tree.specs.declared.expr.Expr.{Expr}
use Rattle.fortran_tree.specs.Expressions.{Expression, more_expressions}
use Rattle.fortran_tree.specs.ExpressionViews.{expression, expressions, optional_expression}
use Rattle.fortran_grammar.specs.Tokens as t
use Rattle.fortran_grammar.specs.Tokens.{Tok, Token}
use Rattle.expr_reader.specs.declared.error.ReadError.{ReadError}
use Rattle.expr_reader.specs.declared.error.ReadError.TheVariants as errors
use Rattle.expr_reader.specs.declared.piece.Piece.{Piece as Held}
use Rattle.expr_reader.specs.declared.piece.Mode.{Mode}
use Rattle.expr_reader.specs.declared.piece.Mode.TheVariants as modes
use Rattle.expr_reader.specs.Openings.{binds, opens}
use Rattle.expr_reader.specs.Reading.{Reader, tier, chain, folded, related, item, maybe_signed, operand_of}
use Rattle.expr_reader.specs.Tests.{is_sign, is_sign_tok, in_round, in_square, list_of, a_name}
use Rattle.expr_reader.specs.Pieces.{Piece, Mode as Allowed, value, named, range, either, ranged, keyed, made_optional, piece_in, named_piece, subscript_piece, pieces_after, pieces_or_none, begins_piece, next_mode, colon_part, open_range, with_range}
use Rattle.expr_reader.specs.Selectors.{chosen, choices, choice_in, seen}
use Rattle.expr_reader.specs.Full.{full, is_square, is_square_tok, any_primary, expressions_of}
use Rattle.expr_reader.specs.PieceViews.{pieces_of, piece_here, held_optional, mode_after, takes_keyword, takes_range, piece_by, further, grown, grown_list, bounds, expression_list}
use Rattle.expr_reader.specs.Levels.{a_keyword, round_opened, square_opened, enclosed, group_at, pieces_at, selector_at, constructor_at, signed_term, begins_with}
use Rattle.expr_reader.specs.Results.{Fails, Gives}

one_more : (left : ℕ) → 0 < left → left ≡ suc (left - 1)
one_more left h = omega arith

pub expression_is : (left : ℕ) (ts : List Token) → (full left).expression ts ≡ then folded (many (binds 1) (item 1 (full left).disjunction)) ((full left).disjunction ts)
unfolding tier
expression_is zero ts = refl
expression_is (suc left) ts = refl

pub disjunction_is : (left : ℕ) (ts : List Token) → (full left).disjunction ts ≡ then folded (many (binds 2) (item 2 (full left).conjunction)) ((full left).conjunction ts)
unfolding tier
disjunction_is zero ts = refl
disjunction_is (suc left) ts = refl

pub conjunction_is : (left : ℕ) (ts : List Token) → (full left).conjunction ts ≡ then folded (many (binds 3) (item 3 (full left).negation)) ((full left).negation ts)
unfolding tier
conjunction_is zero ts = refl
conjunction_is (suc left) ts = refl

pub negation_none : (left : ℕ) → left ≡ 0 → (full left).negation ≡ maybe_signed 4 (sunk (opens 5)) (full left).relation
unfolding tier
negation_none zero e = refl
negation_none (suc left) e = absurd (omega arith)

negation_more : (m : ℕ) → (full (suc m)).negation ≡ maybe_signed 4 (full m).relation (full (suc m)).relation
unfolding tier
negation_more m = refl

pub negation_some : (left : ℕ) → 0 < left → (full left).negation ≡ maybe_signed 4 (full (left - 1)).relation (full left).relation
negation_some left h = let e = one_more left h in ap (λ n. (full n).negation) e ∙ (negation_more (left - 1) ∙ ap (λ n. maybe_signed 4 (full (left - 1)).relation (full n).relation) (sym e))

pub relation_is : (left : ℕ) (ts : List Token) → (full left).relation ts ≡ then related (optional (binds 5) (item 5 (full left).sum)) ((full left).sum ts)
unfolding tier
relation_is zero ts = refl
relation_is (suc left) ts = refl

pub sum_is : (left : ℕ) (ts : List Token) → (full left).sum ts ≡ then folded (many (binds 6) (item 6 (full left).term)) (signed_term left ts)
unfolding tier signed_term
sum_is zero ts = refl
sum_is (suc left) ts = refl

pub signed_none : (left : ℕ) → left ≡ 0 → signed_term left ≡ maybe_signed 6 (sunk (opens 7)) (full left).term
unfolding signed_term
signed_none zero e = refl
signed_none (suc left) e = absurd (omega arith)

signed_more : (m : ℕ) → signed_term (suc m) ≡ maybe_signed 6 (full m).term (full (suc m)).term
unfolding signed_term
signed_more m = refl

pub signed_some : (left : ℕ) → 0 < left → signed_term left ≡ maybe_signed 6 (full (left - 1)).term (full left).term
signed_some left h = let e = one_more left h in ap signed_term e ∙ (signed_more (left - 1) ∙ ap (λ n. maybe_signed 6 (full (left - 1)).term (full n).term) (sym e))

pub term_is : (left : ℕ) (ts : List Token) → (full left).term ts ≡ then folded (many (binds 7) (item 7 (full left).power)) ((full left).power ts)
unfolding tier
term_is zero ts = refl
term_is (suc left) ts = refl

pub power_none : (left : ℕ) (ts : List Token) → left ≡ 0 → (full left).power ts ≡ then related (optional (binds 8) (item 8 (sunk (opens 8)))) ((full left).primary ts)
unfolding tier
power_none zero ts e = refl
power_none (suc left) ts e = absurd (omega arith)

power_more : (m : ℕ) (ts : List Token) → (full (suc m)).power ts ≡ then related (optional (binds 8) (item 8 (full m).power)) ((full (suc m)).primary ts)
unfolding tier
power_more m ts = refl

pub power_some : (left : ℕ) (ts : List Token) → 0 < left → (full left).power ts ≡ then related (optional (binds 8) (item 8 (full (left - 1)).power)) ((full left).primary ts)
power_some left ts h = let e = one_more left h in ap (λ n. (full n).power ts) e ∙ (power_more (left - 1) ts ∙ ap (λ n. then related (optional (binds 8) (item 8 (full (left - 1)).power)) ((full n).primary ts)) (sym e))

-- What a chain's operand is: a chain of the next operators.
module _ {X : Type 0} (look : X → Expression × List Token) where
  abbrev Chain_gives : ℕ → ℕ → List Token → Result X ReadError → Type 0
  Chain_gives k left ts r = Gives look r (chain k (operand_of k (full left)) (operand_of k (full left)) ts)

  abbrev Operand_gives : ℕ → ℕ → List Token → Result X ReadError → Type 0
  Operand_gives k left ts r = Gives look r (operand_of k (full left) ts)

  pub operand_one : (k left : ℕ) (ts : List Token) (r : Result X ReadError) → k ≡ 1 → Chain_gives 2 left ts r → Operand_gives k left ts r
  operand_one k left ts r e h = subst (λ i. Operand_gives i left ts r) (sym e) (subst (Gives look r) (sym (disjunction_is left ts)) h)

  pub operand_two : (k left : ℕ) (ts : List Token) (r : Result X ReadError) → k ≡ 2 → Chain_gives 3 left ts r → Operand_gives k left ts r
  operand_two k left ts r e h = subst (λ i. Operand_gives i left ts r) (sym e) (subst (Gives look r) (sym (conjunction_is left ts)) h)

  pub operand_six : (k left : ℕ) (ts : List Token) (r : Result X ReadError) → k ≡ 6 → Chain_gives 7 left ts r → Operand_gives k left ts r
  operand_six k left ts r e h = subst (λ i. Operand_gives i left ts r) (sym e) (subst (Gives look r) (sym (term_is left ts)) h)

-- Primaries.
pub primary_is : (left : ℕ) → (full left).primary ≡ any_primary (pieces_at left) (selector_at left) (group_at left) (constructor_at left)
unfolding tier pieces_at selector_at group_at constructor_at
primary_is zero = refl
primary_is (suc left) = refl

pub primary_empty : (left : ℕ) → (full left).primary [] ≡ fault expected []
unfolding tier
primary_empty zero = refl
primary_empty (suc left) = refl

-- What stands in brackets.
joined_second : {X Y A : Type 0} (x : X) (y : Y) (v : Verdict Token A) → joined second x v ≡ joined second y v
joined_second x y (found a rest) = refl
joined_second x y (fault c rest) = refl

module _ {A : Type 0} (q : Sign → Reader A) where
  cond_then : (b : Bool) (v w : Verdict Token Sign) → cond b (then_by second q v) (then_by second q w) ≡ then_by second q (cond b v w)
  cond_then true v w = refl
  cond_then false v w = refl

  opened_same : (x : Token) (s : Sign) (ts r : List Token) (b : Bool) → then_by second (λ _. q s) (cond b (found x ts) (fault expected r)) ≡ then_by second q (cond b (found s ts) (fault expected r))
  opened_same x s ts r true = joined_second x s (q s ts)
  opened_same x s ts r false = refl

  square_same : (x : Token) (ts r : List Token) (k : Tok) → cond (is_sign_tok sign.OpenSquare k) (then_by second (λ _. q sign.CloseSquare) (cond (is_sign_tok sign.OpenSquare k) (found x ts) (fault expected r))) (then_by second (λ _. q sign.CloseArray) (cond (is_sign_tok sign.OpenArray k) (found x ts) (fault expected r))) ≡ then_by second q (cond (is_square_tok k) (found (cond (is_sign_tok sign.OpenSquare k) sign.CloseSquare sign.CloseArray) ts) (fault expected r))
  square_same x ts r (t.sign sign.OpenSquare) = joined_second x sign.CloseSquare (q sign.CloseSquare ts)
  square_same x ts r (t.sign sign.OpenArray) = joined_second x sign.CloseArray (q sign.CloseArray ts)
  square_same x ts r (t.sign s) = refl
  square_same x ts r k = refl

module _ {A : Type 0} (r : Reader A) where
  closed : Sign → Reader A
  closed s = both first r (token (is_sign s))

  no_round : (ts : List Token) → sunk (is_sign sign.OpenRound) ts ≡ enclosed (round_opened zero) r ts
  no_round [] = refl
  no_round (x ∷ ts) = cond_then (λ s. both first r (token (is_sign s))) (is_sign sign.OpenRound x) (fault too_deep (x ∷ ts)) (fault expected (x ∷ ts))

  some_round : (left : ℕ) (ts : List Token) → in_round r ts ≡ enclosed (round_opened (suc left)) r ts
  some_round left [] = refl
  some_round left (x ∷ ts) = opened_same (λ s. both first r (token (is_sign s))) x sign.CloseRound ts (x ∷ ts) (is_sign sign.OpenRound x)

  no_square : (ts : List Token) → sunk is_square ts ≡ enclosed (square_opened zero) r ts
  no_square [] = refl
  no_square (x ∷ ts) = cond_then (λ s. both first r (token (is_sign s))) (is_square x) (fault too_deep (x ∷ ts)) (fault expected (x ∷ ts))

  some_square : (left : ℕ) (ts : List Token) → in_square r ts ≡ enclosed (square_opened (suc left)) r ts
  some_square left [] = refl
  some_square left (x ∷ ts) = square_same (λ s. both first r (token (is_sign s))) x ts (x ∷ ts) x.tok

back : (left : ℕ) → left ≡ suc left - 1
back left = omega arith

pub group_is : (left : ℕ) (ts : List Token) → group_at left ts ≡ enclosed (round_opened left) (full (left - 1)).expression ts
unfolding group_at
group_is zero ts = no_round (full (zero - 1)).expression ts
group_is (suc left) ts = some_round (full left).expression left ts ∙ ap (λ n. enclosed (round_opened (suc left)) (full n).expression ts) (back left)

pub pieces_is : (left : ℕ) (ts : List Token) → pieces_at left ts ≡ enclosed (round_opened left) (pieces_or_none (full (left - 1)).expression) ts
unfolding pieces_at
pieces_is zero ts = no_round (pieces_or_none (full (zero - 1)).expression) ts
pieces_is (suc left) ts = some_round (pieces_or_none (full left).expression) left ts ∙ ap (λ n. enclosed (round_opened (suc left)) (pieces_or_none (full n).expression) ts) (back left)

pub selector_is : (left : ℕ) (ts : List Token) → selector_at left ts ≡ enclosed (square_opened left) (choices (full (left - 1)).expression) ts
unfolding selector_at
selector_is zero ts = no_square (choices (full (zero - 1)).expression) ts
selector_is (suc left) ts = some_square (choices (full left).expression) left ts ∙ ap (λ n. enclosed (square_opened (suc left)) (choices (full n).expression) ts) (back left)

pub constructor_is : (left : ℕ) (ts : List Token) → constructor_at left ts ≡ enclosed (square_opened left) (mapped expressions_of (list_of (full (left - 1)).expression)) ts
unfolding constructor_at
constructor_is zero ts = no_square (mapped expressions_of (list_of (full (zero - 1)).expression)) ts
constructor_is (suc left) ts = some_square (mapped expressions_of (list_of (full left).expression)) left ts ∙ ap (λ n. enclosed (square_opened (suc left)) (mapped expressions_of (list_of (full n).expression)) ts) (back left)

-- Pieces by the modes of the code.
then_named : (n : _) (z : Token) (v : Verdict Token Expression) → joined named n (joined second z v) ≡ joined named n v
then_named n z (found e rest) = refl
then_named n z (fault c rest) = refl

keyword_then : (r : Reader Expression) (v : Verdict Token _) → then_by named (λ _. behind (is_sign sign.Assign) r) v ≡ then_by named (λ _. r) (then_by first (λ _. token (is_sign sign.Assign)) v)
keyword_then r (fault c rest) = refl
keyword_then r (found n []) = refl
keyword_then r (found n (z ∷ u)) = by_test (is_sign sign.Assign z)
  where
    by_test : (b : Bool) → joined named n (then_by second (λ _. r) (cond b (found z u) (fault expected (z ∷ u)))) ≡ then_by named (λ _. r) (joined first n (cond b (found z u) (fault expected (z ∷ u))))
    by_test true = then_named n z (r u)
    by_test false = refl

pub named_is : (r : Reader Expression) (ts : List Token) → named_piece r ts ≡ then_by named (λ _. r) (a_keyword ts)
named_is r ts = keyword_then r (a_name ts)

pub piece_is : (m : Mode) (r : Reader Expression) (ts : List Token) → piece_by m r ts ≡ cond (takes_keyword m ts) (named_piece r ts) (cond (takes_range m) (subscript_piece r ts) (mapped value r ts))
piece_is modes.Either r ts = refl
piece_is m r ts = refl

-- The list by the code's modes is the one by those of the specification.
module _ {S : Type 0} (test : Token → Bool) (p : S → Reader Piece) (q : Mode → Reader Piece) (next : S → Piece → S) (mode : S → Mode) (same : (s : S) → p s ≡ q (mode s)) (step : (s : S) (a : Piece) → mode (next s a) ≡ mode_after (mode s) a) where
  turned_same : (n : ℕ) → ((s : S) (ts : List Token) → several_by test p next n s ts ≡ several_by test q mode_after n (mode s) ts) → (s : S) (v : Verdict Token Piece) → then_by more_of (λ a. several_by test p next n (next s a)) v ≡ then_by more_of (λ a. several_by test q mode_after n (mode_after (mode s) a)) v
  turned_same n h s (fault c rest) = refl
  turned_same n h s (found a rest) = ap (joined more_of a) (h (next s a) rest ∙ ap (λ z. several_by test q mode_after n z rest) (step s a))

  several_same : (n : ℕ) (s : S) (ts : List Token) → several_by test p next n s ts ≡ several_by test q mode_after n (mode s) ts
  several_same zero s ts = refl
  several_same (suc n) s [] = refl
  several_same (suc n) s (x ∷ ts) =
      ap (λ v. cond (test x) v (found [] (x ∷ ts)))
      (turned_same n (several_same n) s (p s (x ∷ ts)) ∙ ap (λ z. then_by more_of (λ a. several_by test q mode_after n (mode_after (mode s) a)) (z (x ∷ ts))) (same s))

abbrev mode_of : Allowed → Mode
mode_of either = modes.Either
mode_of ranged = modes.Ranged
mode_of keyed = modes.Keyed

abbrev mode_for : Bool → Mode
mode_for false = modes.Choice
mode_for true = modes.Specifiers

after_same : (r : Reader Expression) (m : Allowed) (ts : List Token) → pieces_after r m ts ≡ further (mode_of m) r ts
after_same r m ts = several_same (is_sign sign.Comma) (λ m. behind (is_sign sign.Comma) (piece_in m r)) (λ m. behind (is_sign sign.Comma) (piece_by m r)) next_mode mode_of reads steps (length ts) m ts
  where
    reads : (m : Allowed) → behind (is_sign sign.Comma) (piece_in m r) ≡ behind (is_sign sign.Comma) (piece_by (mode_of m) r)
    reads either = refl
    reads ranged = refl
    reads keyed = refl

    steps : (m : Allowed) (a : Piece) → mode_of (next_mode m a) ≡ mode_after (mode_of m) a
    steps either (value e) = refl
    steps either (range a b c at) = refl
    steps either (named n e) = refl
    steps ranged (value e) = refl
    steps ranged (range a b c at) = refl
    steps ranged (named n e) = refl
    steps keyed (value e) = refl
    steps keyed (range a b c at) = refl
    steps keyed (named n e) = refl

first_same : (r : Reader Expression) (a : Piece) (ts : List Token) → pieces_after r (next_mode either a) ts ≡ further (mode_after modes.Either a) r ts
first_same r (value e) ts = after_same r either ts
first_same r (range a b c at) ts = after_same r ranged ts
first_same r (named n e) ts = after_same r keyed ts

pub grown_one : (a : Piece) (v : Verdict Token (List Piece)) → joined grown (a ∷ []) v ≡ joined more_of a v
grown_one a (found es rest) = refl
grown_one a (fault c rest) = refl

pub grown_none : (v : Verdict Token (List Piece)) → joined grown [] v ≡ v
grown_none (found es rest) = refl
grown_none (fault c rest) = refl

pub grown_empty : (acc : List Held) (v : Verdict Token (List Piece)) → acc ≡ [] → joined grown (pieces_of acc) v ≡ v
grown_empty acc v e = ap (λ a. joined grown (pieces_of a) v) e ∙ grown_none v

pub pieces_here : (r : Reader Expression) (x : Token) (ts : List Token) → pieces_or_none r (x ∷ ts) ≡ cond (begins_piece x) (then_by more_of (λ a. further (mode_after modes.Either a) r) (piece_by modes.Either r (x ∷ ts))) (found [] (x ∷ ts))
pieces_here r x ts = ap (λ v. cond (begins_piece x) v (found [] (x ∷ ts))) (by_verdict (piece_in either r (x ∷ ts)))
  where
    by_verdict : (v : Verdict Token Piece) → then_by more_of (λ a. pieces_after r (next_mode either a)) v ≡ then_by more_of (λ a. further (mode_after modes.Either a) r) v
    by_verdict (found a rest) = ap (joined more_of a) (first_same r a rest)
    by_verdict (fault c rest) = refl

pub pieces_some : (r : Reader Expression) (ts : List Token) (p : Piece) (rest : List Token) (m : Mode) (acc : List Piece) → piece_here ts ≡ true → piece_by modes.Either r ts ≡ found p rest → m ≡ mode_after modes.Either p → acc ≡ p ∷ [] → pieces_or_none r ts ≡ joined grown acc (further m r rest)
pieces_some r [] p rest m acc b e f g = absurd (false≢true b)
pieces_some r (x ∷ ts) p rest m acc b e f g =
    pieces_here r x ts
    ∙ (ap (λ d. cond d (then_by more_of (λ a. further (mode_after modes.Either a) r) (piece_by modes.Either r (x ∷ ts))) (found [] (x ∷ ts))) b
    ∙ (ap (then_by more_of (λ a. further (mode_after modes.Either a) r)) e
    ∙ (sym (grown_one p (further (mode_after modes.Either p) r rest))
    ∙ (ap (λ n. joined grown (p ∷ []) (further n r rest)) (sym f)
    ∙ ap (λ n. joined grown n (further m r rest)) (sym g)))))

pub pieces_none : (r : Reader Expression) (ts : List Token) → piece_here ts ≡ false → pieces_or_none r ts ≡ found [] ts
pieces_none r [] b = refl
pieces_none r (x ∷ ts) b = pieces_here r x ts ∙ ap (λ d. cond d (then_by more_of (λ a. further (mode_after modes.Either a) r) (piece_by modes.Either r (x ∷ ts))) (found [] (x ∷ ts))) b

choices_is : (r : Reader Expression) (ts : List Token) → choices r ts ≡ then_by chosen (λ _. further modes.Choice r) (r ts)
choices_is r ts = by_verdict (r ts)
  where
    reads : (b : Bool) → behind (is_sign sign.Comma) (choice_in b r) ≡ behind (is_sign sign.Comma) (piece_by (mode_for b) r)
    reads false = refl
    reads true = refl

    steps : (b : Bool) (a : Piece) → mode_for (seen b a) ≡ mode_after (mode_for b) a
    steps false (value e) = refl
    steps false (range a b c at) = refl
    steps false (named n e) = refl
    steps true (value e) = refl
    steps true (range a b c at) = refl
    steps true (named n e) = refl

    by_verdict : (v : Verdict Token Expression) → then_by chosen (λ _. many_by (is_sign sign.Comma) (λ b. behind (is_sign sign.Comma) (choice_in b r)) seen false) v ≡ then_by chosen (λ _. further modes.Choice r) v
    by_verdict (found e rest) = ap (joined chosen e) (several_same (is_sign sign.Comma) (λ b. behind (is_sign sign.Comma) (choice_in b r)) (λ m. behind (is_sign sign.Comma) (piece_by m r)) seen mode_for reads steps (length rest) false rest)
    by_verdict (fault c rest) = refl

pub choices_found : (r : Reader Expression) (ts : List Token) (e : Expression) (behind_first : List Token) (es : List Piece) (rest : List Token) → r ts ≡ found e behind_first → further modes.Choice r behind_first ≡ found es rest → choices r ts ≡ found (chosen e es) rest
choices_found r ts e behind_first es rest f g = choices_is r ts ∙ (ap (then_by chosen (λ _. further modes.Choice r)) f ∙ ap (joined chosen e) g)

pub choices_fault : (x : ReadError) (r : Reader Expression) (ts : List Token) (e : Expression) (behind_first : List Token) → r ts ≡ found e behind_first → Fails x (further modes.Choice r behind_first) → Fails x (choices r ts)
choices_fault errors.Memory r ts e behind_first f h = tt
choices_fault (errors.Stopped i) r ts e behind_first f (rest, g, l) = (rest, choices_is r ts ∙ (ap (then_by chosen (λ _. further modes.Choice r)) f ∙ ap (joined chosen e) g), l)

-- Parts that may be missing, and lists.
pub held_is : (o : Option (Box Expr Global)) → made_optional (held_optional o) ≡ optional_expression o
held_is None = refl
held_is (Some e) = refl

pub expressions_are : (es : List Expr) → expressions_of (expression_list es) ≡ expressions es
expressions_are [] = refl
expressions_are (e ∷ es) = ap (more_expressions (expression e)) (expressions_are es)

pub list_one : (e : Expression) (v : Verdict Token (List Expression)) → joined (λ a es. a ∷ es) e v ≡ joined grown_list (e ∷ []) v
list_one e (found es rest) = refl
list_one e (fault c rest) = refl

pub subscript_is : (r : Reader Expression) (ts : List Token) → subscript_piece r ts ≡ cond (begins_with sign.Colon ts) (mapped open_range (colon_part r) ts) (then_by with_range (λ _. optional (is_sign sign.Colon) (colon_part r)) (r ts))
subscript_is r [] = refl
subscript_is r (x ∷ ts) = refl

pub colon_is : (r : Reader Expression) (ts : List Token) → colon_part r ts ≡ then_by pair (λ _. bounds r) (token (is_sign sign.Colon) ts)
colon_is r ts = refl
