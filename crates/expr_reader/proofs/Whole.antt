-- Every primary is read exactly, and so every expression of the grammar.
use Rattle.std.proofs.Common.{◌≡◌, ℕ, suc, ◌+◌, ◌≤◌, ◌<◌, Bool, true, false, nat_eq, List, [], ◌∷◌, ◌++◌, inl, inr, refl, ap, sym, ◌∙◌, subst, arith}
use Rattle.std.proofs.lemmas.Bool.{false≢true, eqb-true, ne_eqb}
use Rattle.reader_theory.specs.Words.{Mark, bare}
use Rattle.reader_theory.specs.Levels.{mark}
use Rattle.reader_theory.specs.Readers.{token, mapped, pick, sunk}
use Rattle.reader_theory.specs.Exactness.{Stops, never, Heads, Exact}
use Rattle.reader_theory.specs.Languages.{Or}
use Rattle.reader_theory.proofs.Marks.{never_stops}
use Rattle.reader_theory.proofs.Single.{relabel, exact_mapped}
use Rattle.reader_theory.proofs.Choice.{exact_pick}
use Rattle.fortran_tokens.specs.declared.token.Sign.TheVariants as sign
use Rattle.fortran_tree.specs.declared.expr.NumberKind.TheVariants as kinds
use Rattle.fortran_tree.specs.declared.expr.PrefixOperator.TheVariants as prefixes
use Rattle.fortran_tree.specs.declared.expr.Operator.TheVariants as operators
use Rattle.fortran_tree.specs.Expressions as s
use Rattle.fortran_tree.specs.Expressions.{Expression, Expressions}
use Rattle.fortran_grammar.specs.Tokens as t
use Rattle.fortran_grammar.specs.Tokens.{Tok, Token}
use Rattle.fortran_grammar.specs.Phrases as p
use Rattle.fortran_grammar.specs.Phrases.{Words, ◌▸◌}
use Rattle.fortran_grammar.specs.ExpressionGrammar as g
use Rattle.fortran_grammar.specs.ExpressionGrammar.{rank}
use Rattle.expr_reader.specs.Openings.{goes}
use Rattle.expr_reader.specs.Reading.{Reader}
use Rattle.expr_reader.specs.Tests.{is_sign, is_sign_tok, is_word, is_word_tok, Placed, placed, nowhere, in_round, in_square, list_of}
use Rattle.expr_reader.specs.Pieces.{Piece, pieces, pieces_or_none}
use Rattle.expr_reader.specs.Selectors.{Chosen, chosen_phrase, choices}
use Rattle.expr_reader.specs.Full.{is_truth, is_truth_tok, truth_of, is_integer, is_integer_tok, number_of, is_square, named_reader, expressions_of, grouped, constructed, any_primary, all_primaries, last_primaries, full}
use Rattle.expr_reader.proofs.Beginnings.{At}
use Rattle.expr_reader.proofs.Exactly.{Expression_at, exact_expression}
use Rattle.expr_reader.proofs.Phrases.{Of, exact_round, exact_square, exact_listed, or_comma, sign_tok}
use Rattle.expr_reader.proofs.Placing.{exact_placed}
use Rattle.expr_reader.proofs.Lists.{exact_pieces, all_more}
use Rattle.expr_reader.proofs.Selectors.{exact_choices, selector_more}
use Rattle.expr_reader.proofs.Full.{form, Form, exact_number, exact_truth, exact_named_primary, sunken_round, sunken_square}

-- What a token begins, told as the form of a primary.
kind_tok : Tok → ℕ
kind_tok (t.integer n k) = 0
kind_tok (t.sign sign.True) = 1
kind_tok (t.sign sign.False) = 1
kind_tok (t.word x) = 2
kind_tok (t.sign sign.OpenRound) = 3
kind_tok (t.sign sign.OpenSquare) = 4
kind_tok (t.sign sign.OpenArray) = 4
kind_tok x = 5

integer_is : (x : Tok) → is_integer_tok x ≡ nat_eq (kind_tok x) 0
unfolding kind_tok
integer_is (t.integer n k) = refl
integer_is (t.sign sign.True) = refl
integer_is (t.sign x) = refl
integer_is x = refl

truth_is : (x : Tok) → is_truth_tok x ≡ nat_eq (kind_tok x) 1
unfolding kind_tok
truth_is (t.sign sign.True) = refl
truth_is (t.sign x) = refl
truth_is (t.word x) = refl
truth_is x = refl

word_is : (x : Tok) → is_word_tok x ≡ nat_eq (kind_tok x) 2
unfolding kind_tok
word_is (t.sign sign.True) = refl
word_is (t.sign x) = refl
word_is (t.word x) = refl
word_is x = refl

round_is : (x : Tok) → is_sign_tok sign.OpenRound x ≡ nat_eq (kind_tok x) 3
unfolding kind_tok
round_is (t.sign sign.OpenRound) = refl
round_is (t.sign x) = refl
round_is (t.word x) = refl
round_is x = refl

-- the word begins with a token of this form
Starts : ℕ → List (Mark Token) → Type 0
Starts k w = Heads (λ y. nat_eq (kind_tok y.tok) k) w

module _ (limit level : ℕ) (here : level ≤ limit) where
  starts : (k : ℕ) (e : Expression) (w : List (Mark Token)) → Form limit level here k e w → k ≤ 4 → Starts k w
  unfolding Starts kind_tok
  starts k (s.number n d at) w (o, h) l = subst (Starts k) (sym h) o
  starts k (s.logical true at) w (o, h) l = subst (Starts k) (sym h) o
  starts k (s.logical b at) w (o, h) l = subst (Starts k) (sym h) o
  starts k (s.designator (s.part_ref n subs c)) w (o, (u, v, h, q, split)) l = subst (Starts k) (sym (split ∙ ap (λ z. z ++ v) h)) o
  starts k (s.function_reference f args) w (o, (n, (u, v, h, q, split))) l = subst (Starts k) (sym (split ∙ ap (λ z. z ++ v) h)) o
  starts k (s.parenthesized e at) w (o, (f, (u, v, (a, h), q, split))) l = subst (Starts k) (sym (split ∙ ap (λ z. z ++ v) h)) o
  starts k (s.array_constructor es at) w (o, (f, inl (u, v, (a, h), q, split))) l = subst (Starts k) (sym (split ∙ ap (λ z. z ++ v) h)) o
  starts k (s.array_constructor es at) w (o, (f, inr (u, v, (a, h), q, split))) l = subst (Starts k) (sym (split ∙ ap (λ z. z ++ v) h)) o
  starts k (s.prefix x e at) w (o, h) l = absurd (let i = eqb-true 5 k o in omega arith)
  starts k (s.binary x a b at) w (o, h) l = absurd (let i = eqb-true 5 k o in omega arith)

-- a test that is that of a form
module _ (test : Tok → Bool) (c : ℕ) (is : (x : Tok) → test x ≡ nat_eq (kind_tok x) c) where
  heads_of : (w : List (Mark Token)) → Starts c w → Heads (λ y. test y.tok) w
  unfolding Starts
  heads_of [] h = h
  heads_of (m ∷ w) h = is m.token.tok ∙ h

  stops_of : (k : ℕ) (w : List (Mark Token)) (rest : List Token) → Starts k w → c < k → Stops (λ y. test y.tok) (bare w ++ rest)
  unfolding Starts
  stops_of k [] rest h l = absurd h
  stops_of k (m ∷ w) rest h l = is m.token.tok ∙ (let i = eqb-true (kind_tok m.token.tok) k h in ne_eqb (kind_tok m.token.tok) c (λ e. (let j = e in omega arith)))

rank_of_form : (e : Expression) (k : ℕ) → k ≤ 4 → nat_eq (form e) k ≡ true → 9 ≤ rank e
rank_of_form (s.prefix x e at) k l o = absurd (let i = eqb-true 5 k o in omega arith)
rank_of_form (s.binary x a b at) k l o = absurd (let i = eqb-true 5 k o in omega arith)
rank_of_form e k l o = omega arith

module _ (limit level : ℕ) (here : level ≤ limit) (brackets : Reader (List Piece)) (selector : Reader Chosen) (group : Reader Expression) (constructor : Reader Expressions) (y : Exact (λ ps w. Words (p.round (pieces ps)) limit level w) never brackets) (z : Exact (λ c w. Words (p.square (chosen_phrase c)) limit level w) never selector) (in_group : Exact (λ e w. Words (p.round (g.expr e)) limit level w) never group) (in_constructor : Exact (λ es w. Words (p.square (g.exprs es)) limit level w) never constructor) where
  abbrev F : ℕ → Expression → List (Mark Token) → Type 0
  F = Form limit level here

  exact_group : Exact (F 3) never (placed grouped group)
  exact_group = relabel (Placed grouped (λ e w. Words (p.round (g.expr e)) limit level w)) (F 3) (placed grouped group) never never
      (exact_placed grouped (λ e w. Words (p.round (g.expr e)) limit level w) (is_sign sign.OpenRound) (λ e w (u, v, (at, q), h, split). subst (Heads (is_sign sign.OpenRound)) (sym (split ∙ ap (λ k. k ++ v) q)) refl) never group in_group)
      (λ b w (at, e, is, f, h). subst (λ k. F 3 k w) (sym is) (refl, (f, h))) from (λ rest h. h)
    where
      from : (e : Expression) (w : List (Mark Token)) → F 3 e w → Placed grouped (λ e w. Words (p.round (g.expr e)) limit level w) e w
      from (s.parenthesized e at) w (o, (f, h)) = (at, e, refl, f, h)
      from e w (o, h) = absurd (false≢true o)

  any_token : Token → Bool
  any_token y = true

  square_heads : (es : Expressions) (w : List (Mark Token)) → Words (p.square (g.exprs es)) limit level w → Heads any_token w
  unfolding any_token
  square_heads es w (inl (u, v, (at, q), h, split)) = subst (Heads any_token) (sym (split ∙ ap (λ k. k ++ v) q)) refl
  square_heads es w (inr (u, v, (at, q), h, split)) = subst (Heads any_token) (sym (split ∙ ap (λ k. k ++ v) q)) refl

  exact_constructor : Exact (F 4) never (placed constructed constructor)
  exact_constructor = relabel (Placed constructed (λ es w. Words (p.square (g.exprs es)) limit level w)) (F 4) (placed constructed constructor) never never
      (exact_placed constructed (λ es w. Words (p.square (g.exprs es)) limit level w) any_token square_heads never constructor in_constructor)
      (λ b w (at, e, is, f, h). subst (λ k. F 4 k w) (sym is) (refl, (f, h))) from (λ rest h. h)
    where
      from : (e : Expression) (w : List (Mark Token)) → F 4 e w → Placed constructed (λ es w. Words (p.square (g.exprs es)) limit level w) e w
      from (s.array_constructor es at) w (o, (f, h)) = (at, es, refl, f, h)
      from e w (o, h) = absurd (false≢true o)

  begins : (k : ℕ) (e : Expression) (w : List (Mark Token)) → F k e w → k ≤ 4 → Starts k w
  begins k e w h l = starts limit level here k e w h l

  exact_bracketed : Exact (Or (F 3) (F 4)) never (pick (is_sign sign.OpenRound) (placed grouped group) (placed constructed constructor))
  exact_bracketed = exact_pick (is_sign sign.OpenRound) (F 3) (F 4) (placed grouped group) (placed constructed constructor) never never exact_group exact_constructor never
      (λ e w h. heads_of (is_sign_tok sign.OpenRound) 3 round_is w (begins 3 e w h (omega arith)))
      (λ e w rest h st. stops_of (is_sign_tok sign.OpenRound) 3 round_is 4 w rest (begins 4 e w h (omega arith)) (omega arith))
      (λ rest h. h) (λ rest h. h)

  after_name : (e : Expression) (w : List (Mark Token)) (rest : List Token) → Or (F 3) (F 4) e w → Stops is_word (bare w ++ rest)
  after_name e w rest (inl h) = stops_of is_word_tok 2 word_is 3 w rest (begins 3 e w h (omega arith)) (omega arith)
  after_name e w rest (inr h) = stops_of is_word_tok 2 word_is 4 w rest (begins 4 e w h (omega arith)) (omega arith)

  exact_from_name : Exact (Or (F 2) (Or (F 3) (F 4))) (goes 8) (pick is_word (named_reader brackets selector) (pick (is_sign sign.OpenRound) (placed grouped group) (placed constructed constructor)))
  exact_from_name = exact_pick is_word (F 2) (Or (F 3) (F 4)) (named_reader brackets selector) (pick (is_sign sign.OpenRound) (placed grouped group) (placed constructed constructor)) (goes 8) never (exact_named_primary limit level here brackets selector y z) exact_bracketed (goes 8)
      (λ e w h. heads_of is_word_tok 2 word_is w (begins 2 e w h (omega arith)))
      (λ e w rest h st. after_name e w rest h) (λ rest h. h) (λ rest h. never_stops rest)

  after_truth : (e : Expression) (w : List (Mark Token)) (rest : List Token) → Or (F 2) (Or (F 3) (F 4)) e w → Stops is_truth (bare w ++ rest)
  after_truth e w rest (inl h) = stops_of is_truth_tok 1 truth_is 2 w rest (begins 2 e w h (omega arith)) (omega arith)
  after_truth e w rest (inr (inl h)) = stops_of is_truth_tok 1 truth_is 3 w rest (begins 3 e w h (omega arith)) (omega arith)
  after_truth e w rest (inr (inr h)) = stops_of is_truth_tok 1 truth_is 4 w rest (begins 4 e w h (omega arith)) (omega arith)

  exact_from_truth : Exact (Or (F 1) (Or (F 2) (Or (F 3) (F 4)))) (goes 8) (pick is_truth (mapped truth_of (token is_truth)) (pick is_word (named_reader brackets selector) (pick (is_sign sign.OpenRound) (placed grouped group) (placed constructed constructor))))
  exact_from_truth = exact_pick is_truth (F 1) (Or (F 2) (Or (F 3) (F 4))) (mapped truth_of (token is_truth)) (pick is_word (named_reader brackets selector) (pick (is_sign sign.OpenRound) (placed grouped group) (placed constructed constructor))) never (goes 8) (exact_truth limit level here) exact_from_name (goes 8)
      (λ e w h. heads_of is_truth_tok 1 truth_is w (begins 1 e w h (omega arith)))
      (λ e w rest h st. after_truth e w rest h) (λ rest h. never_stops rest) (λ rest h. h)

  after_number : (e : Expression) (w : List (Mark Token)) (rest : List Token) → Or (F 1) (Or (F 2) (Or (F 3) (F 4))) e w → Stops is_integer (bare w ++ rest)
  after_number e w rest (inl h) = stops_of is_integer_tok 0 integer_is 1 w rest (begins 1 e w h (omega arith)) (omega arith)
  after_number e w rest (inr (inl h)) = stops_of is_integer_tok 0 integer_is 2 w rest (begins 2 e w h (omega arith)) (omega arith)
  after_number e w rest (inr (inr (inl h))) = stops_of is_integer_tok 0 integer_is 3 w rest (begins 3 e w h (omega arith)) (omega arith)
  after_number e w rest (inr (inr (inr h))) = stops_of is_integer_tok 0 integer_is 4 w rest (begins 4 e w h (omega arith)) (omega arith)

  pub exact_any : Exact (At 9 limit level) (goes 8) (any_primary brackets selector group constructor)
  exact_any = relabel (Or (F 0) (Or (F 1) (Or (F 2) (Or (F 3) (F 4))))) (At 9 limit level) (any_primary brackets selector group constructor) (goes 8) (goes 8)
      (exact_pick is_integer (F 0) (Or (F 1) (Or (F 2) (Or (F 3) (F 4)))) (mapped number_of (token is_integer)) (pick is_truth (mapped truth_of (token is_truth)) (pick is_word (named_reader brackets selector) (pick (is_sign sign.OpenRound) (placed grouped group) (placed constructed constructor)))) never (goes 8) (exact_number limit level here) exact_from_truth (goes 8)
      (λ e w h. heads_of is_integer_tok 0 integer_is w (begins 0 e w h (omega arith)))
      (λ e w rest h st. after_number e w rest h) (λ rest h. never_stops rest) (λ rest h. h))
      into from (λ rest h. h)
    where
      into : (e : Expression) (w : List (Mark Token)) → Or (F 0) (Or (F 1) (Or (F 2) (Or (F 3) (F 4)))) e w → At 9 limit level e w
      into e w (inl h) = (rank_of_form e 0 (omega arith) h.0, h.1)
      into e w (inr (inl h)) = (rank_of_form e 1 (omega arith) h.0, h.1)
      into e w (inr (inr (inl h))) = (rank_of_form e 2 (omega arith) h.0, h.1)
      into e w (inr (inr (inr (inl h)))) = (rank_of_form e 3 (omega arith) h.0, h.1)
      into e w (inr (inr (inr (inr h)))) = (rank_of_form e 4 (omega arith) h.0, h.1)

      from : (e : Expression) (w : List (Mark Token)) → At 9 limit level e w → Or (F 0) (Or (F 1) (Or (F 2) (Or (F 3) (F 4)))) e w
      from (s.number n k at) w h = inl (refl, h.1)
      from (s.logical b at) w h = inr (inl (refl, h.1))
      from (s.designator x) w h = inr (inr (inl (refl, h.1)))
      from (s.function_reference f args) w h = inr (inr (inl (refl, h.1)))
      from (s.parenthesized e at) w h = inr (inr (inr (inl (refl, h.1))))
      from (s.array_constructor es at) w h = inr (inr (inr (inr (refl, h.1))))
      from (s.prefix prefixes.Not e at) w h = absurd (let l = h.0 in omega arith)
      from (s.prefix o e at) w h = absurd (let l = h.0 in omega arith)
      from (s.binary operators.Power a b at) w h = absurd (let l = h.0 in omega arith)
      from (s.binary o a b at) w h = absurd (let l = h.0 in omega arith)

-- The lists of array constructors.
more_same : (es : List Expression) → g.more_exprs (expressions_of es) ≡ p.followed g.expr es
more_same [] = refl
more_same (e ∷ es) = ap (λ P. p.sign sign.Comma ▸ g.expr e ▸ P) (more_same es)

list_same : (es : List Expression) → g.exprs (expressions_of es) ≡ p.listed g.expr es
list_same [] = refl
list_same (e ∷ es) = ap (λ P. g.expr e ▸ P) (more_same es)

list_back : (xs : Expressions) → (es : List Expression) × (xs ≡ expressions_of es)
list_back s.no_expressions = ([], refl)
list_back (s.more_expressions e xs) = let k = list_back xs in (e ∷ k.0, ap (s.more_expressions e) k.1)

module _ (limit level : ℕ) (here : level ≤ limit) (r : Reader Expression) (x : Exact (Of g.expr limit level) (goes 0) r) where
  comma_goes : (y : Token) → is_sign sign.Comma y ≡ true → goes 0 y ≡ false
  comma_goes y e = subst (λ k. goes 0 (record { tok = k; at = y.at }) ≡ false) (sym (sign_tok sign.Comma y.tok e)) refl

  exact_list : Exact (Of g.exprs limit level) (or_comma (goes 0)) (mapped expressions_of (list_of r))
  exact_list = exact_mapped expressions_of (λ es w. Words (p.listed g.expr es) limit level w) (Of g.exprs limit level) (list_of r) (or_comma (goes 0)) (or_comma (goes 0))
      (exact_listed g.expr limit level here (goes 0) r x comma_goes)
      (λ es w h. subst (λ P. Words P limit level w) (sym (list_same es)) h)
      (λ xs w h. let k = list_back xs in (k.0, k.1, subst (λ P. Words P limit level w) (ap g.exprs k.1 ∙ list_same k.0) h))
      (λ rest h. h)

-- With a level left, and with none.
module _ (limit level : ℕ) (deeper : suc level ≤ limit) (r : Reader Expression) (x : Exact (Expression_at limit (suc level)) (goes 0) r) where
  pub exact_all_primaries : Exact (At 9 limit level) (goes 8) (all_primaries r)
  exact_all_primaries = exact_any limit level (omega arith) (in_round (pieces_or_none r)) (in_square (choices r)) (in_round r) (in_square (mapped expressions_of (list_of r)))
      (exact_round pieces limit level deeper (all_more limit (suc level) deeper r x) (pieces_or_none r) (exact_pieces limit (suc level) deeper r x)
      (λ y e. subst (λ k. all_more limit (suc level) deeper r x (record { tok = k; at = y.at }) ≡ false) (sym (sign_tok sign.CloseRound y.tok e)) refl))
      (exact_square chosen_phrase limit level deeper (selector_more limit (suc level) deeper r x) (choices r) (exact_choices limit (suc level) deeper r x)
      (λ y e. subst (λ k. selector_more limit (suc level) deeper r x (record { tok = k; at = y.at }) ≡ false) (sym (sign_tok sign.CloseSquare y.tok e)) refl)
      (λ y e. subst (λ k. selector_more limit (suc level) deeper r x (record { tok = k; at = y.at }) ≡ false) (sym (sign_tok sign.CloseArray y.tok e)) refl))
      (exact_round g.expr limit level deeper (goes 0) r x (λ y e. subst (λ k. goes 0 (record { tok = k; at = y.at }) ≡ false) (sym (sign_tok sign.CloseRound y.tok e)) refl))
      (exact_square g.exprs limit level deeper (or_comma (goes 0)) (mapped expressions_of (list_of r)) (exact_list limit (suc level) deeper r x)
      (λ y e. subst (λ k. or_comma (goes 0) (record { tok = k; at = y.at }) ≡ false) (sym (sign_tok sign.CloseSquare y.tok e)) refl)
      (λ y e. subst (λ k. or_comma (goes 0) (record { tok = k; at = y.at }) ≡ false) (sym (sign_tok sign.CloseArray y.tok e)) refl))

abbrev zero_there : Expression
zero_there = s.number 0 kinds.Unstated nowhere

zero_mark : ℕ → Mark Token
zero_mark limit = mark limit (suc limit) (record { tok = t.integer 0 kinds.Unstated; at = nowhere })

pub exact_last_primaries : (limit : ℕ) → Exact (At 9 limit limit) (goes 8) last_primaries
unfolding zero_mark
exact_last_primaries limit = exact_any limit limit (omega arith) (sunk (is_sign sign.OpenRound)) (sunk is_square) (sunk (is_sign sign.OpenRound)) (sunk is_square)
    (sunken_round pieces limit [] [] refl)
    (sunken_square chosen_phrase limit (s.more_expressions zero_there s.no_expressions, s.no_specifiers) (zero_mark limit ∷ []) (zero_mark limit ∷ [], [], (zero_mark limit ∷ [], [], refl, refl, refl), refl, refl))
    (sunken_round g.expr limit zero_there (zero_mark limit ∷ []) refl)
    (sunken_square g.exprs limit (s.more_expressions zero_there s.no_expressions) (zero_mark limit ∷ []) (zero_mark limit ∷ [], [], refl, refl, refl))

-- The reader of expressions is exact for the grammar's expressions, at each level.
pub exact_full : (limit left level : ℕ) → level + left ≡ limit → Exact (Expression_at limit level) (goes 0) (full left).expression
exact_full limit left level e = exact_expression last_primaries all_primaries limit (exact_last_primaries limit) (λ d l r x. exact_all_primaries limit d l r x) left level e
