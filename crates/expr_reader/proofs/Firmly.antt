-- The reader of expressions looks no further than where it stops: from the readers that it is put together from.
use Rattle.std.proofs.Common.{◌≡◌, ◌∙◌, ℕ, zero, suc, ◌≤◌, Bool, true, false, cond, nat_eq, nat_le, List, [], ◌∷◌, ◌++◌, length, length-append, refl, ap, arith}
use Rattle.std.proofs.lemmas.Bool.{false≢true, true≢false}
use Rattle.std.specs.Prelude.{Option, None}
use Rattle.caf_base.specs.declared.place.Pos.{Pos}
use Rattle.reader_theory.specs.Words.{Verdict, found, fault, expected}
use Rattle.reader_theory.specs.Readers.{token, sunk, turned, mapped, then_by, both, both_by, pick, optional, many, many_by, behind, between, second, first, pair, rest_of}
use Rattle.fortran_tokens.specs.declared.token.Sign.{Sign}
use Rattle.fortran_tokens.specs.declared.token.Sign.TheVariants as sign
use Rattle.fortran_tree.specs.declared.name.Name.{Name}
use Rattle.fortran_tree.specs.Expressions.{Expression, Expressions}
use Rattle.fortran_grammar.specs.Tokens as t
use Rattle.fortran_grammar.specs.Tokens.{Tok, Token}
use Rattle.expr_reader.specs.Openings.{binds, opens, opening, prefixed}
use Rattle.expr_reader.specs.Reading.{Reader, Tier, tier, tier_from, item, chain, single, folded, related, signed, maybe_signed, powers, terms, sums, relations, negations, conjunctions, disjunctions, expressions}
use Rattle.expr_reader.specs.Tests.{is_sign, is_word, is_word_tok, name_of, a_name, placed, in_round, in_square, followed_by, list_of}
use Rattle.expr_reader.specs.Pieces.{Piece, Mode, either, ranged, keyed, value, named, colon_part, open_range, with_range, subscript_piece, named_piece, piece_in, pieces_after, next_mode, begins_piece, pieces_or_none}
use Rattle.expr_reader.specs.Selectors.{Chosen, chosen, choice_in, choices, seen}
use Rattle.expr_reader.specs.Full.{is_integer, number_of, is_truth, truth_of, is_square, is_square_tok, is_function, named_expression, selector_part, named_reader, expressions_of, grouped, constructed, any_primary, all_primaries, last_primaries, full}
use Rattle.expr_reader.proofs.Steady.{Past, Agree, read, stop, past, Firm, Passes, Takes, Solid, agree_turned, either_past, past_short, past_turned, rest_turned, rest_joined, firm_by, firm_both, firm_mapped, firm_found, firm_token, firm_sunk, firm_pick, firm_optional, firm_ahead, firm_many, passes_by, passes_mapped, passes_token, passes_sunk, passes_ahead, takes_by, takes_mapped, takes_token, solid_by, solid_token, solid_sunk, solid_pick}

-- The place of the first token is kept; such a reader finds no empty word.
module _ {A B : Type 0} (f : Pos → A → B) (r : Reader A) (k : Firm r) (solid : Solid r) where
  placed_shrinks : (ts : List Token) → length (rest_of (placed f r ts)) ≤ length ts
  placed_shrinks [] = (firm_mapped (f (record { line = 0; col = 0 })) r k).shrinks []
  placed_shrinks (x ∷ u) = (firm_mapped (f x.at) r k).shrinks (x ∷ u)

  here : (x y : Token) (u v : List Token) (V W : Verdict Token A) → r (x ∷ u) ≡ V → r (y ∷ v) ≡ W → Agree x y u v V W → Agree x y u v (turned (f x.at) V) (turned (f y.at) W)
  here x y u v V W i j (read a g e h) = absurd (let l = solid x u a (g ++ x ∷ u) (i ∙ e) in let m = length-append g (x ∷ u) in omega arith)
  here x y u v V W i j (stop c g e h) = stop c g (ap (turned (f x.at)) e) (ap (turned (f y.at)) h)
  here x y u v V W i j (past n m o) =
      let c = ap length (rest_turned (f x.at) V) in
      let d = ap length (rest_turned (f y.at) W) in
      past (omega arith) (omega arith) (either_past x y u v V W (turned (f x.at) V) (turned (f y.at) W) (past_turned (f x.at) u V) (past_turned (f y.at) v W) o)

  pub firm_placed : Firm (placed f r)
  firm_placed = record { shrinks = placed_shrinks; steady = steady }
    where
      steady : (x y : Token) (u v g : List Token) → Agree x y u v (placed f r (g ++ x ∷ u)) (placed f r (g ++ y ∷ v))
      steady x y u v [] = here x y u v (r (x ∷ u)) (r (y ∷ v)) refl refl (k.steady x y u v [])
      steady x y u v (z ∷ g) = agree_turned x y u v (f z.at) (r (z ∷ g ++ x ∷ u)) (r (z ∷ g ++ y ∷ v)) (k.steady x y u v (z ∷ g))

  pub passes_placed : (test : Token → Bool) → Passes test r → Passes test (placed f r)
  passes_placed test h z u e = passes_mapped test (f z.at) r h z u e

-- Behind a token, between two, and lists.
module _ {A : Type 0} (test : Token → Bool) (r : Reader A) (k : Firm r) where
  pub firm_behind : Firm (behind test r)
  firm_behind = firm_both second (token test) r (firm_token test) k

  pub passes_behind : Passes test (behind test r)
  passes_behind = passes_by second (λ _. r) (λ _. k.shrinks) test (token test) (passes_token test)

  pub solid_behind : Solid (behind test r)
  solid_behind = solid_by second (λ _. r) (λ _. k.shrinks) (token test) (solid_token test)

module _ {A : Type 0} (r : Reader A) (k : Firm r) where
  firm_closed : (s : Sign) → Firm (both first r (token (is_sign s)))
  firm_closed s = firm_both first r (token (is_sign s)) k (firm_token (is_sign s))

  pub firm_round : Firm (in_round r)
  firm_round = firm_behind (is_sign sign.OpenRound) (both first r (token (is_sign sign.CloseRound))) (firm_closed sign.CloseRound)

  pub passes_round : Passes (is_sign sign.OpenRound) (in_round r)
  passes_round = passes_behind (is_sign sign.OpenRound) (both first r (token (is_sign sign.CloseRound))) (firm_closed sign.CloseRound)

  pub solid_round : Solid (in_round r)
  solid_round = solid_behind (is_sign sign.OpenRound) (both first r (token (is_sign sign.CloseRound))) (firm_closed sign.CloseRound)

  abbrev one_way : Reader A
  one_way = between (is_sign sign.OpenSquare) (is_sign sign.CloseSquare) r

  abbrev other_way : Reader A
  other_way = between (is_sign sign.OpenArray) (is_sign sign.CloseArray) r

  pub firm_square : Firm (in_square r)
  firm_square = firm_pick (is_sign sign.OpenSquare) one_way other_way
      (firm_behind (is_sign sign.OpenSquare) (both first r (token (is_sign sign.CloseSquare))) (firm_closed sign.CloseSquare))
      (firm_behind (is_sign sign.OpenArray) (both first r (token (is_sign sign.CloseArray))) (firm_closed sign.CloseArray))
      (passes_behind (is_sign sign.OpenSquare) (both first r (token (is_sign sign.CloseSquare))) (firm_closed sign.CloseSquare))

  pub solid_square : Solid (in_square r)
  solid_square = solid_pick (is_sign sign.OpenSquare) one_way other_way
      (solid_behind (is_sign sign.OpenSquare) (both first r (token (is_sign sign.CloseSquare))) (firm_closed sign.CloseSquare))
      (solid_behind (is_sign sign.OpenArray) (both first r (token (is_sign sign.CloseArray))) (firm_closed sign.CloseArray))

  pub passes_square : Passes is_square (in_square r)
  passes_square z u e = by_tok z.tok z.at e
    where
      by_tok : (x : Tok) (at : Pos) → is_square_tok x ≡ true → Past u (in_square r (record { tok = x; at = at } ∷ u))
      by_tok (t.sign sign.OpenSquare) at e = passes_behind (is_sign sign.OpenSquare) (both first r (token (is_sign sign.CloseSquare))) (firm_closed sign.CloseSquare) (record { tok = t.sign sign.OpenSquare; at = at }) u refl
      by_tok (t.sign sign.OpenArray) at e = passes_behind (is_sign sign.OpenArray) (both first r (token (is_sign sign.CloseArray))) (firm_closed sign.CloseArray) (record { tok = t.sign sign.OpenArray; at = at }) u refl
      by_tok (t.sign s) at e = absurd (false≢true e)
      by_tok x at e = absurd (false≢true e)

  pub firm_followed : Firm (followed_by r)
  firm_followed = firm_many (is_sign sign.Comma) (λ _. behind (is_sign sign.Comma) r) (λ s a. s) (λ _. firm_behind (is_sign sign.Comma) r k) (λ _. passes_behind (is_sign sign.Comma) r k) tt

  pub firm_list : Firm (list_of r)
  firm_list = firm_both (λ a es. a ∷ es) r (followed_by r) k firm_followed

-- Operators.
module _ (s : ℕ) (first operand : Reader Expression) (j : Firm first) (k : Firm operand) where
  firm_item : Firm (item s operand)
  firm_item = firm_both pair (token (binds s)) operand (firm_token (binds s)) k

  passes_item : Passes (binds s) (item s operand)
  passes_item = passes_by pair (λ _. operand) (λ _. k.shrinks) (binds s) (token (binds s)) (passes_token (binds s))

  firm_items : Firm (many (binds s) (item s operand))
  firm_items = firm_many (binds s) (λ _. item s operand) (λ s a. s) (λ _. firm_item) (λ _. passes_item) tt

  firm_one : Firm (optional (binds s) (item s operand))
  firm_one = firm_optional (binds s) (item s operand) firm_item passes_item

  pub firm_chain : Firm (chain s first operand)
  firm_chain = firm_both folded first (many (binds s) (item s operand)) j firm_items

  pub takes_chain : (test : Token → Bool) → Takes test first → Takes test (chain s first operand)
  takes_chain test h = takes_by folded (λ _. many (binds s) (item s operand)) (λ _. firm_items.shrinks) test first h

  pub passes_chain : (test : Token → Bool) → Passes test first → Passes test (chain s first operand)
  passes_chain test h = passes_by folded (λ _. many (binds s) (item s operand)) (λ _. firm_items.shrinks) test first h

  pub passes_single : (test : Token → Bool) → Passes test first → Passes test (single s first operand)
  passes_single test h = passes_by related (λ _. optional (binds s) (item s operand)) (λ _. firm_one.shrinks) test first h

  pub firm_single : Firm (single s first operand)
  firm_single = firm_both related first (optional (binds s) (item s operand)) j firm_one

  pub takes_single : (test : Token → Bool) → Takes test first → Takes test (single s first operand)
  takes_single test h = takes_by related (λ _. optional (binds s) (item s operand)) (λ _. firm_one.shrinks) test first h

module _ (s : ℕ) (operand other : Reader Expression) (j : Firm operand) (k : Firm other) where
  pub firm_signed : Firm (maybe_signed s operand other)
  firm_signed = firm_pick (prefixed s) (mapped signed (both pair (token (prefixed s)) operand)) other (firm_mapped signed (both pair (token (prefixed s)) operand) (firm_both pair (token (prefixed s)) operand (firm_token (prefixed s)) j)) k
      (passes_mapped (prefixed s) signed (both pair (token (prefixed s)) operand) (passes_by pair (λ _. operand) (λ _. j.shrinks) (prefixed s) (token (prefixed s)) (passes_token (prefixed s))))

-- A name is no sign.
by_word : (P : Token → Type 0) → ((w : List ℕ) (at : Pos) → P (record { tok = t.word w; at = at })) → (z : Token) → is_word z ≡ true → P z
by_word P h z e = by_tok z.tok z.at e
  where
    by_tok : (x : Tok) (at : Pos) → is_word_tok x ≡ true → P (record { tok = x; at = at })
    by_tok (t.word w) at e = h w at
    by_tok x at e = absurd (false≢true e)

takes_sum : (operand other : Reader Expression) → Takes is_word other → Takes is_word (maybe_signed 6 operand other)
takes_sum operand other h z u e = by_word (λ z. length (rest_of (maybe_signed 6 operand other (z ∷ u))) ≤ length u) (λ w at. h (record { tok = t.word w; at = at }) u refl) z e

takes_negation : (operand other : Reader Expression) → Takes is_word other → Takes is_word (maybe_signed 4 operand other)
takes_negation operand other h z u e = by_word (λ z. length (rest_of (maybe_signed 4 operand other (z ∷ u))) ≤ length u) (λ w at. h (record { tok = t.word w; at = at }) u refl) z e

firm_name : Firm a_name
firm_name = firm_mapped name_of (token is_word) (firm_token is_word)

takes_name : Takes is_word a_name
takes_name = takes_mapped is_word name_of (token is_word) (takes_token is_word)

-- What stands in brackets behind a name.
module _ (r : Reader Expression) (k : Firm r) (takes : Takes is_word r) (passes : Passes (opens 1) r) where
  abbrev bounds_part : Reader (Option Expression × Option Expression)
  bounds_part = both pair (optional (opens 1) r) (optional (is_sign sign.Colon) (behind (is_sign sign.Colon) r))

  firm_bounds : Firm bounds_part
  firm_bounds = firm_both pair (optional (opens 1) r) (optional (is_sign sign.Colon) (behind (is_sign sign.Colon) r)) (firm_optional (opens 1) r k passes)
      (firm_optional (is_sign sign.Colon) (behind (is_sign sign.Colon) r) (firm_behind (is_sign sign.Colon) r k) (passes_behind (is_sign sign.Colon) r k))

  firm_colon : Firm (colon_part r)
  firm_colon = firm_both pair (token (is_sign sign.Colon)) bounds_part (firm_token (is_sign sign.Colon)) firm_bounds

  passes_colon : Passes (is_sign sign.Colon) (colon_part r)
  passes_colon = passes_by pair (λ _. bounds_part) (λ _. firm_bounds.shrinks) (is_sign sign.Colon) (token (is_sign sign.Colon)) (passes_token (is_sign sign.Colon))

  firm_range : Firm (optional (is_sign sign.Colon) (colon_part r))
  firm_range = firm_optional (is_sign sign.Colon) (colon_part r) firm_colon passes_colon

  abbrev open_piece : Reader Piece
  open_piece = mapped open_range (colon_part r)

  abbrev closed_piece : Reader Piece
  closed_piece = both with_range r (optional (is_sign sign.Colon) (colon_part r))

  firm_subscript : Firm (subscript_piece r)
  firm_subscript = firm_pick (is_sign sign.Colon) open_piece closed_piece (firm_mapped open_range (colon_part r) firm_colon) (firm_both with_range r (optional (is_sign sign.Colon) (colon_part r)) k firm_range)
      (passes_mapped (is_sign sign.Colon) open_range (colon_part r) passes_colon)

  takes_subscript : Takes is_word (subscript_piece r)
  takes_subscript z u e = by_word (λ z. length (rest_of (subscript_piece r (z ∷ u))) ≤ length u)
      (λ w at. takes_by with_range (λ _. optional (is_sign sign.Colon) (colon_part r)) (λ _. firm_range.shrinks) is_word r takes (record { tok = t.word w; at = at }) u refl) z e

  passes_subscript : Passes begins_piece (subscript_piece r)
  passes_subscript z u e = by_test (is_sign sign.Colon z) refl e
    where
      by_test : (b : Bool) → is_sign sign.Colon z ≡ b → cond b true (opens 1 z) ≡ true → Past u (cond b (open_piece (z ∷ u)) (closed_piece (z ∷ u)))
      by_test true f e = passes_mapped (is_sign sign.Colon) open_range (colon_part r) passes_colon z u f
      by_test false f e = passes_by with_range (λ _. optional (is_sign sign.Colon) (colon_part r)) (λ _. firm_range.shrinks) (opens 1) r passes z u e

  firm_named_piece : Firm (named_piece r)
  firm_named_piece = firm_both named a_name (behind (is_sign sign.Assign) r) firm_name (firm_behind (is_sign sign.Assign) r k)

  two_named : (z w : Token) (u : List Token) → is_word z ≡ true → is_sign sign.Assign w ≡ true → length (rest_of (named_piece r (z ∷ w ∷ u))) ≤ length u
  two_named z w u e f =
      let i = ap (λ b. length (rest_of (then_by named (λ _. behind (is_sign sign.Assign) r) (turned name_of (cond b (found z (w ∷ u)) (fault expected (z ∷ w ∷ u))))))) e in
      let j = ap length (rest_joined named (name_of z) (behind (is_sign sign.Assign) r (w ∷ u))) in
      let l = takes_by second (λ _. r) (λ _. k.shrinks) (is_sign sign.Assign) (token (is_sign sign.Assign)) (takes_token (is_sign sign.Assign)) w u f in
      omega arith

  abbrev plain_piece : Reader Piece
  plain_piece = mapped value r

  firm_keyed : Firm (piece_in keyed r)
  firm_keyed = firm_ahead is_word (is_sign sign.Assign) (named_piece r) plain_piece firm_named_piece (firm_mapped value r k) two_named (takes_mapped is_word value r takes)

  firm_either : Firm (piece_in either r)
  firm_either = firm_ahead is_word (is_sign sign.Assign) (named_piece r) (subscript_piece r) firm_named_piece firm_subscript two_named takes_subscript

  passes_either : Passes begins_piece (piece_in either r)
  passes_either = passes_ahead is_word (is_sign sign.Assign) (named_piece r) (subscript_piece r) firm_named_piece firm_subscript two_named takes_subscript begins_piece passes_subscript

  firm_piece : (m : Mode) → Firm (piece_in m r)
  firm_piece either = firm_either
  firm_piece ranged = firm_subscript
  firm_piece keyed = firm_keyed

  firm_after : (m : Mode) → Firm (pieces_after r m)
  firm_after m = firm_many (is_sign sign.Comma) (λ m. behind (is_sign sign.Comma) (piece_in m r)) next_mode (λ m. firm_behind (is_sign sign.Comma) (piece_in m r) (firm_piece m)) (λ m. passes_behind (is_sign sign.Comma) (piece_in m r) (firm_piece m)) m

  firm_pieces : Firm (pieces_or_none r)
  firm_pieces = firm_pick begins_piece (both_by (λ a es. a ∷ es) (piece_in either r) (λ a. pieces_after r (next_mode either a))) (found [])
      (firm_by (λ a es. a ∷ es) (piece_in either r) (λ a. pieces_after r (next_mode either a)) firm_either (λ a. firm_after (next_mode either a))) (firm_found [])
      (passes_by (λ a es. a ∷ es) (λ a. pieces_after r (next_mode either a)) (λ a. (firm_after (next_mode either a)).shrinks) begins_piece (piece_in either r) passes_either)

  firm_choice : (b : Bool) → Firm (choice_in b r)
  firm_choice false = firm_keyed
  firm_choice true = firm_named_piece

  firm_choices : Firm (choices r)
  firm_choices = firm_both chosen r (many_by (is_sign sign.Comma) (λ b. behind (is_sign sign.Comma) (choice_in b r)) seen false) k
      (firm_many (is_sign sign.Comma) (λ b. behind (is_sign sign.Comma) (choice_in b r)) seen (λ b. firm_behind (is_sign sign.Comma) (choice_in b r) (firm_choice b)) (λ b. passes_behind (is_sign sign.Comma) (choice_in b r) (firm_choice b)) false)

-- Which tokens begin what.
tight_sum : (x : Tok) → nat_le 6 (opening x) ≡ true → nat_eq (opening x) 6 ≡ false → nat_le 9 (opening x) ≡ true
tight_sum (t.word w) h e = refl
tight_sum (t.integer n k) h e = refl
tight_sum (t.literal w) h e = absurd (false≢true h)
tight_sum (t.sign sign.True) h e = refl
tight_sum (t.sign sign.False) h e = refl
tight_sum (t.sign sign.OpenRound) h e = refl
tight_sum (t.sign sign.OpenSquare) h e = refl
tight_sum (t.sign sign.OpenArray) h e = refl
tight_sum (t.sign sign.Plus) h e = absurd (true≢false e)
tight_sum (t.sign sign.Minus) h e = absurd (true≢false e)
tight_sum (t.sign s) h e = absurd (false≢true h)
tight_sum t.over h e = absurd (false≢true h)

tight_negation : (x : Tok) → nat_le 4 (opening x) ≡ true → nat_eq (opening x) 4 ≡ false → nat_le 6 (opening x) ≡ true
tight_negation (t.word w) h e = refl
tight_negation (t.integer n k) h e = refl
tight_negation (t.literal w) h e = absurd (false≢true h)
tight_negation (t.sign sign.Not) h e = absurd (true≢false e)
tight_negation (t.sign sign.True) h e = refl
tight_negation (t.sign sign.False) h e = refl
tight_negation (t.sign sign.OpenRound) h e = refl
tight_negation (t.sign sign.OpenSquare) h e = refl
tight_negation (t.sign sign.OpenArray) h e = refl
tight_negation (t.sign sign.Plus) h e = refl
tight_negation (t.sign sign.Minus) h e = refl
tight_negation (t.sign s) h e = absurd (false≢true h)
tight_negation t.over h e = absurd (false≢true h)

tight_expression : (x : Tok) → nat_le 1 (opening x) ≡ true → nat_le 4 (opening x) ≡ true
tight_expression (t.word w) h = refl
tight_expression (t.integer n k) h = refl
tight_expression (t.literal w) h = absurd (false≢true h)
tight_expression (t.sign sign.Not) h = refl
tight_expression (t.sign sign.True) h = refl
tight_expression (t.sign sign.False) h = refl
tight_expression (t.sign sign.OpenRound) h = refl
tight_expression (t.sign sign.OpenSquare) h = refl
tight_expression (t.sign sign.OpenArray) h = refl
tight_expression (t.sign sign.Plus) h = refl
tight_expression (t.sign sign.Minus) h = refl
tight_expression (t.sign s) h = absurd (false≢true h)
tight_expression t.over h = absurd (false≢true h)

passes_signed : (s : ℕ) (test inner : Token → Bool) (operand other : Reader Expression) → Firm operand → Passes inner other → ((z : Token) → test z ≡ true → prefixed s z ≡ false → inner z ≡ true) → Passes test (maybe_signed s operand other)
passes_signed s test inner operand other k h tight z u e = by_test (prefixed s z) refl
  where
    by_test : (b : Bool) → prefixed s z ≡ b → Past u (cond b (mapped signed (both pair (token (prefixed s)) operand) (z ∷ u)) (other (z ∷ u)))
    by_test true f = passes_mapped (prefixed s) signed (both pair (token (prefixed s)) operand) (passes_by pair (λ _. operand) (λ _. k.shrinks) (prefixed s) (token (prefixed s)) (passes_token (prefixed s))) z u f
    by_test false f = h z u (tight z e f)

-- Primaries.
module _ (brackets : Reader (List Piece)) (selector : Reader Chosen) (group : Reader Expression) (constructor : Reader Expressions) (kb : Firm brackets) (ks : Firm selector) (kg : Firm group) (kc : Firm constructor) (pb : Passes (is_sign sign.OpenRound) brackets) (ps : Passes is_square selector) (pg : Passes (is_sign sign.OpenRound) group) (pc : Passes is_square constructor) (sg : Solid group) (sc : Solid constructor) where
  abbrev name_part : Reader (Name × Option (List Piece))
  name_part = both pair a_name (optional (is_sign sign.OpenRound) brackets)

  firm_brackets : Firm (optional (is_sign sign.OpenRound) brackets)
  firm_brackets = firm_optional (is_sign sign.OpenRound) brackets kb pb

  firm_selector : (b : Bool) → Firm (selector_part selector b)
  firm_selector true = firm_found None
  firm_selector false = firm_optional is_square selector ks ps

  firm_named : Firm (named_reader brackets selector)
  firm_named = firm_by named_expression name_part (λ nb. selector_part selector (is_function nb.1)) (firm_both pair a_name (optional (is_sign sign.OpenRound) brackets) firm_name firm_brackets) (λ nb. firm_selector (is_function nb.1))

  takes_named : Takes is_word (named_reader brackets selector)
  takes_named = takes_by named_expression (λ nb. selector_part selector (is_function nb.1)) (λ nb. (firm_selector (is_function nb.1)).shrinks) is_word name_part
      (takes_by pair (λ _. optional (is_sign sign.OpenRound) brackets) (λ _. firm_brackets.shrinks) is_word a_name takes_name)

  abbrev grouped_part : Reader Expression
  grouped_part = placed grouped group

  abbrev constructed_part : Reader Expression
  constructed_part = placed constructed constructor

  passes_word : Passes is_word (named_reader brackets selector)
  passes_word z u e = past_short u (named_reader brackets selector (z ∷ u)) (takes_named z u e)

  pub firm_primary : Firm (any_primary brackets selector group constructor)
  firm_primary =
      let one = firm_pick (is_sign sign.OpenRound) grouped_part constructed_part (firm_placed grouped group kg sg) (firm_placed constructed constructor kc sc) (passes_placed grouped group kg sg (is_sign sign.OpenRound) pg) in
      let two = firm_pick is_word (named_reader brackets selector) (pick (is_sign sign.OpenRound) grouped_part constructed_part) firm_named one passes_word in
      let three = firm_pick is_truth (mapped truth_of (token is_truth)) (pick is_word (named_reader brackets selector) (pick (is_sign sign.OpenRound) grouped_part constructed_part)) (firm_mapped truth_of (token is_truth) (firm_token is_truth)) two (passes_mapped is_truth truth_of (token is_truth) (passes_token is_truth)) in
      firm_pick is_integer (mapped number_of (token is_integer)) (pick is_truth (mapped truth_of (token is_truth)) (pick is_word (named_reader brackets selector) (pick (is_sign sign.OpenRound) grouped_part constructed_part))) (firm_mapped number_of (token is_integer) (firm_token is_integer)) three (passes_mapped is_integer number_of (token is_integer) (passes_token is_integer))

  pub takes_primary : Takes is_word (any_primary brackets selector group constructor)
  takes_primary z u e = by_word (λ z. length (rest_of (any_primary brackets selector group constructor (z ∷ u))) ≤ length u) (λ w at. takes_named (record { tok = t.word w; at = at }) u refl) z e

  pub passes_primary : Passes (opens 9) (any_primary brackets selector group constructor)
  passes_primary z u e = by_tok z.tok z.at e
    where
      by_tok : (x : Tok) (at : Pos) → opens 9 (record { tok = x; at = at }) ≡ true → Past u (any_primary brackets selector group constructor (record { tok = x; at = at } ∷ u))
      by_tok (t.word w) at e = passes_word (record { tok = t.word w; at = at }) u refl
      by_tok (t.integer n k) at e = omega arith
      by_tok (t.literal w) at e = absurd (false≢true e)
      by_tok (t.sign sign.True) at e = omega arith
      by_tok (t.sign sign.False) at e = omega arith
      by_tok (t.sign sign.OpenRound) at e = passes_placed grouped group kg sg (is_sign sign.OpenRound) pg (record { tok = t.sign sign.OpenRound; at = at }) u refl
      by_tok (t.sign sign.OpenSquare) at e = passes_placed constructed constructor kc sc is_square pc (record { tok = t.sign sign.OpenSquare; at = at }) u refl
      by_tok (t.sign sign.OpenArray) at e = passes_placed constructed constructor kc sc is_square pc (record { tok = t.sign sign.OpenArray; at = at }) u refl
      by_tok (t.sign s) at e = absurd (false≢true e)
      by_tok t.over at e = absurd (false≢true e)

-- The readers of a level.
pub record FirmTier (l : Tier) : Type 0 where
  pub expression : Firm l.expression
  pub relation : Firm l.relation
  pub term : Firm l.term
  pub power : Firm l.power
  pub takes : Takes is_word l.expression
  pub passes : Passes (opens 1) l.expression

module _ (primary power term relation : Reader Expression) (kp : Firm primary) (kw : Firm power) (kt : Firm term) (kr : Firm relation) (takes : Takes is_word primary) (passes : Passes (opens 9) primary) where
  firm_powers : Firm (powers primary power)
  firm_powers = firm_single 8 primary power kp kw

  firm_terms : Firm (terms primary power)
  firm_terms = firm_chain 7 (powers primary power) (powers primary power) firm_powers firm_powers

  abbrev signed_part : Reader Expression
  signed_part = maybe_signed 6 term (terms primary power)

  firm_signed_part : Firm signed_part
  firm_signed_part = firm_signed 6 term (terms primary power) kt firm_terms

  firm_sums : Firm (sums primary power term)
  firm_sums = firm_chain 6 signed_part (terms primary power) firm_signed_part firm_terms

  firm_relations : Firm (relations primary power term)
  firm_relations = firm_single 5 (sums primary power term) (sums primary power term) firm_sums firm_sums

  firm_negations : Firm (negations primary power term relation)
  firm_negations = firm_signed 4 relation (relations primary power term) kr firm_relations

  firm_conjunctions : Firm (conjunctions primary power term relation)
  firm_conjunctions = firm_chain 3 (negations primary power term relation) (negations primary power term relation) firm_negations firm_negations

  firm_disjunctions : Firm (disjunctions primary power term relation)
  firm_disjunctions = firm_chain 2 (conjunctions primary power term relation) (conjunctions primary power term relation) firm_conjunctions firm_conjunctions

  firm_expressions : Firm (expressions primary power term relation)
  firm_expressions = firm_chain 1 (disjunctions primary power term relation) (disjunctions primary power term relation) firm_disjunctions firm_disjunctions

  takes_terms : Takes is_word (terms primary power)
  takes_terms = takes_chain 7 (powers primary power) (powers primary power) firm_powers firm_powers is_word (takes_single 8 primary power kp kw is_word takes)

  takes_relations : Takes is_word (relations primary power term)
  takes_relations = takes_single 5 (sums primary power term) (sums primary power term) firm_sums firm_sums is_word (takes_chain 6 signed_part (terms primary power) firm_signed_part firm_terms is_word (takes_sum term (terms primary power) takes_terms))

  takes_expressions : Takes is_word (expressions primary power term relation)
  takes_expressions = takes_chain 1 (disjunctions primary power term relation) (disjunctions primary power term relation) firm_disjunctions firm_disjunctions is_word
      (takes_chain 2 (conjunctions primary power term relation) (conjunctions primary power term relation) firm_conjunctions firm_conjunctions is_word
      (takes_chain 3 (negations primary power term relation) (negations primary power term relation) firm_negations firm_negations is_word (takes_negation relation (relations primary power term) takes_relations)))

  passes_terms : Passes (opens 9) (terms primary power)
  passes_terms = passes_chain 7 (powers primary power) (powers primary power) firm_powers firm_powers (opens 9) (passes_single 8 primary power kp kw (opens 9) passes)

  passes_relations : Passes (opens 6) (relations primary power term)
  passes_relations = passes_single 5 (sums primary power term) (sums primary power term) firm_sums firm_sums (opens 6)
      (passes_chain 6 signed_part (terms primary power) firm_signed_part firm_terms (opens 6) (passes_signed 6 (opens 6) (opens 9) term (terms primary power) kt passes_terms (λ z. tight_sum z.tok)))

  passes_expressions : Passes (opens 4) (expressions primary power term relation)
  passes_expressions = passes_chain 1 (disjunctions primary power term relation) (disjunctions primary power term relation) firm_disjunctions firm_disjunctions (opens 4)
      (passes_chain 2 (conjunctions primary power term relation) (conjunctions primary power term relation) firm_conjunctions firm_conjunctions (opens 4)
      (passes_chain 3 (negations primary power term relation) (negations primary power term relation) firm_negations firm_negations (opens 4)
      (passes_signed 4 (opens 4) (opens 6) relation (relations primary power term) kr passes_relations (λ z. tight_negation z.tok))))

  firm_tier_from : FirmTier (tier_from primary power term relation)
  firm_tier_from = record {
    expression = firm_expressions;
    relation = firm_relations;
    term = firm_terms;
    power = firm_powers;
    takes = takes_expressions;
    passes = λ z u e. passes_expressions z u (tight_expression z.tok e);
  }

-- the primaries where no level is left, and where some is
abbrev Ready : Reader Expression → Type 0
Ready p = Firm p × Takes is_word p × Passes (opens 9) p

module _ (brackets : Reader (List Piece)) (selector : Reader Chosen) (group : Reader Expression) (constructor : Reader Expressions) (kb : Firm brackets) (ks : Firm selector) (kg : Firm group) (kc : Firm constructor) (pb : Passes (is_sign sign.OpenRound) brackets) (ps : Passes is_square selector) (pg : Passes (is_sign sign.OpenRound) group) (pc : Passes is_square constructor) (sg : Solid group) (sc : Solid constructor) where
  ready : Ready (any_primary brackets selector group constructor)
  ready = (firm_primary brackets selector group constructor kb ks kg kc pb ps pg pc sg sc, takes_primary brackets selector group constructor kb ks kg kc pb ps pg pc sg sc, passes_primary brackets selector group constructor kb ks kg kc pb ps pg pc sg sc)

last_ready : Ready last_primaries
last_ready = ready (sunk (is_sign sign.OpenRound)) (sunk is_square) (sunk (is_sign sign.OpenRound)) (sunk is_square)
    (firm_sunk (List Piece) (is_sign sign.OpenRound)) (firm_sunk Chosen is_square) (firm_sunk Expression (is_sign sign.OpenRound)) (firm_sunk Expressions is_square)
    (passes_sunk (List Piece) (is_sign sign.OpenRound)) (passes_sunk Chosen is_square) (passes_sunk Expression (is_sign sign.OpenRound)) (passes_sunk Expressions is_square)
    (solid_sunk Expression (is_sign sign.OpenRound)) (solid_sunk Expressions is_square)

all_ready : (r : Reader Expression) → Firm r → Takes is_word r → Passes (opens 1) r → Ready (all_primaries r)
all_ready r k takes passes =
    let values = firm_mapped expressions_of (list_of r) (firm_list r k) in
    ready (in_round (pieces_or_none r)) (in_square (choices r)) (in_round r) (in_square (mapped expressions_of (list_of r)))
    (firm_round (pieces_or_none r) (firm_pieces r k takes passes)) (firm_square (choices r) (firm_choices r k takes passes)) (firm_round r k) (firm_square (mapped expressions_of (list_of r)) values)
    (passes_round (pieces_or_none r) (firm_pieces r k takes passes)) (passes_square (choices r) (firm_choices r k takes passes)) (passes_round r k) (passes_square (mapped expressions_of (list_of r)) values)
    (solid_round r k) (solid_square (mapped expressions_of (list_of r)) values)

firm_tier : (left : ℕ) → FirmTier (full left)
unfolding tier
firm_tier zero = firm_tier_from last_primaries (sunk (opens 8)) (sunk (opens 7)) (sunk (opens 5)) last_ready.0 (firm_sunk Expression (opens 8)) (firm_sunk Expression (opens 7)) (firm_sunk Expression (opens 5)) last_ready.1 last_ready.2
firm_tier (suc left) =
    let l = firm_tier left in
    let h = all_ready (full left).expression l.expression l.takes l.passes in
    firm_tier_from (all_primaries (full left).expression) (full left).power (full left).term (full left).relation h.0 l.power l.term l.relation h.1 h.2

pub firm_full : (left : ℕ) → Firm (full left).expression
firm_full left = (firm_tier left).expression
