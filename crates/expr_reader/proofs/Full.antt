-- All primaries are read exactly, and so all expressions.
use Rattle.std.proofs.Common.{◌≡◌, ℕ, suc, ◌≤◌, Bool, true, false, cond, nat_eq, nat_lt, List, [], ◌∷◌, ◌++◌, Option, Some, None, ◌⊎◌, inl, inr, refl, ap, sym, ◌∙◌, subst, arith, append_assoc, append-nil}
use Rattle.std.proofs.lemmas.Bool.{cases_Bool, true≢false, false≢true, lt-ltb}
use Rattle.caf_base.specs.declared.place.Pos.{Pos}
use Rattle.reader_theory.specs.Words.{Mark, bare, found}
use Rattle.reader_theory.specs.Levels.{mark, One}
use Rattle.reader_theory.specs.Readers.{token, both, mapped, optional, sunk, pair}
use Rattle.reader_theory.specs.Exactness.{Stops, never, Heads, Sunken, Exact}
use Rattle.reader_theory.specs.Languages.{Optional, By, Nothing}
use Rattle.reader_theory.proofs.Independent.{Both}
use Rattle.reader_theory.proofs.Marks.{never_stops}
use Rattle.reader_theory.proofs.Sequence.{exact_both, exact_by}
use Rattle.reader_theory.proofs.Single.{relabel, exact_mapped, exact_nothing, widen}
use Rattle.reader_theory.proofs.Choice.{exact_optional}
use Rattle.reader_theory.proofs.Levels.{exact_one}
use Rattle.reader_theory.proofs.Deep.{exact_sunk}
use Rattle.fortran_tokens.specs.declared.token.Sign.{Sign}
use Rattle.fortran_tokens.specs.declared.token.Sign.TheVariants as sign
use Rattle.fortran_tree.specs.declared.name.Name.{Name}
use Rattle.fortran_tree.specs.declared.expr.NumberKind.TheVariants as kinds
use Rattle.fortran_tree.specs.Expressions as s
use Rattle.fortran_tree.specs.Expressions.{Expression, Expressions, SectionSubscript, SectionSubscripts, ImageSelector, Arguments}
use Rattle.fortran_grammar.specs.Tokens as t
use Rattle.fortran_grammar.specs.Tokens.{Tok, Token}
use Rattle.fortran_grammar.specs.Phrases as p
use Rattle.fortran_grammar.specs.Phrases.{Phrase, Words, FirstAt, ◌▸◌}
use Rattle.fortran_grammar.specs.ExpressionGrammar as g
use Rattle.expr_reader.specs.Openings.{goes, grip}
use Rattle.expr_reader.specs.Reading.{Reader}
use Rattle.expr_reader.specs.Tests.{is_sign, is_sign_tok, a_name}
use Rattle.expr_reader.specs.Pieces.{Piece, value, range, named, pieces, subscript_of, is_call, has_name, subscripts_of, arguments_of, either, keyed, ranged}
use Rattle.expr_reader.specs.Selectors.{Chosen, chosen_phrase}
use Rattle.expr_reader.specs.Full.{is_truth, truth_of, is_integer, number_of, is_square, is_square_tok, is_function, selector_of, named_expression, selector_part, named_reader}
use Rattle.expr_reader.proofs.Phrases.{Of, exact_name, sign_tok}
use Rattle.expr_reader.proofs.Lists.{into_subs, from_subs, no_name, keyword_in, keyword_out, in_three, out_three, plain_in, plain_out, into_args, from_args}

-- No level is left for brackets.
module _ {A : Type 0} (X : A → Phrase) (limit : ℕ) (some : A) (some_word : List (Mark Token)) (is_some : Words (X some) limit (suc limit) some_word) where
  opened : Sign → Pos → Mark Token
  opened o at = mark limit (suc limit) (record { tok = t.sign o; at = at })

  sunk_mark : (x : Token) → mark limit (suc limit) x ≡ record { token = x; deep = true }
  sunk_mark x = ap (λ b. record { token = x; deep = b }) (lt-ltb limit (suc limit) (omega arith))

  enclosed : (o c : Sign) (at : Pos) → Words (p.sign o ▸ X some ▸ p.sign c) limit (suc limit) (mark limit (suc limit) (record { tok = t.sign o; at = at }) ∷ (some_word ++ mark limit (suc limit) (record { tok = t.sign c; at = at }) ∷ []))
  enclosed o c at = (_ ∷ [], some_word ++ mark limit (suc limit) (record { tok = t.sign c; at = at }) ∷ [], (at, refl), (some_word, _ ∷ [], is_some, (at, refl), refl), refl)

  sunken_by : (test : Token → Bool) (o : Sign) (u v w : List (Mark Token)) → Words (p.sign o) limit (suc limit) u → w ≡ u ++ v → ((at : Pos) → test (record { tok = t.sign o; at = at }) ≡ true) → Sunken test w
  sunken_by test o u v w (at, q) split passes = subst (Sunken test) (sym (split ∙ ap (λ z. z ++ v) q)) (passes at, lt-ltb limit (suc limit) (omega arith))

  by_mark : (o c : Sign) (x : Token) → x.tok ≡ t.sign o → Words (p.sign o ▸ X some ▸ p.sign c) limit (suc limit) (record { token = x; deep = true } ∷ (some_word ++ mark limit (suc limit) (record { tok = t.sign c; at = x.at }) ∷ []))
  by_mark o c x e =
      let same : mark limit (suc limit) (record { tok = t.sign o; at = x.at }) ≡ record { token = x; deep = true } = ap (λ k. mark limit (suc limit) (record { tok = k; at = x.at })) (sym e) ∙ sunk_mark x in
      subst (λ m. Words (p.sign o ▸ X some ▸ p.sign c) limit (suc limit) (m ∷ (some_word ++ mark limit (suc limit) (record { tok = t.sign c; at = x.at }) ∷ []))) same (enclosed o c x.at)

  pub sunken_round : Exact (λ a w. Words (p.round (X a)) limit limit w) never (sunk (is_sign sign.OpenRound))
  sunken_round = exact_sunk (λ a w. Words (p.round (X a)) limit limit w) (is_sign sign.OpenRound) some _ (enclosed sign.OpenRound sign.CloseRound (record { line = 0; col = 0 }))
      (λ a w (u, v, q, h, split). sunken_by (is_sign sign.OpenRound) sign.OpenRound u v w q split (λ at. refl))
      (λ x e. (some, _, by_mark sign.OpenRound sign.CloseRound x (sign_tok sign.OpenRound x.tok e))) never

  square_tok : (x : Tok) → is_square_tok x ≡ true → (x ≡ t.sign sign.OpenSquare) ⊎ (x ≡ t.sign sign.OpenArray)
  square_tok (t.sign sign.OpenSquare) e = inl refl
  square_tok (t.sign sign.OpenArray) e = inr refl
  square_tok (t.sign x) e = absurd (false≢true e)
  square_tok x e = absurd (false≢true e)

  begun_square : (x : Token) → (x.tok ≡ t.sign sign.OpenSquare) ⊎ (x.tok ≡ t.sign sign.OpenArray) → (a : A) × (v : List (Mark Token)) × Words (p.square (X a)) limit limit (record { token = x; deep = true } ∷ v)
  begun_square x (inl e) = (some, _, inl (by_mark sign.OpenSquare sign.CloseSquare x e))
  begun_square x (inr e) = (some, _, inr (by_mark sign.OpenArray sign.CloseArray x e))

  pub sunken_square : Exact (λ a w. Words (p.square (X a)) limit limit w) never (sunk is_square)
  sunken_square = exact_sunk (λ a w. Words (p.square (X a)) limit limit w) is_square some _ (inl (enclosed sign.OpenSquare sign.CloseSquare (record { line = 0; col = 0 })))
      starts (λ x e. begun_square x (square_tok x.tok e)) never
    where
      starts : (a : A) (w : List (Mark Token)) → Words (p.square (X a)) limit limit w → Sunken is_square w
      starts a w (inl (u, v, q, h, split)) = sunken_by is_square sign.OpenSquare u v w q split (λ at. refl)
      starts a w (inr (u, v, q, h, split)) = sunken_by is_square sign.OpenArray u v w q split (λ at. refl)

-- Which form a primary has.
abbrev pub form : Expression → ℕ
form (s.number n k at) = 0
form (s.logical b at) = 1
form (s.designator x) = 2
form (s.function_reference f args) = 2
form (s.parenthesized e at) = 3
form (s.array_constructor es at) = 4
form e = 5

no_opener : (y : Token) → goes 8 y ≡ false → (is_sign sign.OpenRound y ≡ false) × (is_square y ≡ false)
no_opener y e = by_tok y.tok e
  where
    by_tok : (k : Tok) → nat_lt 8 (grip k) ≡ false → (is_sign_tok sign.OpenRound k ≡ false) × (is_square_tok k ≡ false)
    by_tok (t.sign sign.OpenRound) e = absurd (true≢false e)
    by_tok (t.sign sign.OpenSquare) e = absurd (true≢false e)
    by_tok (t.sign sign.OpenArray) e = absurd (true≢false e)
    by_tok (t.sign x) e = (refl, refl)
    by_tok k e = (refl, refl)

pub no_round : (rest : List Token) → Stops (goes 8) rest → Stops (is_sign sign.OpenRound) rest
no_round [] h = tt
no_round (y ∷ rest) h = (no_opener y h).0

pub no_square : (rest : List Token) → Stops (goes 8) rest → Stops is_square rest
no_square [] h = tt
no_square (y ∷ rest) h = (no_opener y h).1

pub square_no_round : (w : List (Mark Token)) (rest : List Token) → Heads is_square w → Stops (is_sign sign.OpenRound) (bare w ++ rest)
square_no_round [] rest h = absurd h
square_no_round (m ∷ w) rest h = by_tok m.token.tok h
  where
    by_tok : (k : Tok) → is_square_tok k ≡ true → is_sign_tok sign.OpenRound k ≡ false
    by_tok (t.sign sign.OpenSquare) e = refl
    by_tok (t.sign sign.OpenArray) e = refl
    by_tok (t.sign x) e = absurd (false≢true e)
    by_tok k e = absurd (false≢true e)

module _ (limit level : ℕ) (here : level ≤ limit) where
  abbrev pub Form : ℕ → Expression → List (Mark Token) → Type 0
  Form k e w = (nat_eq (form e) k ≡ true) × Words (g.expr e) limit level w

  pub exact_number : Exact (Form 0) never (mapped number_of (token is_integer))
  exact_number = exact_mapped number_of (One is_integer limit level) (Form 0) (token is_integer) never never
      (exact_one limit level is_integer (record { tok = t.integer 0 kinds.Unstated; at = record { line = 0; col = 0 } }) refl here) (λ y w h. into y.tok y.at w h) from (λ rest h. h)
    where
      into : (k : Tok) (at : Pos) (w : List (Mark Token)) → One is_integer limit level (record { tok = k; at = at }) w → Form 0 (number_of (record { tok = k; at = at })) w
      into (t.integer n k) at w (test, h) = (refl, h)
      into k at w (test, h) = absurd (false≢true test)

      from : (e : Expression) (w : List (Mark Token)) → Form 0 e w → (y : Token) × (e ≡ number_of y) × One is_integer limit level y w
      from (s.number n k at) w (o, h) = (record { tok = t.integer n k; at = at }, refl, (refl, h))
      from e w (o, h) = absurd (false≢true o)

  pub exact_truth : Exact (Form 1) never (mapped truth_of (token is_truth))
  exact_truth = exact_mapped truth_of (One is_truth limit level) (Form 1) (token is_truth) never never
      (exact_one limit level is_truth (record { tok = t.sign sign.True; at = record { line = 0; col = 0 } }) refl here) (λ y w h. into y.tok y.at w h) from (λ rest h. h)
    where
      into : (k : Tok) (at : Pos) (w : List (Mark Token)) → One is_truth limit level (record { tok = k; at = at }) w → Form 1 (truth_of (record { tok = k; at = at })) w
      into (t.sign sign.True) at w (test, h) = (refl, h)
      into (t.sign sign.False) at w (test, h) = (refl, h)
      into (t.sign x) at w (test, h) = absurd (false≢true test)
      into k at w (test, h) = absurd (false≢true test)

      from : (e : Expression) (w : List (Mark Token)) → Form 1 e w → (y : Token) × (e ≡ truth_of y) × One is_truth limit level y w
      from (s.logical true at) w (o, h) = (record { tok = t.sign sign.True; at = at }, refl, (refl, h))
      from (s.logical false at) w (o, h) = (record { tok = t.sign sign.False; at = at }, refl, (refl, h))
      from e w (o, h) = absurd (false≢true o)

  -- a name, round brackets behind it, and an image selector behind these where they aren't a function's
  module _ (brackets : Reader (List Piece)) (selector : Reader Chosen) (y : Exact (λ ps w. Words (p.round (pieces ps)) limit level w) never brackets) (z : Exact (λ c w. Words (p.square (chosen_phrase c)) limit level w) never selector) where
    abbrev Brackets : List Piece → List (Mark Token) → Type 0
    Brackets ps w = Words (p.round (pieces ps)) limit level w

    abbrev Chosen_at : Chosen → List (Mark Token) → Type 0
    Chosen_at c w = Words (p.square (chosen_phrase c)) limit level w

    abbrev Front : Name × Option (List Piece) → List (Mark Token) → Type 0
    Front = Both pair (Of p.name limit level) (Optional Brackets)

    abbrev Back : Bool → Option Chosen → List (Mark Token) → Type 0
    Back true = Nothing None
    Back false = Optional Chosen_at

    round_heads : (ps : List Piece) (w : List (Mark Token)) → Brackets ps w → Heads (is_sign sign.OpenRound) w
    round_heads ps w (u, v, (at, q), h, split) = subst (Heads (is_sign sign.OpenRound)) (sym (split ∙ ap (λ k. k ++ v) q)) refl

    square_heads : (c : Chosen) (w : List (Mark Token)) → Chosen_at c w → Heads is_square w
    square_heads c w (inl (u, v, (at, q), h, split)) = subst (Heads is_square) (sym (split ∙ ap (λ k. k ++ v) q)) refl
    square_heads c w (inr (u, v, (at, q), h, split)) = subst (Heads is_square) (sym (split ∙ ap (λ k. k ++ v) q)) refl

    exact_front : Exact Front (is_sign sign.OpenRound) (both pair a_name (optional (is_sign sign.OpenRound) brackets))
    exact_front = exact_both pair (Of p.name limit level) (Optional Brackets) a_name (optional (is_sign sign.OpenRound) brackets) never (is_sign sign.OpenRound) (exact_name limit level here)
        (exact_optional (is_sign sign.OpenRound) Brackets brackets never y (is_sign sign.OpenRound) round_heads (λ rest h. never_stops rest) (λ rest h. h)) (λ b w rest h st. never_stops (bare w ++ rest))

    exact_back : (b : Bool) → Exact (Back b) (goes 8) (selector_part selector b)
    exact_back true = widen (Nothing None) (found None) never (goes 8) (exact_nothing None) (λ rest h. never_stops rest)
    exact_back false = exact_optional is_square Chosen_at selector never z (goes 8) square_heads (λ rest h. never_stops rest) no_square

    apart : (b : Bool) (c : Option Chosen) (w : List (Mark Token)) (rest : List Token) → Back b c w → Stops (goes 8) rest → Stops (is_sign sign.OpenRound) (bare w ++ rest)
    apart true c w rest h st = subst (λ k. Stops (is_sign sign.OpenRound) (bare k ++ rest)) (sym h.1) (no_round rest st)
    apart false None w rest h st = subst (λ k. Stops (is_sign sign.OpenRound) (bare k ++ rest)) (sym h) (no_round rest st)
    apart false (Some c) w rest h st = square_no_round w rest (square_heads c w h)

    abbrev Named_by : Expression → List (Mark Token) → Type 0
    Named_by = By named_expression Front (λ nb. Back (is_function nb.1))

    exact_by_name : Exact Named_by (goes 8) (named_reader brackets selector)
    exact_by_name = exact_by named_expression Front (λ nb. Back (is_function nb.1)) (both pair a_name (optional (is_sign sign.OpenRound) brackets)) (λ nb. selector_part selector (is_function nb.1)) (is_sign sign.OpenRound) (goes 8)
        exact_front (λ nb. exact_back (is_function nb.1)) (λ nb. apart (is_function nb.1))

-- What stands in the brackets, as the grammar has it.
keyword_there : (es : List Piece) → has_name es ≡ true → g.has_keyword (arguments_of es) ≡ true
keyword_there [] h = h
keyword_there (value e ∷ es) h = keyword_there es h
keyword_there (range a b c at ∷ es) h = keyword_there es h
keyword_there (named n e ∷ es) h = refl

none_or_one : (args : Arguments) → g.has_keyword args ≡ true → g.none_or_keyword args ≡ true
none_or_one s.no_arguments h = refl
none_or_one (s.more_arguments k e args) h = h

module _ (l d : ℕ) where
  -- the same brackets round other contents
  round_map : (P Q : Phrase) → ((w : List (Mark Token)) → Words P l (suc d) w → Words Q l (suc d) w) → (w : List (Mark Token)) → Words (p.round P) l d w → Words (p.round Q) l d w
  round_map P Q f w (u, v, o, (i, j, h, c, split2), split) = (u, v, o, (i, j, f i h, c, split2), split)

  arguments_in : (ps : List Piece) (w : List (Mark Token)) → is_call ps ≡ true → Words (pieces ps) l d w → Words (g.arguments (arguments_of ps)) l d w
  arguments_in [] w n h = h
  arguments_in (value e ∷ es) w n (u, v, (f, h), k, split) = in_three l d (g.expr e) (g.keyword None) (g.expr e) (g.more_arguments (arguments_of es)) (plain_in l d e) w (u, v, h, into_args l d either es v (inr n) k, split)
  arguments_in (named x e ∷ es) w n (u, v, (f, h), k, split) = in_three l d (g.specifier x e) (g.keyword (Some x)) (g.expr e) (g.more_arguments (arguments_of es)) (keyword_in l d x e) w (u, v, h, into_args l d keyed es v (inl refl) k, split)
  arguments_in (range a b c at ∷ es) w n (u, v, (f, h), k, split) = absurd (true≢false (sym n ∙ no_name l d es v k))

  keywords_in : (ps : List Piece) → is_call ps ≡ true → g.none_or_keyword (arguments_of ps) ≡ true
  keywords_in [] n = refl
  keywords_in (a ∷ es) n = none_or_one (arguments_of (a ∷ es)) (keyword_there (a ∷ es) n)

  subscripts_in : (ps : List Piece) (w : List (Mark Token)) → is_call ps ≡ false → Words (p.round (pieces ps)) l d w → Words (g.section_subscripts (subscripts_of ps)) l d w
  subscripts_in [] w n h = absurd (true≢false n)
  subscripts_in (a ∷ es) w n h = round_map (pieces (a ∷ es)) (g.section_subscript (subscript_of a) ▸ g.more_section_subscripts (subscripts_of es)) (inside a n) w h
    where
      inside : (a : Piece) → has_name (a ∷ es) ≡ false → (w : List (Mark Token)) → Words (pieces (a ∷ es)) l (suc d) w → Words (g.section_subscript (subscript_of a) ▸ g.more_section_subscripts (subscripts_of es)) l (suc d) w
      inside (value e) n w (u, v, (f, h), k, split) = (u, v, h, into_subs l (suc d) either es v n k, split)
      inside (range b c e at) n w (u, v, (f, h), k, split) = (u, v, h, into_subs l (suc d) ranged es v n k, split)
      inside (named x e) n w h = absurd (true≢false n)

  -- and back
  subscripts_out : (a : SectionSubscript) (xs : SectionSubscripts) (w : List (Mark Token)) → Words (g.section_subscripts (s.more_section_subscripts a xs)) l d w → (ps : List Piece) × (s.more_section_subscripts a xs ≡ subscripts_of ps) × (is_call ps ≡ false) × Words (p.round (pieces ps)) l d w
  subscripts_out (s.subscript e) xs w (u, v, o, (i, j, (k, m, h, q, split3), c, split2), split) =
      let z = from_subs l (suc d) either refl xs m q in
      (value e ∷ z.0, ap (s.more_section_subscripts (s.subscript e)) z.1, z.2, (u, v, o, (i, j, (k, m, (refl, h), z.3, split3), c, split2), split))
  subscripts_out (s.triplet a b e at) xs w (u, v, o, (i, j, (k, m, h, q, split3), c, split2), split) =
      let z = from_subs l (suc d) ranged refl xs m q in
      (range a b e at ∷ z.0, ap (s.more_section_subscripts (s.triplet a b e at)) z.1, z.2, (u, v, o, (i, j, (k, m, (refl, h), z.3, split3), c, split2), split))

  arguments_out : (args : Arguments) (w : List (Mark Token)) → g.none_or_keyword args ≡ true → Words (g.arguments args) l d w → (ps : List Piece) × (args ≡ arguments_of ps) × (is_call ps ≡ true) × Words (pieces ps) l d w
  arguments_out s.no_arguments w n h = ([], refl, refl, h)
  arguments_out (s.more_arguments None e args) w n h =
      let k = out_three l d (g.expr e) (g.keyword None) (g.expr e) (g.more_arguments args) (plain_out l d e) w h in
      let z = from_args l d either refl args k.1 k.3 in
      (value e ∷ z.0, ap (s.more_arguments None e) z.1, z.2 ∙ n, (k.0, k.1, (refl, k.2), z.3, k.4))
  arguments_out (s.more_arguments (Some x) e args) w n h =
      let k = out_three l d (g.specifier x e) (g.keyword (Some x)) (g.expr e) (g.more_arguments args) (keyword_out l d x e) w h in
      let z = from_args l d keyed refl args k.1 k.3 in
      (named x e ∷ z.0, ap (s.more_arguments (Some x) e) z.1, refl, (k.0, k.1, (refl, k.2), z.3, k.4))

module _ (limit level : ℕ) (here : level ≤ limit) (brackets : Reader (List Piece)) (selector : Reader Chosen) (y : Exact (λ ps w. Words (p.round (pieces ps)) limit level w) never brackets) (z : Exact (λ c w. Words (p.square (chosen_phrase c)) limit level w) never selector) where
  abbrev Behind_name : Bool → Option Chosen → List (Mark Token) → Type 0
  Behind_name = Back limit level here brackets selector y z

  select_in : (c : Option Chosen) (w : List (Mark Token)) → Behind_name false c w → Words (g.image_selector (selector_of c)) limit level w
  select_in None w h = h
  select_in (Some c) w h = h

  select_out : (c : ImageSelector) (w : List (Mark Token)) → Words (g.image_selector c) limit level w → (o : Option Chosen) × (c ≡ selector_of o) × Behind_name false o w
  select_out s.no_image_selector w h = (None, refl, h)
  select_out (s.image_selector es ps) w h = (Some (es, ps), refl, h)

  by_call : (ps : List Piece) (n : Name) (c : Option Chosen) (b : Bool) → is_call ps ≡ b → (i j v w : List (Mark Token)) → Words (p.name n) limit level i → Words (p.round (pieces ps)) limit level j → Behind_name b c v → w ≡ (i ++ j) ++ v → Form limit level here 2 (cond b (s.function_reference n (arguments_of ps)) (s.designator (s.part_ref n (subscripts_of ps) (selector_of c)))) w
  by_call ps n c true e i j v w hn hb k split =
      (refl, (keywords_in limit level ps e, (i, j, hn, round_map limit level (pieces ps) (g.arguments (arguments_of ps)) (λ u h. arguments_in limit (suc level) ps u e h) j hb, split ∙ (ap (λ x. (i ++ j) ++ x) k.1 ∙ append-nil (i ++ j)))))
  by_call ps n c false e i j v w hn hb k split =
      (refl, (i, j ++ v, hn, (j, v, subscripts_in limit level ps j e hb, select_in c v k, refl), split ∙ append_assoc i j v))

  into_named : (e : Expression) (w : List (Mark Token)) → Named_by limit level here brackets selector y z e w → Form limit level here 2 e w
  into_named e w (nb, c, is, (u, v, (n, b, same, (i, j, hn, hb, split2)), k, split)) =
      subst (λ x. Form limit level here 2 x w) (sym (is ∙ ap (λ q. named_expression q c) same)) (by_part b hb (subst (λ q. Behind_name (is_function q.1) c v) same k))
    where
      whole : w ≡ (i ++ j) ++ v
      whole = split ∙ ap (λ x. x ++ v) split2

      by_part : (b : Option (List Piece)) → Optional (λ ps w. Words (p.round (pieces ps)) limit level w) b j → Behind_name (is_function b) c v → Form limit level here 2 (named_expression (n, b) c) w
      by_part None hb k = (refl, (i, v, hn, ([], v, refl, select_in c v k, refl), whole ∙ ap (λ x. x ++ v) (ap (λ x. i ++ x) hb ∙ append-nil i)))
      by_part (Some ps) hb k = elim (cases_Bool (is_call ps)) [
        | inl e ↦ subst (λ b. Form limit level here 2 (cond b (s.function_reference n (arguments_of ps)) (s.designator (s.part_ref n (subscripts_of ps) (selector_of c)))) w) (sym e) (by_call ps n c true e i j v w hn hb (subst (λ b. Behind_name b c v) e k) whole)
        | inr e ↦ subst (λ b. Form limit level here 2 (cond b (s.function_reference n (arguments_of ps)) (s.designator (s.part_ref n (subscripts_of ps) (selector_of c)))) w) (sym e) (by_call ps n c false e i j v w hn hb (subst (λ b. Behind_name b c v) e k) whole)
      ]

  from_named : (e : Expression) (w : List (Mark Token)) → Form limit level here 2 e w → Named_by limit level here brackets selector y z e w
  from_named (s.designator (s.part_ref n s.no_section_subscripts c)) w (o, (u, v, hn, (i, j, h, k, split2), split)) =
      let q = select_out c j k in
      ((n, None), q.0, ap (λ x. s.designator (s.part_ref n s.no_section_subscripts x)) q.1, (u, j, (n, None, refl, (u, [], hn, refl, sym (append-nil u))), q.2, split ∙ ap (λ x. u ++ x) (split2 ∙ ap (λ x. x ++ j) h)))
  from_named (s.designator (s.part_ref n (s.more_section_subscripts a xs) c)) w (o, (u, v, hn, (i, j, h, k, split2), split)) =
      let q = select_out c j k in
      let m = subscripts_out limit level a xs i h in (
        (n, Some m.0),
        q.0,
        ap (λ x. s.designator (s.part_ref n (s.more_section_subscripts a xs) x)) q.1 ∙ (ap (λ x. s.designator (s.part_ref n x (selector_of q.0))) m.1 ∙ sym (ap (λ b. cond b (s.function_reference n (arguments_of m.0)) (s.designator (s.part_ref n (subscripts_of m.0) (selector_of q.0)))) m.2)),
        (u ++ i, j, (n, Some m.0, refl, (u, i, hn, m.3, refl)), subst (λ b. Behind_name b q.0 j) (sym m.2) q.2, split ∙ (ap (λ x. u ++ x) split2 ∙ sym (append_assoc u i j))),
      )
  from_named (s.function_reference f args) w (o, (n, (u, v, hn, (i, j, q, (a, b, h, c, split3), split2), split))) =
      let m = arguments_out limit (suc level) args a n h in (
        (f, Some m.0),
        None,
        ap (s.function_reference f) m.1 ∙ sym (ap (λ b. cond b (s.function_reference f (arguments_of m.0)) (s.designator (s.part_ref f (subscripts_of m.0) s.no_image_selector))) m.2),
        (w, [], (f, Some m.0, refl, (u, v, hn, (i, j, q, (a, b, m.3, c, split3), split2), split)), subst (λ b. Behind_name b None []) (sym m.2) (refl, refl), sym (append-nil w)),
      )
  from_named (s.number n k at) w (o, h) = absurd (false≢true o)
  from_named (s.logical b at) w (o, h) = absurd (false≢true o)
  from_named (s.parenthesized e at) w (o, h) = absurd (false≢true o)
  from_named (s.array_constructor es at) w (o, h) = absurd (false≢true o)
  from_named (s.prefix p e at) w (o, h) = absurd (false≢true o)
  from_named (s.binary p a b at) w (o, h) = absurd (false≢true o)

  pub exact_named_primary : Exact (Form limit level here 2) (goes 8) (named_reader brackets selector)
  exact_named_primary = relabel (Named_by limit level here brackets selector y z) (Form limit level here 2) (named_reader brackets selector) (goes 8) (goes 8) (exact_by_name limit level here brackets selector y z) into_named from_named (λ rest h. h)
