-- What stands in the brackets behind a name: each piece is read exactly, by what the pieces before it allow.
use Rattle.std.proofs.Common.{◌≡◌, ℕ, ◌≤◌, Bool, true, false, cond, nat_lt, nat_le, List, [], ◌∷◌, ◌++◌, Option, Some, None, inl, inr, refl, ap, sym, ◌∙◌, subst, append-nil}
use Rattle.std.proofs.lemmas.Bool.{le-ltb, true≢false, false≢true}
use Rattle.caf_base.specs.declared.place.Pos.{Pos}
use Rattle.reader_theory.specs.Words.{Mark, bare}
use Rattle.reader_theory.specs.Levels.{mark, One}
use Rattle.reader_theory.specs.Readers.{token, both, optional, mapped, behind, pair}
use Rattle.reader_theory.specs.Exactness.{Stops, never, Heads, Exact, Eats}
use Rattle.reader_theory.specs.Languages.{Optional, Or, Image}
use Rattle.reader_theory.proofs.Independent.{Both}
use Rattle.reader_theory.proofs.Marks.{never_stops, regroup}
use Rattle.reader_theory.proofs.Sequence.{exact_both}
use Rattle.reader_theory.proofs.Single.{relabel, exact_mapped}
use Rattle.reader_theory.proofs.Choice.{exact_pick, exact_optional}
use Rattle.reader_theory.proofs.Ahead.{exact_ahead}
use Rattle.fortran_tokens.specs.declared.token.Sign.TheVariants as sign
use Rattle.fortran_tree.specs.declared.name.Name.{Name}
use Rattle.fortran_tree.specs.Expressions as s
use Rattle.fortran_tree.specs.Expressions.{Expression, OptionalExpression}
use Rattle.fortran_grammar.specs.Phrases as p
use Rattle.fortran_grammar.specs.Phrases.{Words, FirstAt, ◌▸◌}
use Rattle.fortran_grammar.specs.ExpressionGrammar as g
use Rattle.fortran_grammar.specs.Tokens as t
use Rattle.fortran_grammar.specs.Tokens.{Token, Tok}
use Rattle.expr_reader.specs.Openings.{opens, opening, goes, grip}
use Rattle.expr_reader.specs.Reading.{Reader, place_of}
use Rattle.expr_reader.specs.Tests.{is_sign, is_sign_tok, is_word, is_word_tok, name_of, a_name}
use Rattle.fortran_tree.specs.declared.expr.NumberKind.TheVariants as kinds
use Rattle.expr_reader.proofs.Eating.{eats}
use Rattle.expr_reader.specs.Pieces.{Piece, value, range, named, piece, unnamed, Mode, either, ranged, keyed, fits, made_optional, Colon_part, colon_part, open_range, with_range, subscript_piece, named_piece, piece_in, begins_piece}
use Rattle.expr_reader.proofs.Beginnings.{begins_there, headed}
use Rattle.expr_reader.proofs.Phrases.{Of, sign_in, exact_sign, exact_name, exact_behind_sign, sign_tok, word_tok}
use Rattle.expr_reader.proofs.Exactly.{loosest}
use Rattle.expr_reader.proofs.Seconds.{assigns, no_name, no_assign}

-- Two tests, one or the other.
abbrev pub either_of : (Token → Bool) → (Token → Bool) → Token → Bool
either_of f h y = cond (f y) true (h y)

pub stops_first : (f h : Token → Bool) (rest : List Token) → Stops (either_of f h) rest → Stops f rest
stops_first f h [] e = tt
stops_first f h (y ∷ rest) e = by_test (f y) e
  where
    by_test : (b : Bool) → cond b true (h y) ≡ false → b ≡ false
    by_test true e = e
    by_test false e = refl

pub stops_second : (f h : Token → Bool) (rest : List Token) → Stops (either_of f h) rest → Stops h rest
stops_second f h [] e = tt
stops_second f h (y ∷ rest) e = by_test (f y) e
  where
    by_test : (b : Bool) → cond b true (h y) ≡ false → h y ≡ false
    by_test true e = absurd (true≢false e)
    by_test false e = e

-- what begins a bound or goes on behind one
abbrev bound_more : Token → Bool
bound_more = either_of (opens 1) (goes 0)

-- or begins what stands behind a bound
abbrev pub colon_more : Token → Bool
colon_more = either_of (is_sign sign.Colon) bound_more

colon_goes : (rest : List Token) → Stops colon_more rest → Stops (goes 0) rest
colon_goes rest h = stops_second (opens 1) (goes 0) rest (stops_second (is_sign sign.Colon) bound_more rest h)

module _ (limit level : ℕ) (here : level ≤ limit) (r : Reader Expression) (x : Exact (Of g.expr limit level) (goes 0) r) where
  Expr : Expression → List (Mark Token) → Type 0
  Expr e w = Words (g.expr e) limit level w

  expr_heads : (e : Expression) (w : List (Mark Token)) → Words (g.expr e) limit level w → Heads (opens 1) w
  expr_heads e w h = headed 1 limit level e w (loosest e, h)

  -- [ expr ], [ ":" expr ], and both behind a colon
  abbrev Bound : Option Expression → List (Mark Token) → Type 0
  Bound = Optional (Of g.expr limit level)

  abbrev Stride : Option Expression → List (Mark Token) → Type 0
  Stride = Optional (λ e w. Words (p.sign sign.Colon ▸ g.expr e) limit level w)

  abbrev Colons : Colon_part → List (Mark Token) → Type 0
  Colons = Both pair (One (is_sign sign.Colon) limit level) (Both pair Bound Stride)

  exact_stride : Exact Stride colon_more (optional (is_sign sign.Colon) (behind (is_sign sign.Colon) r))
  exact_stride = exact_optional (is_sign sign.Colon) (λ e w. Words (p.sign sign.Colon ▸ g.expr e) limit level w) (behind (is_sign sign.Colon) r) (goes 0)
      (exact_behind_sign limit level here g.expr (goes 0) r x sign.Colon) colon_more
      (λ e w (u, v, (at, q), h, split). subst (Heads (is_sign sign.Colon)) (sym (split ∙ ap (λ z. z ++ v) q)) refl) colon_goes (stops_first (is_sign sign.Colon) bound_more)

  exact_bound : Exact Bound bound_more (optional (opens 1) r)
  exact_bound = exact_optional (opens 1) (Of g.expr limit level) r (goes 0) x bound_more expr_heads (stops_second (opens 1) (goes 0)) (stops_first (opens 1) (goes 0))

  stride_apart : (o : Option Expression) (w : List (Mark Token)) (rest : List Token) → Stride o w → Stops colon_more rest → Stops bound_more (bare w ++ rest)
  stride_apart None w rest h st = subst (λ z. Stops bound_more (bare z ++ rest)) (sym h) (stops_second (is_sign sign.Colon) bound_more rest st)
  stride_apart (Some e) w rest (u, v, (at, q), h, split) st = subst (λ z. Stops bound_more (bare z ++ rest)) (sym (split ∙ ap (λ z. z ++ v) q)) refl

  exact_colons : Exact Colons colon_more (colon_part r)
  exact_colons = exact_both pair (One (is_sign sign.Colon) limit level) (Both pair Bound Stride) (token (is_sign sign.Colon)) (both pair (optional (opens 1) r) (optional (is_sign sign.Colon) (behind (is_sign sign.Colon) r))) never colon_more
      (exact_sign limit level here sign.Colon)
      (exact_both pair Bound Stride (optional (opens 1) r) (optional (is_sign sign.Colon) (behind (is_sign sign.Colon) r)) bound_more colon_more exact_bound exact_stride stride_apart)
      (λ b w rest h s. never_stops (bare w ++ rest))

  colons_head : (c : Colon_part) (w : List (Mark Token)) → Colons c w → Heads (is_sign sign.Colon) w
  colons_head c w (y, b, e, (u, v, (test, h), q, split)) = subst (Heads (is_sign sign.Colon)) (sym (split ∙ ap (λ z. z ++ v) h)) test

  heads_stop : (w : List (Mark Token)) (rest : List Token) → Heads (is_sign sign.Colon) w → Stops (goes 0) (bare w ++ rest)
  heads_stop [] rest h = absurd h
  heads_stop (m ∷ w) rest h = subst (λ k. nat_lt 0 (grip k) ≡ false) (sym (sign_tok sign.Colon m.token.tok h)) refl

  -- Subscripts: a colon first, or an expression and perhaps a colon behind it.
  abbrev Opened : Piece → List (Mark Token) → Type 0
  Opened = Image open_range Colons

  abbrev Ranged : Piece → List (Mark Token) → Type 0
  Ranged = Both with_range (Of g.expr limit level) (Optional Colons)

  colons_apart : (o : Option Colon_part) (w : List (Mark Token)) (rest : List Token) → Optional Colons o w → Stops colon_more rest → Stops (goes 0) (bare w ++ rest)
  colons_apart None w rest h st = subst (λ z. Stops (goes 0) (bare z ++ rest)) (sym h) (colon_goes rest st)
  colons_apart (Some c) w rest h st = heads_stop w rest (colons_head c w h)

  exact_ranged : Exact Ranged colon_more (both with_range r (optional (is_sign sign.Colon) (colon_part r)))
  exact_ranged = exact_both with_range (Of g.expr limit level) (Optional Colons) r (optional (is_sign sign.Colon) (colon_part r)) (goes 0) colon_more x
      (exact_optional (is_sign sign.Colon) Colons (colon_part r) colon_more exact_colons colon_more colons_head (λ rest s. s) (stops_first (is_sign sign.Colon) bound_more)) colons_apart

  opens_no_colon : (w : List (Mark Token)) (rest : List Token) → Heads (opens 1) w → Stops (is_sign sign.Colon) (bare w ++ rest)
  opens_no_colon [] rest h = absurd h
  opens_no_colon (m ∷ w) rest h = by_test (is_sign sign.Colon m.token) refl
    where
      by_test : (b : Bool) → is_sign sign.Colon m.token ≡ b → is_sign sign.Colon m.token ≡ false
      by_test true e = absurd (false≢true (subst (λ k. nat_le 1 (opening k) ≡ true) (sign_tok sign.Colon m.token.tok e) h))
      by_test false e = e

  heads_front : (u v w : List (Mark Token)) → Heads (opens 1) u → w ≡ u ++ v → Heads (opens 1) w
  heads_front [] v w h e = absurd h
  heads_front (m ∷ u) v w h e = subst (Heads (opens 1)) (sym e) h

  exact_subscript : Exact (Or Opened Ranged) colon_more (subscript_piece r)
  exact_subscript = exact_pick (is_sign sign.Colon) Opened Ranged (mapped open_range (colon_part r)) (both with_range r (optional (is_sign sign.Colon) (colon_part r))) colon_more colon_more
      (exact_mapped open_range Colons Opened (colon_part r) colon_more colon_more exact_colons (λ c w h. (c, refl, h)) (λ a w h. h) (λ rest s. s))
      exact_ranged colon_more
      (λ a w (c, e, h). colons_head c w h)
      (λ a w rest (e, o, is, (u, v, h, k, split)) st. opens_no_colon w rest (heads_front u v w (expr_heads e u h) split))
      (λ rest s. s) (λ rest s. s)

  -- NAME "=" expr
  pub exact_named : Exact (λ a w. (n : Name) × (e : Expression) × (a ≡ named n e) × Words (g.specifier n e) limit level w) (goes 0) (named_piece r)
  exact_named = relabel (Both named (Of p.name limit level) (λ e w. Words (p.sign sign.Assign ▸ g.expr e) limit level w)) (λ a w. (n : Name) × (e : Expression) × (a ≡ named n e) × Words (g.specifier n e) limit level w) (named_piece r) (goes 0) (goes 0)
      (exact_both named (Of p.name limit level) (λ e w. Words (p.sign sign.Assign ▸ g.expr e) limit level w) a_name (behind (is_sign sign.Assign) r) never (goes 0)
      (exact_name limit level here) (exact_behind_sign limit level here g.expr (goes 0) r x sign.Assign) (λ b w rest h s. never_stops (bare w ++ rest)))
      (λ a w (n, e, is, h). (n, e, is, h)) (λ a w (n, e, is, h). (n, e, is, h)) (λ rest s. s)

  -- The same pieces as the grammar has them.
  bound_in : (o : Option Expression) (w : List (Mark Token)) → Bound o w → Words (g.optional_expression (made_optional o)) limit level w
  bound_in None w h = h
  bound_in (Some e) w h = h

  stride_in : (o : Option Expression) (w : List (Mark Token)) → Stride o w → Words (g.stride (made_optional o)) limit level w
  stride_in None w h = h
  stride_in (Some e) w h = h

  given_back : OptionalExpression → Option Expression
  given_back s.missing = None
  given_back (s.given e) = Some e

  bound_out : (o : OptionalExpression) (w : List (Mark Token)) → Words (g.optional_expression o) limit level w → (q : Option Expression) × (o ≡ made_optional q) × Bound q w
  bound_out s.missing w h = (None, refl, h)
  bound_out (s.given e) w h = (Some e, refl, h)

  stride_out : (o : OptionalExpression) (w : List (Mark Token)) → Words (g.stride o) limit level w → (q : Option Expression) × (o ≡ made_optional q) × Stride q w
  stride_out s.missing w h = (None, refl, h)
  stride_out (s.given e) w h = (Some e, refl, h)

  -- what stands behind the lower bound of a triplet
  abbrev Tail : OptionalExpression → OptionalExpression → List (Mark Token) → Type 0
  Tail b c w = Words (p.sign sign.Colon ▸ g.optional_expression b ▸ g.stride c) limit level w

  tail_in : (c : Colon_part) (w : List (Mark Token)) → Colons c w → Tail (made_optional c.1.0) (made_optional c.1.1) w × FirstAt c.0.at w
  tail_in c w (y, b, e, (u, v, o, (i, j, is, (q, k, hb, hs, split2)), split)) =
      let first : c.0 ≡ y = ap (λ z. z.0) e in
      let second : c.1 ≡ (i, j) = ap (λ z. z.1) e ∙ is in
      let there : FirstAt y.at w = subst (FirstAt y.at) (sym (split ∙ ap (λ z. z ++ v) o.1)) refl in (
        subst (λ z. Tail (made_optional z.0) (made_optional z.1) w) (sym second) (u, v, sign_in limit level sign.Colon y u o, (q, k, bound_in i q hb, stride_in j k hs, split2), split),
        subst (λ z. FirstAt z.at w) (sym first) there,
      )

  tail_out : (b c : OptionalExpression) (w : List (Mark Token)) → Tail b c w → (z : Colon_part) × (b ≡ made_optional z.1.0) × (c ≡ made_optional z.1.1) × Colons z w × FirstAt z.0.at w
  tail_out b c w (u, v, (at, h), (q, k, hb, hs, split2), split) =
      let y : Token = record { tok = t.sign sign.Colon; at = at } in
      let i = bound_out b q hb in
      let j = stride_out c k hs in
      ((y, (i.0, j.0)), i.1, j.1, (y, (i.0, j.0), refl, (u, v, (refl, h), (i.0, j.0, refl, (q, k, i.2, j.2, split2)), split)), subst (FirstAt at) (sym (split ∙ ap (λ z. z ++ v) h)) refl)

  same_first : (a b : Pos) (w : List (Mark Token)) → FirstAt a w → FirstAt b w → a ≡ b
  same_first a b [] f h = absurd f
  same_first a b (m ∷ w) f h = sym f ∙ h

  first_longer : (a : Pos) (u v w : List (Mark Token)) → FirstAt a u → w ≡ u ++ v → FirstAt a w
  first_longer a [] v w f e = absurd f
  first_longer a (m ∷ u) v w f e = subst (FirstAt a) (sym e) f

  abbrev pub Subscript_at : Piece → List (Mark Token) → Type 0
  Subscript_at a w = (unnamed a ≡ true) × Words (piece a) limit level w

  into_subscript : (a : Piece) (w : List (Mark Token)) → Or Opened Ranged a w → Subscript_at a w
  into_subscript a w (inl (c, e, h)) = let k = tail_in c w h in subst (λ z. Subscript_at z w) (sym e) (refl, (k.1, ([], w, refl, k.0, refl)))
  into_subscript a w (inr (e, None, is, (u, v, h, k, split))) =
      subst (λ z. Subscript_at z w) (sym is) (refl, subst (λ z. Words (g.expr e) limit level z) (sym (split ∙ (ap (λ z. u ++ z) k ∙ append-nil u))) h)
  into_subscript a w (inr (e, Some c, is, (u, v, h, k, split))) =
      let q = tail_in c v k in
      subst (λ z. Subscript_at z w) (sym is) (refl, (first_longer (place_of e) u v w (begins_there 1 limit level e u (loosest e, h)) split, (u, v, h, q.0, split)))

  from_subscript : (a : Piece) (w : List (Mark Token)) → Subscript_at a w → Or Opened Ranged a w
  from_subscript (value e) w (o, h) = inr (e, None, refl, (w, [], h, refl, sym (append-nil w)))
  from_subscript (range s.missing b c at) w (o, (f, (u, v, e, q, split))) =
      let k = tail_out b c v q in
      let there : FirstAt k.0.0.at w = subst (FirstAt k.0.0.at) (sym (split ∙ ap (λ z. z ++ v) e)) k.4 in
      let same = same_first at k.0.0.at w f there in
      inl (k.0, ap (λ z. range s.missing z c at) k.1 ∙ (ap (λ z. range s.missing (made_optional k.0.1.0) z at) k.2 ∙ ap (range s.missing (made_optional k.0.1.0) (made_optional k.0.1.1)) same), subst (λ z. Colons k.0 z) (sym (split ∙ ap (λ z. z ++ v) e)) k.3)
  from_subscript (range (s.given e) b c at) w (o, (f, (u, v, h, q, split))) =
      let k = tail_out b c v q in
      let same = same_first at (place_of e) w f (first_longer (place_of e) u v w (begins_there 1 limit level e u (loosest e, h)) split) in
      inr (e, Some k.0, ap (λ z. range (s.given e) z c at) k.1 ∙ (ap (λ z. range (s.given e) (made_optional k.0.1.0) z at) k.2 ∙ ap (range (s.given e) (made_optional k.0.1.0) (made_optional k.0.1.1)) same), (u, v, h, k.3, split))
  from_subscript (named n e) w (o, h) = absurd (false≢true o)

  pub exact_subscripts : Exact Subscript_at colon_more (subscript_piece r)
  exact_subscripts = relabel (Or Opened Ranged) Subscript_at (subscript_piece r) colon_more colon_more exact_subscript into_subscript from_subscript (λ rest h. h)

  -- By what the pieces so far allow.
  abbrev pub Piece_at : Mode → Piece → List (Mark Token) → Type 0
  Piece_at m a w = (fits m a ≡ true) × Words (piece a) limit level w

  abbrev Named_at : Piece → List (Mark Token) → Type 0
  Named_at a w = (n : Name) × (e : Expression) × (a ≡ named n e) × Words (g.specifier n e) limit level w

  -- what goes on behind a piece, or an `=`
  abbrev pub piece_more : Token → Bool
  piece_more = either_of (is_sign sign.Assign) colon_more

  named_pair : (a : Piece) (w : List (Mark Token)) (rest : List Token) → Named_at a w → assigns (bare w ++ rest) ≡ true
  named_pair a w rest (n, e, is, (u, v, h, (i, j, (at, q), k, split2), split)) =
      subst (λ z. assigns (bare z ++ rest) ≡ true) (sym (split ∙ (ap (λ z. z ++ v) h ∙ ap (λ z. mark limit level (record { tok = t.word n.text; at = n.at }) ∷ z) (split2 ∙ ap (λ z. z ++ j) q)))) refl

  not_assigned : (w : List (Mark Token)) (rest : List Token) → Heads (is_sign sign.Colon) w → assigns (bare w ++ rest) ≡ false
  not_assigned [] rest h = absurd h
  not_assigned (m ∷ w) rest h = no_name m.token (bare w ++ rest) (subst (λ k. is_word_tok k ≡ false) (sym (sign_tok sign.Colon m.token.tok h)) refl)

  colon_first : (w : List (Mark Token)) (rest : List Token) → Heads (is_sign sign.Colon) w → Stops (is_sign sign.Assign) (bare w ++ rest)
  colon_first [] rest h = absurd h
  colon_first (m ∷ w) rest h = subst (λ k. is_sign_tok sign.Assign k ≡ false) (sym (sign_tok sign.Colon m.token.tok h)) refl

  subscript_pair : (a : Piece) (w : List (Mark Token)) (rest : List Token) → Subscript_at a w → Stops piece_more rest → assigns (bare w ++ rest) ≡ false
  subscript_pair a w rest h st = by_form a (from_subscript a w h)
    where
      by_form : (a : Piece) → Or Opened Ranged a w → assigns (bare w ++ rest) ≡ false
      by_form a (inl (c, e, k)) = not_assigned w rest (colons_head c w k)
      by_form a (inr (e, None, is, (u, v, k, q, split))) =
          subst (λ z. assigns (bare z ++ rest) ≡ false) (sym (split ∙ (ap (λ z. u ++ z) q ∙ append-nil u))) (no_assign e limit level u rest k (stops_first (is_sign sign.Assign) colon_more rest st))
      by_form a (inr (e, Some c, is, (u, v, k, q, split))) =
          let there : bare w ++ rest ≡ bare u ++ (bare v ++ rest) = ap (λ z. bare z ++ rest) split ∙ sym (regroup u v rest) in
          subst (λ z. assigns z ≡ false) (sym there) (no_assign e limit level u (bare v ++ rest) k (colon_first v rest (colons_head c v q)))

  value_pair : (a : Piece) (w : List (Mark Token)) (rest : List Token) → Image value (Of g.expr limit level) a w → Stops piece_more rest → assigns (bare w ++ rest) ≡ false
  value_pair a w rest (e, is, h) st = no_assign e limit level w rest h (stops_first (is_sign sign.Assign) colon_more rest st)

  -- a name alone is an expression, and with `= 0` behind it an argument with its keyword
  shallow_here : nat_lt limit level ≡ false
  shallow_here = le-ltb limit level here

  alone : Token → List (Mark Token)
  alone y = mark limit level y ∷ []

  name_alone : (y : Token) → is_word y ≡ true → Words (g.expr (s.designator (s.part_ref (name_of y) s.no_section_subscripts s.no_image_selector))) limit level (mark limit level y ∷ [])
  name_alone y e = (mark limit level y ∷ [], [], ap (λ k. mark limit level (record { tok = k; at = y.at }) ∷ []) (word_tok y.tok e), ([], [], refl, refl, refl), refl)

  some_expr : Expression
  some_expr = x.some

  zero_is : (at : Pos) → Words (g.expr (s.number 0 kinds.Unstated at)) limit level (mark limit level (record { tok = t.integer 0 kinds.Unstated; at = at }) ∷ [])
  zero_is at = refl

  name_assigned : (y : Token) → is_word y ≡ true → Words (g.specifier (name_of y) (s.number 0 kinds.Unstated y.at)) limit level (mark limit level y ∷ mark limit level (record { tok = t.sign sign.Assign; at = y.at }) ∷ mark limit level (record { tok = t.integer 0 kinds.Unstated; at = y.at }) ∷ [])
  name_assigned y e = (mark limit level y ∷ [], _ ∷ _ ∷ [], ap (λ k. mark limit level (record { tok = k; at = y.at }) ∷ []) (word_tok y.tok e), (_ ∷ [], _ ∷ [], (y.at, refl), refl, refl), refl)

  named_heads : (a : Piece) (w : List (Mark Token)) → Named_at a w → Heads is_word w
  named_heads a w (n, e, is, (u, v, h, k, split)) = subst (Heads is_word) (sym (split ∙ ap (λ z. z ++ v) h)) refl

  eats_named : Eats is_word (named_piece r)
  eats_named y u e k = eats Named_at is_word (goes 0) (named_piece r) exact_named named_heads y u _ (named (name_of y) (s.number 0 kinds.Unstated y.at)) _ (name_of y, s.number 0 kinds.Unstated y.at, refl, name_assigned y e) (shallow_here, (shallow_here, (shallow_here, tt))) refl k

  any : Token → Bool
  any y = true

  nonempty : (test : Token → Bool) (w : List (Mark Token)) → Heads test w → Heads any w
  unfolding any
  nonempty test [] h = h
  nonempty test (m ∷ w) h = refl

  subscript_heads : (a : Piece) (w : List (Mark Token)) → Subscript_at a w → Heads any w
  subscript_heads a w h = by_form a (from_subscript a w h)
    where
      by_form : (a : Piece) → Or Opened Ranged a w → Heads any w
      by_form a (inl (c, e, k)) = nonempty (is_sign sign.Colon) w (colons_head c w k)
      by_form a (inr (e, o, is, (u, v, k, q, split))) = nonempty (opens 1) w (heads_front u v w (expr_heads e u k) split)

  eats_subscript : Eats is_word (subscript_piece r)
  eats_subscript y u e k = eats Subscript_at any colon_more (subscript_piece r) exact_subscripts subscript_heads y u _ (value (s.designator (s.part_ref (name_of y) s.no_section_subscripts s.no_image_selector))) _ (refl, name_alone y e) (shallow_here, tt) refl k

  exact_value : Exact (Image value (Of g.expr limit level)) (goes 0) (mapped value r)
  exact_value = exact_mapped value (Of g.expr limit level) (Image value (Of g.expr limit level)) r (goes 0) (goes 0) x (λ e w h. (e, refl, h)) (λ a w h. h) (λ rest h. h)

  eats_value : Eats is_word (mapped value r)
  eats_value y u e k = eats (Image value (Of g.expr limit level)) any (goes 0) (mapped value r) exact_value (λ a w (z, is, h). nonempty (opens 1) w (expr_heads z w h)) y u _ _ _ (s.designator (s.part_ref (name_of y) s.no_section_subscripts s.no_image_selector), refl, name_alone y e) (shallow_here, tt) refl k

  pub piece_goes : (rest : List Token) → Stops piece_more rest → Stops (goes 0) rest
  piece_goes rest h = colon_goes rest (stops_second (is_sign sign.Assign) colon_more rest h)

  pub exact_piece : (m : Mode) → Exact (Piece_at m) piece_more (piece_in m r)
  exact_piece ranged = relabel Subscript_at (Piece_at ranged) (subscript_piece r) colon_more piece_more exact_subscripts into from (stops_second (is_sign sign.Assign) colon_more)
    where
      into : (a : Piece) (w : List (Mark Token)) → Subscript_at a w → Piece_at ranged a w
      into (value e) w h = h
      into (range a b c at) w h = h
      into (named n e) w h = absurd (false≢true h.0)

      from : (a : Piece) (w : List (Mark Token)) → Piece_at ranged a w → Subscript_at a w
      from (value e) w h = h
      from (range a b c at) w h = h
      from (named n e) w h = absurd (false≢true h.0)
  exact_piece keyed = relabel (Or Named_at (Image value (Of g.expr limit level))) (Piece_at keyed) (piece_in keyed r) piece_more piece_more
      (exact_ahead is_word (is_sign sign.Assign) Named_at (Image value (Of g.expr limit level)) (named_piece r) (mapped value r) (goes 0) (goes 0) exact_named exact_value piece_more
      named_pair value_pair piece_goes piece_goes eats_named eats_value)
      into from (λ rest h. h)
    where
      into : (a : Piece) (w : List (Mark Token)) → Or Named_at (Image value (Of g.expr limit level)) a w → Piece_at keyed a w
      into a w (inl (n, e, is, h)) = subst (λ z. Piece_at keyed z w) (sym is) (refl, h)
      into a w (inr (e, is, h)) = subst (λ z. Piece_at keyed z w) (sym is) (refl, h)

      from : (a : Piece) (w : List (Mark Token)) → Piece_at keyed a w → Or Named_at (Image value (Of g.expr limit level)) a w
      from (value e) w h = inr (e, refl, h.1)
      from (range a b c at) w h = absurd (false≢true h.0)
      from (named n e) w h = inl (n, e, refl, h.1)
  exact_piece either = relabel (Or Named_at Subscript_at) (Piece_at either) (piece_in either r) piece_more piece_more
      (exact_ahead is_word (is_sign sign.Assign) Named_at Subscript_at (named_piece r) (subscript_piece r) (goes 0) colon_more exact_named exact_subscripts piece_more
      named_pair subscript_pair piece_goes (stops_second (is_sign sign.Assign) colon_more) eats_named eats_subscript)
      into from (λ rest h. h)
    where
      into : (a : Piece) (w : List (Mark Token)) → Or Named_at Subscript_at a w → Piece_at either a w
      into a w (inl (n, e, is, h)) = subst (λ z. Piece_at either z w) (sym is) (refl, h)
      into (value e) w (inr h) = h
      into (range a b c at) w (inr h) = h
      into (named n e) w (inr h) = absurd (false≢true h.0)

      from : (a : Piece) (w : List (Mark Token)) → Piece_at either a w → Or Named_at Subscript_at a w
      from (value e) w h = inr h
      from (range a b c at) w h = inr h
      from (named n e) w h = inl (n, e, refl, h.1)

  -- each piece begins with a colon, or with what begins an expression
  pub begins_word : (a : Piece) (w : List (Mark Token)) → Piece_at either a w → Heads begins_piece w
  begins_word (named n e) w (o, (u, v, h, k, split)) = subst (Heads begins_piece) (sym (split ∙ ap (λ z. z ++ v) h)) refl
  begins_word (value e) w h = open_heads w (expr_heads e w h.1)
    where
      open_heads : (w : List (Mark Token)) → Heads (opens 1) w → Heads begins_piece w
      open_heads [] h = h
      open_heads (m ∷ w) h = by_test (is_sign sign.Colon m.token) h
        where
          by_test : (b : Bool) → opens 1 m.token ≡ true → cond b true (opens 1 m.token) ≡ true
          by_test true h = refl
          by_test false h = h
  begins_word (range s.missing b c at) w (o, (f, (u, v, e, (i, j, (q, h), k, split2), split))) =
      subst (Heads begins_piece) (sym (split ∙ (ap (λ z. z ++ v) e ∙ (split2 ∙ ap (λ z. z ++ j) h)))) refl
  begins_word (range (s.given e) b c at) w (o, (f, (u, v, h, k, split))) = longer u v w (open_heads u (expr_heads e u h)) split
    where
      open_heads : (w : List (Mark Token)) → Heads (opens 1) w → Heads begins_piece w
      open_heads [] h = h
      open_heads (m ∷ w) h = by_test (is_sign sign.Colon m.token) h
        where
          by_test : (b : Bool) → opens 1 m.token ≡ true → cond b true (opens 1 m.token) ≡ true
          by_test true h = refl
          by_test false h = h

      longer : (u v w : List (Mark Token)) → Heads begins_piece u → w ≡ u ++ v → Heads begins_piece w
      longer [] v w h e = absurd h
      longer (m ∷ u) v w h e = subst (Heads begins_piece) (sym e) h
