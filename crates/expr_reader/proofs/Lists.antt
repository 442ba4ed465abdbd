-- What stands in the brackets behind a name is read exactly, and is the grammar's subscripts or arguments.
use Rattle.std.proofs.Common.{◌≡◌, ℕ, ◌≤◌, Bool, true, false, List, [], ◌∷◌, ◌++◌, Some, None, ◌⊎◌, inl, inr, refl, ap, sym, ◌∙◌, subst, append_assoc}
use Rattle.std.proofs.lemmas.Bool.{true≢false, false≢true}
use Rattle.reader_theory.specs.Words.{Mark, bare, found}
use Rattle.reader_theory.specs.Readers.{both_by, behind}
use Rattle.reader_theory.specs.Exactness.{Stops, never, Heads, Exact}
use Rattle.reader_theory.specs.Languages.{Or, By, Nothing, Items_by}
use Rattle.reader_theory.proofs.Marks.{never_stops}
use Rattle.reader_theory.proofs.Sequence.{exact_by}
use Rattle.reader_theory.proofs.Single.{relabel, exact_nothing}
use Rattle.reader_theory.proofs.Choice.{exact_pick}
use Rattle.reader_theory.proofs.Many.{exact_many_by}
use Rattle.fortran_tokens.specs.declared.token.Sign.TheVariants as sign
use Rattle.fortran_tree.specs.Expressions as s
use Rattle.fortran_tree.specs.Expressions.{Expression, SectionSubscript, SectionSubscripts, Arguments}
use Rattle.fortran_grammar.specs.Phrases as p
use Rattle.fortran_grammar.specs.Phrases.{Words, ◌▸◌}
use Rattle.fortran_grammar.specs.ExpressionGrammar as g
use Rattle.fortran_grammar.specs.Tokens.{Token}
use Rattle.expr_reader.specs.Openings.{goes}
use Rattle.expr_reader.specs.Reading.{Reader}
use Rattle.expr_reader.specs.Tests.{is_sign}
use Rattle.expr_reader.specs.Pieces.{Piece, value, range, named, Mode, either, ranged, keyed, next_mode, fits, piece_in, allowed, more_pieces, pieces, pieces_after, begins_piece, pieces_or_none, has_name, subscripts_of, arguments_of}
use Rattle.expr_reader.proofs.Phrases.{Of, exact_behind_sign, sign_tok}
use Rattle.expr_reader.proofs.Pieces.{exact_piece, piece_more, either_of, stops_first, stops_second, begins_word}

module _ (limit level : ℕ) (here : level ≤ limit) (r : Reader Expression) (x : Exact (Of g.expr limit level) (goes 0) r) where
  abbrev pub more : Token → Bool
  more = either_of (is_sign sign.Comma) (piece_more limit level here r x)

  abbrev Comma_piece : Mode → Piece → List (Mark Token) → Type 0
  Comma_piece m a w = Words (p.sign sign.Comma ▸ allowed m a) limit level w

  comma_goes : (y : Token) → is_sign sign.Comma y ≡ true → piece_more limit level here r x y ≡ false
  comma_goes y e = subst (λ k. piece_more limit level here r x (record { tok = k; at = y.at }) ≡ false) (sym (sign_tok sign.Comma y.tok e)) refl

  exact_more : (m : Mode) → Exact (λ es w. Items_by Comma_piece next_mode es m w) more (pieces_after r m)
  exact_more = exact_many_by Comma_piece (λ m. behind (is_sign sign.Comma) (piece_in m r)) next_mode (is_sign sign.Comma) (piece_more limit level here r x) more
      (λ m. exact_behind_sign limit level here (allowed m) (piece_more limit level here r x) (piece_in m r) (exact_piece limit level here r x m) sign.Comma)
      (λ m a w (u, v, (at, q), l, split). subst (Heads (is_sign sign.Comma)) (sym (split ∙ ap (λ z. z ++ v) q)) refl)
      (stops_second (is_sign sign.Comma) (piece_more limit level here r x)) (stops_first (is_sign sign.Comma) (piece_more limit level here r x)) comma_goes

  into_more : (m : Mode) (es : List Piece) (w : List (Mark Token)) → Items_by Comma_piece next_mode es m w → Words (more_pieces m es) limit level w
  into_more m [] w h = h
  into_more m (a ∷ es) w (u, v, (i, j, q, l, split2), rest, split) = (i, j ++ v, q, (j, v, l, into_more (next_mode m a) es v rest, refl), split ∙ (ap (λ z. z ++ v) split2 ∙ append_assoc i j v))

  from_more : (m : Mode) (es : List Piece) (w : List (Mark Token)) → Words (more_pieces m es) limit level w → Items_by Comma_piece next_mode es m w
  from_more m [] w h = h
  from_more m (a ∷ es) w (u, v, q, (i, j, l, rest, split2), split) = (u ++ i, j, (u, i, q, l, refl), from_more (next_mode m a) es j rest, split ∙ (ap (λ z. u ++ z) split2 ∙ sym (append_assoc u i j)))

  pub exact_after : (m : Mode) → Exact (λ es w. Words (more_pieces m es) limit level w) more (pieces_after r m)
  exact_after m = relabel (λ es w. Items_by Comma_piece next_mode es m w) (λ es w. Words (more_pieces m es) limit level w) (pieces_after r m) more more (exact_more m) (into_more m) (from_more m) (λ rest h. h)

  pub apart : (m : Mode) (es : List Piece) (w : List (Mark Token)) (rest : List Token) → Words (more_pieces m es) limit level w → Stops more rest → Stops (piece_more limit level here r x) (bare w ++ rest)
  apart m [] w rest h st = subst (λ z. Stops (piece_more limit level here r x) (bare z ++ rest)) (sym h) (stops_second (is_sign sign.Comma) (piece_more limit level here r x) rest st)
  apart m (a ∷ es) w rest (u, v, (at, q), l, split) st = subst (λ z. Stops (piece_more limit level here r x) (bare z ++ rest)) (sym (split ∙ ap (λ z. z ++ v) q)) refl

  abbrev Some_pieces : List Piece → List (Mark Token) → Type 0
  Some_pieces = By (λ a es. a ∷ es) (Of (allowed either) limit level) (λ a es w. Words (more_pieces (next_mode either a) es) limit level w)

  abbrev pub all_more : Token → Bool
  all_more = either_of begins_piece more

  exact_some : Exact Some_pieces more (both_by (λ a es. a ∷ es) (piece_in either r) (λ a. pieces_after r (next_mode either a)))
  exact_some = exact_by (λ a es. a ∷ es) (Of (allowed either) limit level) (λ a es w. Words (more_pieces (next_mode either a) es) limit level w) (piece_in either r) (λ a. pieces_after r (next_mode either a))
      (piece_more limit level here r x) more (exact_piece limit level here r x either) (λ a. exact_after (next_mode either a)) (λ a. apart (next_mode either a))

  heads_front : (u v w : List (Mark Token)) → Heads begins_piece u → w ≡ u ++ v → Heads begins_piece w
  heads_front [] v w h e = absurd h
  heads_front (m ∷ u) v w h e = subst (Heads begins_piece) (sym e) h

  pub exact_pieces : Exact (Of pieces limit level) all_more (pieces_or_none r)
  exact_pieces = relabel (Or Some_pieces (Nothing [])) (Of pieces limit level) (pieces_or_none r) all_more all_more
      (exact_pick begins_piece Some_pieces (Nothing []) (both_by (λ a es. a ∷ es) (piece_in either r) (λ a. pieces_after r (next_mode either a))) (found []) more never exact_some (exact_nothing []) all_more
      (λ es w (a, bs, e, (u, v, h, k, split)). heads_front u v w (begins_word limit level here r x a u h) split)
      (λ es w rest h st. subst (λ z. Stops begins_piece (bare z ++ rest)) (sym h.1) (stops_first begins_piece more rest st))
      (stops_second begins_piece more) (λ rest st. never_stops rest))
      into from (λ rest h. h)
    where
      into : (es : List Piece) (w : List (Mark Token)) → Or Some_pieces (Nothing []) es w → Words (pieces es) limit level w
      into es w (inl (a, bs, e, h)) = subst (λ z. Words (pieces z) limit level w) (sym e) h
      into es w (inr h) = subst (λ z. Words (pieces z) limit level w) (sym h.0) h.1

      from : (es : List Piece) (w : List (Mark Token)) → Words (pieces es) limit level w → Or Some_pieces (Nothing []) es w
      from [] w h = inr (refl, h)
      from (a ∷ es) w h = inl (a, es, refl, h)

-- The same lists as the grammar has them: subscripts where none has a keyword, else arguments.
module _ (l d : ℕ) where
  pub into_subs : (m : Mode) (es : List Piece) (w : List (Mark Token)) → has_name es ≡ false → Words (more_pieces m es) l d w → Words (g.more_section_subscripts (subscripts_of es)) l d w
  into_subs m [] w n h = h
  into_subs m (value e ∷ es) w n (u, v, q, (i, j, (f, k), rest, split2), split) = (u, v, q, (i, j, k, into_subs (next_mode m (value e)) es j n rest, split2), split)
  into_subs m (range a b c at ∷ es) w n (u, v, q, (i, j, (f, k), rest, split2), split) = (u, v, q, (i, j, k, into_subs ranged es j n rest, split2), split)
  into_subs m (named x e ∷ es) w n h = absurd (true≢false n)

  abbrev takes_ranges : Mode → Bool
  takes_ranges keyed = false
  takes_ranges m = true

  piece_of : SectionSubscript → Piece
  piece_of (s.subscript e) = value e
  piece_of (s.triplet a b c at) = range a b c at

  pub from_subs : (m : Mode) → takes_ranges m ≡ true → (xs : SectionSubscripts) (w : List (Mark Token)) → Words (g.more_section_subscripts xs) l d w → (es : List Piece) × (xs ≡ subscripts_of es) × (has_name es ≡ false) × Words (more_pieces m es) l d w
  from_subs m t s.no_section_subscripts w h = ([], refl, refl, h)
  from_subs keyed t xs w h = absurd (false≢true t)
  from_subs either t (s.more_section_subscripts (s.subscript e) xs) w (u, v, q, (i, j, k, rest, split2), split) =
      let z = from_subs either refl xs j rest in (value e ∷ z.0, ap (s.more_section_subscripts (s.subscript e)) z.1, z.2, (u, v, q, (i, j, (refl, k), z.3, split2), split))
  from_subs either t (s.more_section_subscripts (s.triplet a b c at) xs) w (u, v, q, (i, j, k, rest, split2), split) =
      let z = from_subs ranged refl xs j rest in (range a b c at ∷ z.0, ap (s.more_section_subscripts (s.triplet a b c at)) z.1, z.2, (u, v, q, (i, j, (refl, k), z.3, split2), split))
  from_subs ranged t (s.more_section_subscripts (s.subscript e) xs) w (u, v, q, (i, j, k, rest, split2), split) =
      let z = from_subs ranged refl xs j rest in (value e ∷ z.0, ap (s.more_section_subscripts (s.subscript e)) z.1, z.2, (u, v, q, (i, j, (refl, k), z.3, split2), split))
  from_subs ranged t (s.more_section_subscripts (s.triplet a b c at) xs) w (u, v, q, (i, j, k, rest, split2), split) =
      let z = from_subs ranged refl xs j rest in (range a b c at ∷ z.0, ap (s.more_section_subscripts (s.triplet a b c at)) z.1, z.2, (u, v, q, (i, j, (refl, k), z.3, split2), split))

  -- behind a triplet there is no keyword
  pub no_name : (es : List Piece) (w : List (Mark Token)) → Words (more_pieces ranged es) l d w → has_name es ≡ false
  no_name [] w h = refl
  no_name (value e ∷ es) w (u, v, q, (i, j, k, rest, split2), split) = no_name es j rest
  no_name (range a b c at ∷ es) w (u, v, q, (i, j, k, rest, split2), split) = no_name es j rest
  no_name (named x e ∷ es) w (u, v, q, (i, j, (f, k), rest, split2), split) = absurd (false≢true f)

  -- an argument with its keyword, or without
  pub keyword_in : (n : _) (e : Expression) (w : List (Mark Token)) → Words (g.specifier n e) l d w → Words (g.keyword (Some n) ▸ g.expr e) l d w
  keyword_in n e w (u, v, h, (i, j, q, k, split2), split) = (u ++ i, j, (u, i, h, q, refl), k, split ∙ (ap (λ z. u ++ z) split2 ∙ sym (append_assoc u i j)))

  pub keyword_out : (n : _) (e : Expression) (w : List (Mark Token)) → Words (g.keyword (Some n) ▸ g.expr e) l d w → Words (g.specifier n e) l d w
  keyword_out n e w (u, v, (i, j, h, q, split2), k, split) = (i, j ++ v, h, (j, v, q, k, refl), split ∙ (ap (λ z. z ++ v) split2 ∙ append_assoc i j v))

  -- a part and the rest behind it, where the part is said otherwise
  pub in_three : (P Q R S : p.Phrase) → ((w : List (Mark Token)) → Words P l d w → Words (Q ▸ R) l d w) → (w : List (Mark Token)) → Words (P ▸ S) l d w → Words (Q ▸ R ▸ S) l d w
  in_three P Q R S f w (u, v, h, k, split) = let z = f u h in (z.0, z.1 ++ v, z.2, (z.1, v, z.3, k, refl), split ∙ (ap (λ z. z ++ v) z.4 ∙ append_assoc z.0 z.1 v))

  pub out_three : (P Q R S : p.Phrase) → ((w : List (Mark Token)) → Words (Q ▸ R) l d w → Words P l d w) → (w : List (Mark Token)) → Words (Q ▸ R ▸ S) l d w → Words (P ▸ S) l d w
  out_three P Q R S f w (u, v, h, (i, j, q, k, split2), split) = (u ++ i, j, f (u ++ i) (u, i, h, q, refl), k, split ∙ (ap (λ z. u ++ z) split2 ∙ sym (append_assoc u i j)))

  pub plain_in : (e : Expression) (w : List (Mark Token)) → Words (g.expr e) l d w → Words (g.keyword None ▸ g.expr e) l d w
  plain_in e w h = ([], w, refl, h, refl)

  pub plain_out : (e : Expression) (w : List (Mark Token)) → Words (g.keyword None ▸ g.expr e) l d w → Words (g.expr e) l d w
  plain_out e w (u, v, h, k, split) = subst (λ z. Words (g.expr e) l d z) (sym (split ∙ ap (λ z. z ++ v) h)) k

  pub into_args : (m : Mode) (es : List Piece) (w : List (Mark Token)) → (m ≡ keyed) ⊎ (has_name es ≡ true) → Words (more_pieces m es) l d w → Words (g.more_arguments (arguments_of es)) l d w
  into_args m [] w o h = h
  into_args m (value e ∷ es) w o (u, v, q, (i, j, (f, k), rest, split2), split) =
      (u, v, q, in_three (g.expr e) (g.keyword None) (g.expr e) (g.more_arguments (arguments_of es)) (plain_in e) v (i, j, k, into_args m es j o rest, split2), split)
  into_args m (named n e ∷ es) w o (u, v, q, (i, j, (f, k), rest, split2), split) =
      (u, v, q, in_three (g.specifier n e) (g.keyword (Some n)) (g.expr e) (g.more_arguments (arguments_of es)) (keyword_in n e) v (i, j, k, into_args keyed es j (inl refl) rest, split2), split)
  into_args keyed (range a b c at ∷ es) w o (u, v, q, (i, j, (f, k), rest, split2), split) = absurd (false≢true f)
  into_args either (range a b c at ∷ es) w o (u, v, q, (i, j, (f, k), rest, split2), split) = absurd (not_both o (no_name es j rest))
    where
      not_both : (either ≡ keyed) ⊎ (has_name es ≡ true) → has_name es ≡ false → ⊥
      not_both (inl e) n = cc
      not_both (inr t) n = true≢false (sym t ∙ n)
  into_args ranged (range a b c at ∷ es) w o (u, v, q, (i, j, (f, k), rest, split2), split) = absurd (not_both o (no_name es j rest))
    where
      not_both : (ranged ≡ keyed) ⊎ (has_name es ≡ true) → has_name es ≡ false → ⊥
      not_both (inl e) n = cc
      not_both (inr t) n = true≢false (sym t ∙ n)

  abbrev takes_names : Mode → Bool
  takes_names ranged = false
  takes_names m = true

  pub from_args : (m : Mode) → takes_names m ≡ true → (args : Arguments) (w : List (Mark Token)) → Words (g.more_arguments args) l d w → (es : List Piece) × (args ≡ arguments_of es) × (has_name es ≡ g.has_keyword args) × Words (more_pieces m es) l d w
  from_args m t s.no_arguments w h = ([], refl, refl, h)
  from_args m t (s.more_arguments None e args) w (u, v, q, h, split) =
      let k = out_three (g.expr e) (g.keyword None) (g.expr e) (g.more_arguments args) (plain_out e) v h in
      let z = from_args m t args k.1 k.3 in
      (value e ∷ z.0, ap (s.more_arguments None e) z.1, z.2, (u, v, q, (k.0, k.1, (fits_value m, k.2), z.3, k.4), split))
    where
      fits_value : (m : Mode) → fits m (value e) ≡ true
      fits_value keyed = refl
      fits_value m = refl
  from_args ranged t (s.more_arguments (Some n) e args) w h = absurd (false≢true t)
  from_args m t (s.more_arguments (Some n) e args) w (u, v, q, h, split) =
      let k = out_three (g.specifier n e) (g.keyword (Some n)) (g.expr e) (g.more_arguments args) (keyword_out n e) v h in
      let z = from_args keyed refl args k.1 k.3 in
      (named n e ∷ z.0, ap (s.more_arguments (Some n) e) z.1, refl, (u, v, q, (k.0, k.1, (refl, k.2), z.3, k.4), split))
