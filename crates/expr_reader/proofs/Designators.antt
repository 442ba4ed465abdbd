-- Designators and assignments are read exactly.
use Rattle.std.proofs.Common.{◌≡◌, ℕ, suc, ◌≤◌, Bool, List, [], ◌∷◌, ◌++◌, Option, Some, None, inl, inr, refl, ap, sym, ◌∙◌, subst, append_assoc}
use Rattle.std.proofs.lemmas.Bool.{false≢true}
use Rattle.reader_theory.specs.Words.{Mark, bare}
use Rattle.reader_theory.specs.Readers.{both, optional, behind, pair}
use Rattle.reader_theory.specs.Exactness.{Stops, never, Heads, Exact}
use Rattle.reader_theory.specs.Languages.{Optional, By}
use Rattle.reader_theory.proofs.Independent.{Both}
use Rattle.reader_theory.proofs.Marks.{never_stops}
use Rattle.reader_theory.proofs.Sequence.{exact_both, exact_by}
use Rattle.reader_theory.proofs.Single.{relabel}
use Rattle.reader_theory.proofs.Choice.{exact_optional}
use Rattle.fortran_tokens.specs.declared.token.Sign.TheVariants as sign
use Rattle.fortran_tree.specs.declared.name.Name.{Name}
use Rattle.fortran_tree.specs.Expressions as s
use Rattle.fortran_tree.specs.Expressions.{Expression, Designator, SectionSubscripts, ImageSelector}
use Rattle.fortran_tree.specs.Statements as t
use Rattle.fortran_tree.specs.Statements.{ActionStatement}
use Rattle.fortran_grammar.specs.Tokens.{Token}
use Rattle.fortran_grammar.specs.Phrases as p
use Rattle.fortran_grammar.specs.Phrases.{Words, ◌▸◌}
use Rattle.fortran_grammar.specs.ExpressionGrammar as g
use Rattle.fortran_grammar.specs.ActionGrammar as a
use Rattle.expr_reader.specs.Openings.{goes}
use Rattle.expr_reader.specs.Reading.{Reader}
use Rattle.expr_reader.specs.Tests.{is_sign, a_name}
use Rattle.expr_reader.specs.Pieces.{Piece, value, range, named, ranged, allowed, more_pieces, piece_in, pieces_after, next_mode}
use Rattle.expr_reader.specs.Selectors.{Chosen, chosen_phrase}
use Rattle.expr_reader.specs.Full.{is_square, selector_of}
use Rattle.expr_reader.specs.Designators.{subscript_pieces, subscript_list, subscripts_in_brackets, designator_of, designator_reader, assignment_reader}
use Rattle.expr_reader.proofs.Phrases.{Of, exact_name, exact_behind_sign}
use Rattle.expr_reader.proofs.Pieces.{exact_piece, piece_more}
use Rattle.expr_reader.proofs.Lists.{exact_after, apart, more, into_subs, from_subs, no_name}
use Rattle.expr_reader.proofs.Full.{no_round, no_square, square_no_round}

module _ (limit level : ℕ) (here : level ≤ limit) (r : Reader Expression) (x : Exact (Of g.expr limit level) (goes 0) r) where
  abbrev pub list_more : Token → Bool
  list_more = more limit level here r x

  abbrev Ranged_pieces : List Piece → List (Mark Token) → Type 0
  Ranged_pieces = By (λ y es. y ∷ es) (Of (allowed ranged) limit level) (λ y es w. Words (more_pieces (next_mode ranged y) es) limit level w)

  pub exact_subscript_list : Exact (Of subscript_pieces limit level) list_more (subscript_list r)
  exact_subscript_list = relabel Ranged_pieces (Of subscript_pieces limit level) (subscript_list r) list_more list_more
      (exact_by (λ y es. y ∷ es) (Of (allowed ranged) limit level) (λ y es w. Words (more_pieces (next_mode ranged y) es) limit level w) (piece_in ranged r) (λ y. pieces_after r (next_mode ranged y)) (piece_more limit level here r x) list_more
      (exact_piece limit level here r x ranged) (λ y. exact_after limit level here r x (next_mode ranged y)) (λ y. apart limit level here r x (next_mode ranged y)))
      (λ es w (y, ys, e, h). subst (λ k. Words (subscript_pieces k) limit level w) (sym e) h) from (λ rest h. h)
    where
      from : (es : List Piece) (w : List (Mark Token)) → Words (subscript_pieces es) limit level w → Ranged_pieces es w
      from [] w h = absurd (false≢true h.0)
      from (y ∷ ys) w h = (y, ys, refl, h)

module _ (limit level : ℕ) (here : level ≤ limit) (brackets : Reader (List Piece)) (selector : Reader Chosen) (y : Exact (λ ps w. Words (p.round (subscript_pieces ps)) limit level w) never brackets) (z : Exact (λ c w. Words (p.square (chosen_phrase c)) limit level w) never selector) where
  abbrev Brackets : List Piece → List (Mark Token) → Type 0
  Brackets ps w = Words (p.round (subscript_pieces ps)) limit level w

  abbrev Chosen_at : Chosen → List (Mark Token) → Type 0
  Chosen_at c w = Words (p.square (chosen_phrase c)) limit level w

  abbrev Front : Name × Option (List Piece) → List (Mark Token) → Type 0
  Front = Both pair (Of p.name limit level) (Optional Brackets)

  square_heads : (c : Chosen) (w : List (Mark Token)) → Chosen_at c w → Heads is_square w
  square_heads c w (inl (u, v, (at, q), h, split)) = subst (Heads is_square) (sym (split ∙ ap (λ k. k ++ v) q)) refl
  square_heads c w (inr (u, v, (at, q), h, split)) = subst (Heads is_square) (sym (split ∙ ap (λ k. k ++ v) q)) refl

  selector_apart : (c : Option Chosen) (w : List (Mark Token)) (rest : List Token) → Optional Chosen_at c w → Stops (goes 8) rest → Stops (is_sign sign.OpenRound) (bare w ++ rest)
  selector_apart None w rest h st = subst (λ k. Stops (is_sign sign.OpenRound) (bare k ++ rest)) (sym h) (no_round rest st)
  selector_apart (Some c) w rest h st = square_no_round w rest (square_heads c w h)

  abbrev Parted : Designator → List (Mark Token) → Type 0
  Parted = Both designator_of Front (Optional Chosen_at)

  select_in : (c : Option Chosen) (w : List (Mark Token)) → Optional Chosen_at c w → Words (g.image_selector (selector_of c)) limit level w
  select_in None w h = h
  select_in (Some c) w h = h

  select_out : (c : ImageSelector) (w : List (Mark Token)) → Words (g.image_selector c) limit level w → (o : Option Chosen) × (c ≡ selector_of o) × Optional Chosen_at o w
  select_out s.no_image_selector w h = (None, refl, h)
  select_out (s.image_selector es ps) w h = (Some (es, ps), refl, h)

  subscripts_in : (b : Option (List Piece)) (w : List (Mark Token)) → Optional Brackets b w → Words (g.section_subscripts (subscripts_in_brackets b)) limit level w
  subscripts_in None w h = h
  subscripts_in (Some []) w (u, v, o, (i, j, h, c, split2), split) = absurd (false≢true h.0)
  subscripts_in (Some (value e ∷ es)) w (u, v, o, (i, j, (k, m, (f, h), q, split3), c, split2), split) =
      (u, v, o, (i, j, (k, m, h, into_subs limit (suc level) ranged es m (no_name limit (suc level) es m q) q, split3), c, split2), split)
  subscripts_in (Some (range b1 b2 b3 at ∷ es)) w (u, v, o, (i, j, (k, m, (f, h), q, split3), c, split2), split) =
      (u, v, o, (i, j, (k, m, h, into_subs limit (suc level) ranged es m (no_name limit (suc level) es m q) q, split3), c, split2), split)
  subscripts_in (Some (named n e ∷ es)) w (u, v, o, (i, j, (k, m, (f, h), q, split3), c, split2), split) = absurd (false≢true f)

  subscripts_out : (xs : SectionSubscripts) (w : List (Mark Token)) → Words (g.section_subscripts xs) limit level w → (b : Option (List Piece)) × (xs ≡ subscripts_in_brackets b) × Optional Brackets b w
  subscripts_out s.no_section_subscripts w h = (None, refl, h)
  subscripts_out (s.more_section_subscripts (s.subscript e) xs) w (u, v, o, (i, j, (k, m, h, q, split3), c, split2), split) =
      let d = from_subs limit (suc level) ranged refl xs m q in
      (Some (value e ∷ d.0), ap (s.more_section_subscripts (s.subscript e)) d.1, (u, v, o, (i, j, (k, m, (refl, h), d.3, split3), c, split2), split))
  subscripts_out (s.more_section_subscripts (s.triplet b1 b2 b3 at) xs) w (u, v, o, (i, j, (k, m, h, q, split3), c, split2), split) =
      let d = from_subs limit (suc level) ranged refl xs m q in
      (Some (range b1 b2 b3 at ∷ d.0), ap (s.more_section_subscripts (s.triplet b1 b2 b3 at)) d.1, (u, v, o, (i, j, (k, m, (refl, h), d.3, split3), c, split2), split))

  pub exact_designator : Exact (Of g.designator limit level) (goes 8) (designator_reader brackets selector)
  exact_designator = relabel Parted (Of g.designator limit level) (designator_reader brackets selector) (goes 8) (goes 8)
      (exact_both designator_of Front (Optional Chosen_at) (both pair a_name (optional (is_sign sign.OpenRound) brackets)) (optional is_square selector) (is_sign sign.OpenRound) (goes 8)
      (exact_both pair (Of p.name limit level) (Optional Brackets) a_name (optional (is_sign sign.OpenRound) brackets) never (is_sign sign.OpenRound) (exact_name limit level here)
      (exact_optional (is_sign sign.OpenRound) Brackets brackets never y (is_sign sign.OpenRound) (λ ps w (u, v, (at, q), h, split). subst (Heads (is_sign sign.OpenRound)) (sym (split ∙ ap (λ k. k ++ v) q)) refl) (λ rest h. never_stops rest) (λ rest h. h)) (λ b w rest h st. never_stops (bare w ++ rest)))
      (exact_optional is_square Chosen_at selector never z (goes 8) square_heads (λ rest h. never_stops rest) no_square) selector_apart)
      into from (λ rest h. h)
    where
      into : (d : Designator) (w : List (Mark Token)) → Parted d w → Words (g.designator d) limit level w
      into d w (nb, c, is, (u, v, (n, b, same, (i, j, hn, hb, split2)), k, split)) =
          subst (λ q. Words (g.designator q) limit level w) (sym (is ∙ ap (λ q. designator_of q c) same))
          (i, j ++ v, hn, (j, v, subscripts_in b j hb, select_in c v k, refl), split ∙ (ap (λ q. q ++ v) split2 ∙ append_assoc i j v))

      from : (d : Designator) (w : List (Mark Token)) → Words (g.designator d) limit level w → Parted d w
      from (s.part_ref n xs c) w (u, v, hn, (i, j, h, k, split2), split) =
          let b = subscripts_out xs i h in
          let q = select_out c j k in
          ((n, b.0), q.0, ap (λ m. s.part_ref n m c) b.1 ∙ ap (s.part_ref n (subscripts_in_brackets b.0)) q.1, (u ++ i, j, (n, b.0, refl, (u, i, hn, b.2, refl)), q.2, split ∙ (ap (λ m. u ++ m) split2 ∙ sym (append_assoc u i j))))

  -- designator "=" expr
  module _ (r : Reader Expression) (x : Exact (Of g.expr limit level) (goes 0) r) where
    pub exact_assignment : Exact (λ e w. (d : Designator) × (v : Expression) × (e ≡ t.assignment d v) × Words (a.action_statement (t.assignment d v)) limit level w) (goes 0) (assignment_reader (designator_reader brackets selector) r)
    exact_assignment = relabel (Both t.assignment (Of g.designator limit level) (λ v w. Words (p.sign sign.Assign ▸ g.expr v) limit level w)) (λ e w. (d : Designator) × (v : Expression) × (e ≡ t.assignment d v) × Words (a.action_statement (t.assignment d v)) limit level w) (assignment_reader (designator_reader brackets selector) r) (goes 0) (goes 0)
        (exact_both t.assignment (Of g.designator limit level) (λ v w. Words (p.sign sign.Assign ▸ g.expr v) limit level w) (designator_reader brackets selector) (behind (is_sign sign.Assign) r) (goes 8) (goes 0) exact_designator (exact_behind_sign limit level here g.expr (goes 0) r x sign.Assign)
        (λ v w rest (i, j, (at, q), h, split) st. subst (λ k. Stops (goes 8) (bare k ++ rest)) (sym (split ∙ ap (λ k. k ++ j) q)) refl))
        (λ e w h. h) (λ e w h. h) (λ rest h. h)
