-- Image selectors are read exactly.
use Rattle.std.proofs.Common.{◌≡◌, ℕ, ◌≤◌, Bool, true, false, List, [], ◌∷◌, ◌++◌, refl, ap, sym, ◌∙◌, subst, append_assoc}
use Rattle.std.proofs.lemmas.Bool.{false≢true}
use Rattle.reader_theory.specs.Words.{Mark, bare}
use Rattle.reader_theory.specs.Readers.{many_by, behind}
use Rattle.reader_theory.specs.Exactness.{Stops, Heads, Exact}
use Rattle.reader_theory.specs.Languages.{Items_by}
use Rattle.reader_theory.proofs.Independent.{Both}
use Rattle.reader_theory.proofs.Sequence.{exact_both}
use Rattle.reader_theory.proofs.Single.{relabel}
use Rattle.reader_theory.proofs.Many.{exact_many_by}
use Rattle.fortran_tokens.specs.declared.token.Sign.TheVariants as sign
use Rattle.fortran_tree.specs.Expressions as s
use Rattle.fortran_tree.specs.Expressions.{Expression, Expressions, Specifiers}
use Rattle.fortran_grammar.specs.Phrases as p
use Rattle.fortran_grammar.specs.Phrases.{Phrase, Words, ◌▸◌}
use Rattle.fortran_grammar.specs.ExpressionGrammar as g
use Rattle.fortran_grammar.specs.Tokens.{Token}
use Rattle.expr_reader.specs.Openings.{goes}
use Rattle.expr_reader.specs.Reading.{Reader}
use Rattle.expr_reader.specs.Tests.{is_sign}
use Rattle.expr_reader.specs.Pieces.{Piece, value, range, named, keyed, named_piece}
use Rattle.expr_reader.specs.Selectors.{Chosen, chosen_phrase, seen, choice, more_choices, choice_in, values_of, specifiers_of, chosen, choices}
use Rattle.expr_reader.proofs.Phrases.{Of, exact_behind_sign, sign_tok}
use Rattle.expr_reader.proofs.Pieces.{exact_piece, exact_named, piece_more, piece_goes, either_of, stops_first, stops_second}

module _ (l d : ℕ) where
  -- a specifier and what stands behind it
  pub spec_in : (n : _) (e : Expression) (P : Phrase) (w : List (Mark Token)) → Words (g.specifier n e ▸ P) l d w → Words (p.name n ▸ p.sign sign.Assign ▸ g.expr e ▸ P) l d w
  spec_in n e P w (u, v, (a, b, h, (i, j, q, k, split3), split2), rest, split) =
      (a, b ++ v, h, (i, j ++ v, q, (j, v, k, rest, refl), ap (λ z. z ++ v) split3 ∙ append_assoc i j v), split ∙ (ap (λ z. z ++ v) split2 ∙ append_assoc a b v))

  pub spec_out : (n : _) (e : Expression) (P : Phrase) (w : List (Mark Token)) → Words (p.name n ▸ p.sign sign.Assign ▸ g.expr e ▸ P) l d w → Words (g.specifier n e ▸ P) l d w
  spec_out n e P w (a, b, h, (i, j, q, (k, m, o, rest, split3), split2), split) =
      (a ++ (i ++ k), m, (a, i ++ k, h, (i, k, q, o, refl), refl), rest, split ∙ (ap (λ z. a ++ z) (split2 ∙ (ap (λ z. i ++ z) split3 ∙ sym (append_assoc i k m))) ∙ sym (append_assoc a (i ++ k) m)))

  only_named : (es : List Piece) (w : List (Mark Token)) → Words (more_choices true es) l d w → (values_of es ≡ s.no_expressions) × Words (g.more_specifiers (specifiers_of es)) l d w
  only_named [] w h = (refl, h)
  only_named (value e ∷ es) w (u, v, q, (i, j, (f, k), rest, split2), split) = absurd (false≢true f)
  only_named (range a b c at ∷ es) w (u, v, q, (i, j, (f, k), rest, split2), split) = absurd (false≢true f)
  only_named (named n e ∷ es) w (u, v, q, (i, j, (f, k), rest, split2), split) =
      let z = only_named es j rest in (z.0, (u, v, q, spec_in n e (g.more_specifiers (specifiers_of es)) v (i, j, k, z.1, split2), split))

  into_choices : (es : List Piece) (w : List (Mark Token)) → Words (more_choices false es) l d w → Words (g.more_exprs (values_of es) ▸ g.more_specifiers (specifiers_of es)) l d w
  into_choices [] w h = ([], [], refl, refl, h)
  into_choices (value e ∷ es) w (u, v, q, (i, j, (f, k), rest, split2), split) =
      let z = into_choices es j rest in
      (u ++ (i ++ z.0), z.1, (u, i ++ z.0, q, (i, z.0, k, z.2, refl), refl), z.3, split ∙ (ap (λ y. u ++ y) (split2 ∙ (ap (λ y. i ++ y) z.4 ∙ sym (append_assoc i z.0 z.1))) ∙ sym (append_assoc u (i ++ z.0) z.1)))
  into_choices (range a b c at ∷ es) w (u, v, q, (i, j, (f, k), rest, split2), split) = absurd (false≢true f)
  into_choices (named n e ∷ es) w (u, v, q, (i, j, (f, k), rest, split2), split) =
      let z = only_named es j rest in
      let nothing_more : Words (g.more_exprs (values_of es)) l d [] = subst (λ y. Words (g.more_exprs y) l d []) (sym z.0) refl in
      ([], w, nothing_more, (u, v, q, spec_in n e (g.more_specifiers (specifiers_of es)) v (i, j, k, z.1, split2), split), refl)

  from_specifiers : (b : Bool) (ps : Specifiers) (w : List (Mark Token)) → Words (g.more_specifiers ps) l d w → (es : List Piece) × (values_of es ≡ s.no_expressions) × (ps ≡ specifiers_of es) × Words (more_choices b es) l d w
  from_specifiers b s.no_specifiers w h = ([], refl, refl, h)
  from_specifiers b (s.more_specifiers n e ps) w (u, v, q, h, split) =
      let k = spec_out n e (g.more_specifiers ps) v h in
      let z = from_specifiers true ps k.1 k.3 in
      (named n e ∷ z.0, z.1, ap (s.more_specifiers n e) z.2, (u, v, q, (k.0, k.1, by_state b k.0 k.2, z.3, k.4), split))
    where
      by_state : (b : Bool) (w : List (Mark Token)) → Words (g.specifier n e) l d w → Words (choice b (named n e)) l d w
      by_state true w h = (refl, h)
      by_state false w h = (refl, h)

  from_choices : (xs : Expressions) (ps : Specifiers) (u v : List (Mark Token)) → Words (g.more_exprs xs) l d u → Words (g.more_specifiers ps) l d v → (es : List Piece) × (xs ≡ values_of es) × (ps ≡ specifiers_of es) × Words (more_choices false es) l d (u ++ v)
  from_choices s.no_expressions ps u v h k =
      let z = from_specifiers false ps v k in (z.0, sym z.1, z.2, subst (λ y. Words (more_choices false z.0) l d (y ++ v)) (sym h) z.3)
  from_choices (s.more_expressions e xs) ps u v (a, b, q, (i, j, h, rest, split2), split) k =
      let z = from_choices xs ps j v rest k in
      (value e ∷ z.0, ap (s.more_expressions e) z.1, z.2, (a, i ++ (j ++ v), q, (i, j ++ v, (refl, h), z.3, refl), ap (λ y. y ++ v) split ∙ (append_assoc a b v ∙ ap (λ y. a ++ y) (ap (λ y. y ++ v) split2 ∙ append_assoc i j v))))

module _ (limit level : ℕ) (here : level ≤ limit) (r : Reader Expression) (x : Exact (Of g.expr limit level) (goes 0) r) where
  abbrev first_more : Token → Bool
  first_more = piece_more limit level here r x

  abbrev pub selector_more : Token → Bool
  selector_more = either_of (is_sign sign.Comma) first_more

  abbrev Comma_choice : Bool → Piece → List (Mark Token) → Type 0
  Comma_choice b a w = Words (p.sign sign.Comma ▸ choice b a) limit level w

  exact_choice : (b : Bool) → Exact (Of (choice b) limit level) first_more (choice_in b r)
  exact_choice false = exact_piece limit level here r x keyed
  exact_choice true = relabel (λ a w. (n : _) × (e : Expression) × (a ≡ named n e) × Words (g.specifier n e) limit level w) (Of (choice true) limit level) (named_piece r) (goes 0) first_more (exact_named limit level here r x) into from (piece_goes limit level here r x)
    where
      into : (a : Piece) (w : List (Mark Token)) → (n : _) × (e : Expression) × (a ≡ named n e) × Words (g.specifier n e) limit level w → Words (choice true a) limit level w
      into a w (n, e, is, h) = subst (λ z. Words (choice true z) limit level w) (sym is) (refl, h)

      from : (a : Piece) (w : List (Mark Token)) → Words (choice true a) limit level w → (n : _) × (e : Expression) × (a ≡ named n e) × Words (g.specifier n e) limit level w
      from (value e) w h = absurd (false≢true h.0)
      from (range a b c at) w h = absurd (false≢true h.0)
      from (named n e) w h = (n, e, refl, h.1)

  comma_goes : (y : Token) → is_sign sign.Comma y ≡ true → first_more y ≡ false
  comma_goes y e = subst (λ k. first_more (record { tok = k; at = y.at }) ≡ false) (sym (sign_tok sign.Comma y.tok e)) refl

  exact_more : (b : Bool) → Exact (λ es w. Items_by Comma_choice seen es b w) selector_more (many_by (is_sign sign.Comma) (λ b. behind (is_sign sign.Comma) (choice_in b r)) seen b)
  exact_more = exact_many_by Comma_choice (λ b. behind (is_sign sign.Comma) (choice_in b r)) seen (is_sign sign.Comma) first_more selector_more
      (λ b. exact_behind_sign limit level here (choice b) first_more (choice_in b r) (exact_choice b) sign.Comma)
      (λ b a w (u, v, (at, q), l, split). subst (Heads (is_sign sign.Comma)) (sym (split ∙ ap (λ z. z ++ v) q)) refl)
      (stops_second (is_sign sign.Comma) first_more) (stops_first (is_sign sign.Comma) first_more) comma_goes

  into_more : (b : Bool) (es : List Piece) (w : List (Mark Token)) → Items_by Comma_choice seen es b w → Words (more_choices b es) limit level w
  into_more b [] w h = h
  into_more b (a ∷ es) w (u, v, (i, j, q, l, split2), rest, split) = (i, j ++ v, q, (j, v, l, into_more (seen b a) es v rest, refl), split ∙ (ap (λ z. z ++ v) split2 ∙ append_assoc i j v))

  from_more : (b : Bool) (es : List Piece) (w : List (Mark Token)) → Words (more_choices b es) limit level w → Items_by Comma_choice seen es b w
  from_more b [] w h = h
  from_more b (a ∷ es) w (u, v, q, (i, j, l, rest, split2), split) = (u ++ i, j, (u, i, q, l, refl), from_more (seen b a) es j rest, split ∙ (ap (λ z. u ++ z) split2 ∙ sym (append_assoc u i j)))

  apart : (es : List Piece) (w : List (Mark Token)) (rest : List Token) → Items_by Comma_choice seen es false w → Stops selector_more rest → Stops (goes 0) (bare w ++ rest)
  apart [] w rest h st = subst (λ z. Stops (goes 0) (bare z ++ rest)) (sym h) (piece_goes limit level here r x rest (stops_second (is_sign sign.Comma) first_more rest st))
  apart (a ∷ es) w rest (i, k, (u, v, (at, q), l, split2), more, split) st =
      subst (λ z. Stops (goes 0) (bare z ++ rest)) (sym (split ∙ ap (λ z. z ++ k) (split2 ∙ ap (λ z. z ++ v) q))) refl

  abbrev Chosen_by : Chosen → List (Mark Token) → Type 0
  Chosen_by = Both chosen (Of g.expr limit level) (λ es w. Items_by Comma_choice seen es false w)

  pub exact_choices : Exact (Of chosen_phrase limit level) selector_more (choices r)
  exact_choices = relabel Chosen_by (Of chosen_phrase limit level) (choices r) selector_more selector_more
      (exact_both chosen (Of g.expr limit level) (λ es w. Items_by Comma_choice seen es false w) r _ (goes 0) selector_more x (exact_more false) apart)
      into from (λ rest h. h)
    where
      into : (c : Chosen) (w : List (Mark Token)) → Chosen_by c w → Words (chosen_phrase c) limit level w
      into c w (e, es, is, (u, v, h, k, split)) =
          let z = into_choices limit level es v (into_more false es v k) in
          subst (λ y. Words (chosen_phrase y) limit level w) (sym is) (u ++ z.0, z.1, (u, z.0, h, z.2, refl), z.3, split ∙ (ap (λ y. u ++ y) z.4 ∙ sym (append_assoc u z.0 z.1)))

      from : (c : Chosen) (w : List (Mark Token)) → Words (chosen_phrase c) limit level w → Chosen_by c w
      from (s.no_expressions, ps) w (u, v, h, k, split) = absurd (false≢true h.0)
      from (s.more_expressions e xs, ps) w (u, v, (i, j, h, q, split2), k, split) =
          let z = from_choices limit level xs ps j v q k in
          (e, z.0, ap (λ y. (s.more_expressions e y, ps)) z.1 ∙ ap (λ y. (s.more_expressions e (values_of z.0), y)) z.2, (i, j ++ v, h, from_more false z.0 (j ++ v) z.3, split ∙ (ap (λ y. y ++ v) split2 ∙ append_assoc i j v)))
