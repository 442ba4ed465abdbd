-- Lists of objects with specifiers behind them are read exactly.
use Rattle.std.proofs.Common.{◌≡◌, ℕ, ◌+◌, ◌≤◌, Bool, true, false, cond, List, [], ◌∷◌, ◌++◌, inl, inr, refl, ap, sym, ◌∙◌, subst, arith, append_assoc, Option, Some, None}
use Rattle.std.proofs.lemmas.Bool.{false≢true, le-ltb}
use Rattle.caf_base.specs.declared.place.Pos.{Pos}
use Rattle.reader_theory.specs.Words.{Mark, bare}
use Rattle.reader_theory.specs.Levels.{mark}
use Rattle.reader_theory.specs.Readers.{both, mapped, behind, pair}
use Rattle.reader_theory.specs.Exactness.{Stops, never, Heads, Eats}
use Rattle.reader_theory.specs.Languages.{Or, Items_by}
use Rattle.reader_theory.proofs.Ahead.{exact_ahead}
use Rattle.reader_theory.proofs.Many.{exact_many_by}
use Rattle.reader_theory.proofs.Single.{relabel}
use Rattle.fortran_tokens.specs.declared.token.Sign.TheVariants as sign
use Rattle.fortran_tree.specs.declared.expr.NumberKind.TheVariants as kinds
use Rattle.fortran_tree.specs.Expressions as e
use Rattle.fortran_tree.specs.Expressions.{Expression, Specifiers}
use Rattle.fortran_tree.specs.Statements.{Dimension, CoarraySpec}
use Rattle.fortran_grammar.specs.Tokens as t
use Rattle.fortran_grammar.specs.Tokens.{Tok, Token}
use Rattle.fortran_grammar.specs.Phrases as p
use Rattle.fortran_grammar.specs.Phrases.{Phrase, Words, ◌▸◌}
use Rattle.fortran_grammar.specs.ExpressionGrammar as g
use Rattle.fortran_grammar.specs.ActionGrammar as a
use Rattle.expr_reader.specs.Openings.{goes}
use Rattle.expr_reader.specs.Tests.{is_sign, is_word, name_of, a_name}
use Rattle.expr_reader.specs.Full.{is_square}
use Rattle.statement_reader.specs.Families.{Family}
use Rattle.statement_reader.specs.Actions.{Assigned, assigned, a_specifier}
use Rattle.statement_reader.specs.Dimensions.{an_allocation}
use Rattle.statement_reader.specs.Objects.{Choice, object, specifier, seen, choice, more_choices, a_choice, further_choices, objects_of, specifiers_of, objects_and_specifiers, some_objects}
use Rattle.expr_reader.proofs.Phrases.{Of, exact_behind_sign, word_tok}
use Rattle.expr_reader.proofs.Pieces.{either_of, stops_first, stops_second}
use Rattle.expr_reader.proofs.Selectors.{spec_in, spec_out}
use Rattle.expr_reader.proofs.Eating.{eats}
use Rattle.expr_reader.proofs.Seconds.{assigns, no_second, by_second}
use Rattle.statement_reader.proofs.Families.{Everywhere, Made, each_name, each_made, each_mapped, each_pair, no_sign, sign_heads, sign_stops, heads_stop}
use Rattle.statement_reader.proofs.Actions.{each_specifier, specifier_heads}
use Rattle.statement_reader.proofs.Dimensions.{each_allocation, shape_more, square_heads}

-- a specifier may be as short as three tokens
eats_specifier : (A : Type 0) (limit left level : ℕ) → level + left ≡ limit → Eats {A = Choice A} is_word (mapped specifier (a_specifier left))
eats_specifier A limit left level h y u i k = let here : level ≤ limit = omega arith in let flat = le-ltb limit level here in
    eats (Made specifier assigned limit level) is_word (goes 0) (mapped specifier (a_specifier left)) (each_made specifier assigned (goes 0) a_specifier each_specifier limit left level h)
    (λ c w (q, is, o). specifier_heads limit level q w o) y u _ (specifier (name_of y, e.number 0 kinds.Unstated y.at)) (mark limit level y ∷ mark limit level (record { tok = t.sign sign.Assign; at = y.at }) ∷ mark limit level (record { tok = t.integer 0 kinds.Unstated; at = y.at }) ∷ [])
    ((name_of y, e.number 0 kinds.Unstated y.at), refl, (mark limit level y ∷ [], _ ∷ _ ∷ [], ap (λ k. mark limit level (record { tok = k; at = y.at }) ∷ []) (word_tok y.tok i), (_ ∷ [], _ ∷ [], (y.at, refl), refl, refl), refl))
    (flat, (flat, (flat, tt))) refl k

specifier_pair : (l d : ℕ) (q : Assigned) (w : List (Mark Token)) (rest : List Token) → Words (assigned q) l d w → assigns (bare w ++ rest) ≡ true
specifier_pair l d q w rest (u, v, h, (i, j, (at, c), k, split2), split) =
    subst (λ z. assigns (bare z ++ rest) ≡ true) (sym (split ∙ (ap (λ z. z ++ v) h ∙ ap (λ z. mark l d (record { tok = t.word q.0.text; at = q.0.at }) ∷ z) (split2 ∙ ap (λ z. z ++ j) c)))) refl

module _ {A : Type 0} (X : A → Phrase) (more : Token → Bool) (r : Family A) (x : Everywhere (Of X) more r) (heads : (l d : ℕ) (b : A) (w : List (Mark Token)) → Words (X b) l d w → Heads is_word w) (unassigned : (l d : ℕ) (b : A) (w : List (Mark Token)) (rest : List Token) → Words (X b) l d w → Stops (is_sign sign.Assign) rest → assigns (bare w ++ rest) ≡ false) (alone : (l d : ℕ) (y : Token) → is_word y ≡ true → (b : A) × Words (X b) l d (mark l d y ∷ [])) (comma : (at : Pos) → more (record { tok = t.sign sign.Comma; at = at }) ≡ false) where
  abbrev pub object_more : Token → Bool
  object_more = either_of (is_sign sign.Assign) (either_of more (goes 0))

  to_object : (rest : List Token) → Stops object_more rest → Stops more rest
  to_object rest st = stops_first more (goes 0) rest (stops_second (is_sign sign.Assign) (either_of more (goes 0)) rest st)

  to_specifier : (rest : List Token) → Stops object_more rest → Stops (goes 0) rest
  to_specifier rest st = stops_second more (goes 0) rest (stops_second (is_sign sign.Assign) (either_of more (goes 0)) rest st)

  eats_object : (limit left level : ℕ) → level + left ≡ limit → Eats is_word (mapped object (r left))
  eats_object limit left level h y u i k = let here : level ≤ limit = omega arith in let s = alone limit level y i in
      eats (Made object X limit level) is_word more (mapped object (r left)) (each_made object X more r x limit left level h) (λ c w (q, is, o). heads limit level q w o) y u [] (object s.0) (mark limit level y ∷ []) (s.0, refl, s.1) (le-ltb limit level here, tt) refl k

  each_first : Everywhere (Of (choice X false)) object_more (a_choice r false)
  each_first limit left level h = relabel (Or (Made specifier assigned limit level) (Made object X limit level)) (Of (choice X false) limit level) (a_choice r false left) object_more object_more
      (exact_ahead is_word (is_sign sign.Assign) (Made specifier assigned limit level) (Made object X limit level) (mapped specifier (a_specifier left)) (mapped object (r left)) (goes 0) more
      (each_made specifier assigned (goes 0) a_specifier each_specifier limit left level h) (each_made object X more r x limit left level h) object_more
      (λ c w rest (q, is, o). specifier_pair limit level q w rest o)
      (λ c w rest (q, is, o) st. unassigned limit level q w rest o (stops_first (is_sign sign.Assign) (either_of more (goes 0)) rest st))
      to_specifier to_object (eats_specifier A limit left level h) (eats_object limit left level h))
      into from (λ rest o. o)
    where
      into : (c : Choice A) (w : List (Mark Token)) → Or (Made specifier assigned limit level) (Made object X limit level) c w → Words (choice X false c) limit level w
      into c w (inl (q, is, o)) = subst (λ z. Words (choice X false z) limit level w) (sym is) o
      into c w (inr (q, is, o)) = subst (λ z. Words (choice X false z) limit level w) (sym is) o

      from : (c : Choice A) (w : List (Mark Token)) → Words (choice X false c) limit level w → Or (Made specifier assigned limit level) (Made object X limit level) c w
      from (object q) w o = inr (q, refl, o)
      from (specifier q) w o = inl (q, refl, o)

  each_second : Everywhere (Of (choice X true)) object_more (a_choice r true)
  each_second limit left level h = relabel (Made specifier assigned limit level) (Of (choice X true) limit level) (a_choice r true left) (goes 0) object_more
      (each_made specifier assigned (goes 0) a_specifier each_specifier limit left level h)
      (λ c w (q, is, o). subst (λ z. Words (choice X true z) limit level w) (sym is) o) from to_specifier
    where
      from : (c : Choice A) (w : List (Mark Token)) → Words (choice X true c) limit level w → Made specifier assigned limit level c w
      from (object q) w o = absurd (false≢true o.0)
      from (specifier q) w o = (q, refl, o)

  each_choice : (b : Bool) → Everywhere (Of (choice X b)) object_more (a_choice r b)
  each_choice false = each_first
  each_choice true = each_second

  -- what goes on behind objects and specifiers
  abbrev pub objects_more : Token → Bool
  objects_more = either_of (is_sign sign.Comma) object_more

  comma_ends : (at : Pos) → object_more (record { tok = t.sign sign.Comma; at = at }) ≡ false
  comma_ends at = ap (λ b. cond b true false) (comma at)

  abbrev Comma_choice : ℕ → ℕ → Bool → Choice A → List (Mark Token) → Type 0
  Comma_choice l d b c w = Words (p.sign sign.Comma ▸ choice X b c) l d w

  each_choices : Everywhere (Of (more_choices X false)) objects_more (further_choices r)
  each_choices limit left level h = let here : level ≤ limit = omega arith in
      relabel (λ cs w. Items_by (Comma_choice limit level) seen cs false w) (Of (more_choices X false) limit level) (further_choices r left) objects_more objects_more
      (exact_many_by (Comma_choice limit level) (λ b. behind (is_sign sign.Comma) (a_choice r b left)) seen (is_sign sign.Comma) object_more objects_more
      (λ b. exact_behind_sign limit level here (choice X b) object_more (a_choice r b left) (each_choice b limit left level h) sign.Comma)
      (λ b c w o. sign_heads sign.Comma (choice X b c) limit level w (is_sign sign.Comma) (λ at. refl) o)
      (stops_second (is_sign sign.Comma) object_more) (stops_first (is_sign sign.Comma) object_more) (no_sign sign.Comma object_more comma_ends) false)
      (into false) (from false) (λ rest o. o)
    where
      into : (b : Bool) (cs : List (Choice A)) (w : List (Mark Token)) → Items_by (Comma_choice limit level) seen cs b w → Words (more_choices X b cs) limit level w
      into b [] w o = o
      into b (c ∷ cs) w (u, v, (i, j, q, l, split2), rest, split) = (i, j ++ v, q, (j, v, l, into (seen b c) cs v rest, refl), split ∙ (ap (λ z. z ++ v) split2 ∙ append_assoc i j v))

      from : (b : Bool) (cs : List (Choice A)) (w : List (Mark Token)) → Words (more_choices X b cs) limit level w → Items_by (Comma_choice limit level) seen cs b w
      from b [] w o = o
      from b (c ∷ cs) w (u, v, q, (i, j, l, rest, split2), split) = (u ++ i, j, (u, i, q, l, refl), from (seen b c) cs j rest, split ∙ (ap (λ z. u ++ z) split2 ∙ sym (append_assoc u i j)))

  -- the grammar's two lists
  module _ (l d : ℕ) where
    only_specifiers : (cs : List (Choice A)) (w : List (Mark Token)) → Words (more_choices X true cs) l d w → (objects_of cs ≡ []) × Words (g.more_specifiers (specifiers_of cs)) l d w
    only_specifiers [] w h = (refl, h)
    only_specifiers (object b ∷ cs) w (u, v, q, (i, j, k, rest, split2), split) = absurd (false≢true k.0)
    only_specifiers (specifier c ∷ cs) w (u, v, q, (i, j, k, rest, split2), split) =
        let z = only_specifiers cs j rest in (z.0, (u, v, q, spec_in l d c.0 c.1 (g.more_specifiers (specifiers_of cs)) v (i, j, k, z.1, split2), split))

    into_choices : (cs : List (Choice A)) (w : List (Mark Token)) → Words (more_choices X false cs) l d w → Words (p.followed X (objects_of cs) ▸ g.more_specifiers (specifiers_of cs)) l d w
    into_choices [] w h = ([], [], refl, refl, h)
    into_choices (object b ∷ cs) w (u, v, q, (i, j, k, rest, split2), split) =
        let z = into_choices cs j rest in
        (u ++ (i ++ z.0), z.1, (u, i ++ z.0, q, (i, z.0, k, z.2, refl), refl), z.3, split ∙ (ap (λ y. u ++ y) (split2 ∙ (ap (λ y. i ++ y) z.4 ∙ sym (append_assoc i z.0 z.1))) ∙ sym (append_assoc u (i ++ z.0) z.1)))
    into_choices (specifier c ∷ cs) w (u, v, q, (i, j, k, rest, split2), split) =
        let z = only_specifiers cs j rest in
        let nothing_more : Words (p.followed X (objects_of cs)) l d [] = subst (λ y. Words (p.followed X y) l d []) (sym z.0) refl in
        ([], w, nothing_more, (u, v, q, spec_in l d c.0 c.1 (g.more_specifiers (specifiers_of cs)) v (i, j, k, z.1, split2), split), refl)

    from_specifiers : (b : Bool) (ps : Specifiers) (w : List (Mark Token)) → Words (g.more_specifiers ps) l d w → (cs : List (Choice A)) × (objects_of cs ≡ []) × (ps ≡ specifiers_of cs) × Words (more_choices X b cs) l d w
    from_specifiers b e.no_specifiers w h = ([], refl, refl, h)
    from_specifiers b (e.more_specifiers n z ps) w (u, v, q, h, split) =
        let k = spec_out l d n z (g.more_specifiers ps) v h in
        let s = from_specifiers true ps k.1 k.3 in
        (specifier (n, z) ∷ s.0, s.1, ap (e.more_specifiers n z) s.2, (u, v, q, (k.0, k.1, k.2, s.3, k.4), split))

    from_choices : (bs : List A) (ps : Specifiers) (u v : List (Mark Token)) → Words (p.followed X bs) l d u → Words (g.more_specifiers ps) l d v → (cs : List (Choice A)) × (bs ≡ objects_of cs) × (ps ≡ specifiers_of cs) × Words (more_choices X false cs) l d (u ++ v)
    from_choices [] ps u v h k = let z = from_specifiers false ps v k in (z.0, sym z.1, z.2, subst (λ y. Words (more_choices X false z.0) l d (y ++ v)) (sym h) z.3)
    from_choices (b ∷ bs) ps u v (m, n, q, (i, j, h, rest, split2), split) k =
        let z = from_choices bs ps j v rest k in
        (object b ∷ z.0, ap (λ y. b ∷ y) z.1, z.2, (m, i ++ (j ++ v), q, (i, j ++ v, h, z.3, refl), ap (λ y. y ++ v) split ∙ (append_assoc m n v ∙ ap (λ y. m ++ y) (ap (λ y. y ++ v) split2 ∙ append_assoc i j v))))

    into_objects : (q : A × List (Choice A)) (w : List (Mark Token)) → Words (X q.0 ▸ more_choices X false q.1) l d w → Words (p.listed X (q.0 ∷ objects_of q.1) ▸ g.more_specifiers (specifiers_of q.1)) l d w
    into_objects q w (u, v, h, k, split) =
        let z = into_choices q.1 v k in (u ++ z.0, z.1, (u, z.0, h, z.2, refl), z.3, split ∙ (ap (λ y. u ++ y) z.4 ∙ sym (append_assoc u z.0 z.1)))

    from_objects : (q : List A × Specifiers) (w : List (Mark Token)) → Words (p.listed X q.0 ▸ g.more_specifiers q.1) l d w → (c : A × List (Choice A)) × (q ≡ objects_and_specifiers c) × Words (X c.0 ▸ more_choices X false c.1) l d w
    from_objects ([], ps) w (u, v, h, k, split) = absurd (false≢true h.0)
    from_objects (b ∷ bs, ps) w (u, v, (i, j, h, rest, split2), k, split) =
        let z = from_choices bs ps j v rest k in
        ((b, z.0), ap (λ y. (b ∷ y, ps)) z.1 ∙ ap (λ y. (b ∷ objects_of z.0, y)) z.2, (i, j ++ v, h, z.3, split ∙ (ap (λ y. y ++ v) split2 ∙ append_assoc i j v)))

  choices_apart : (l d : ℕ) (cs : List (Choice A)) (w : List (Mark Token)) (rest : List Token) → Words (more_choices X false cs) l d w → Stops objects_more rest → Stops more (bare w ++ rest)
  choices_apart l d [] w rest h st = subst (λ z. Stops more (bare z ++ rest)) (sym h) (to_object rest (stops_second (is_sign sign.Comma) object_more rest st))
  choices_apart l d (c ∷ cs) w rest h st = sign_stops sign.Comma (choice X false c ▸ more_choices X (seen false c) cs) l d w rest more comma h

  pub each_objects : Everywhere (Of (λ q. p.listed X q.0 ▸ g.more_specifiers q.1)) objects_more (some_objects r)
  each_objects = each_mapped objects_and_specifiers (λ q. X q.0 ▸ more_choices X false q.1) (λ q. p.listed X q.0 ▸ g.more_specifiers q.1) objects_more (λ left. both pair (r left) (further_choices r left))
      (each_pair X (more_choices X false) more objects_more r (further_choices r) x each_choices choices_apart) into_objects from_objects

-- names and the objects of ALLOCATE
pub each_names : Everywhere (Of (λ q. p.listed p.name q.0 ▸ g.more_specifiers q.1)) (either_of (is_sign sign.Comma) (either_of (is_sign sign.Assign) (either_of never (goes 0)))) (some_objects (λ left. a_name))
each_names = each_objects p.name never (λ left. a_name) each_name (λ l d n w h. subst (Heads is_word) (sym h) refl)
    (λ l d n w rest h st. subst (λ z. assigns (bare z ++ rest) ≡ false) (sym h) (no_second (record { tok = t.word n.text; at = n.at }) rest st))
    (λ l d y i. (name_of y, ap (λ k. mark l d (record { tok = k; at = y.at }) ∷ []) (word_tok y.tok i))) (λ at. refl)

square_no_assign : (y : Token) → is_square y ≡ true → is_sign sign.Assign y ≡ false
square_no_assign y h = by_tok y.tok h
  where
    by_tok : (k : Tok) → is_square (record { tok = k; at = y.at }) ≡ true → is_sign sign.Assign (record { tok = k; at = y.at }) ≡ false
    by_tok (t.sign sign.Assign) h = absurd (false≢true h)
    by_tok (t.sign z) h = refl
    by_tok k h = refl

shape_stops : (l d : ℕ) (ds : List Dimension) (c : Option CoarraySpec) (u v w : List (Mark Token)) (rest : List Token) → Words (a.maybe_dimensions ds) l d u → Words (p.optional a.bracketed_coarray_spec c) l d v → w ≡ u ++ v → Stops (is_sign sign.Assign) rest → Stops (is_sign sign.Assign) (bare w ++ rest)
shape_stops l d [] None u v w rest h k split st = subst (λ z. Stops (is_sign sign.Assign) (bare z ++ rest)) (sym (split ∙ (ap (λ z. z ++ v) h ∙ k))) st
shape_stops l d [] (Some c) u v w rest h k split st = heads_stop is_square (is_sign sign.Assign) square_no_assign w rest (subst (Heads is_square) (sym (split ∙ ap (λ z. z ++ v) h)) (square_heads l d (a.coarray_spec c) v k))
shape_stops l d (x ∷ xs) c u v w rest (m, n, (at, q), h, split2) k split st = subst (λ z. Stops (is_sign sign.Assign) (bare z ++ rest)) (sym (split ∙ (ap (λ z. z ++ v) (split2 ∙ ap (λ z. z ++ n) q)))) refl

pub each_allocations : Everywhere (Of (λ q. p.listed a.allocation q.0 ▸ g.more_specifiers q.1)) (either_of (is_sign sign.Comma) (either_of (is_sign sign.Assign) (either_of shape_more (goes 0)))) (some_objects an_allocation)
each_allocations = each_objects a.allocation shape_more an_allocation each_allocation (λ l d n w (u, v, h, k, split). subst (Heads is_word) (sym (split ∙ ap (λ z. z ++ v) h)) refl)
    (λ l d b w rest (u, v, h, (i, j, hd, hc, split2), split) st. by_second d l rest _ u v w h split (shape_stops l d b.bounds b.cobounds i j v rest hd hc split2 st))
    (λ l d y i. (record { name = name_of y; bounds = []; cobounds = None }, (mark l d y ∷ [], [], ap (λ k. mark l d (record { tok = k; at = y.at }) ∷ []) (word_tok y.tok i), ([], [], refl, refl, refl), refl))) (λ at. refl)
