-- Bounds, dimensions, codimensions and the objects of ALLOCATE are read exactly.
use Rattle.std.proofs.Common.{◌≡◌, ℕ, zero, suc, ◌≤◌, Bool, true, false, cond, List, [], ◌∷◌, ◌++◌, length, Option, Some, None, inl, inr, refl, ap, sym, ◌∙◌, subst, arith, append_assoc, append-nil}
use Rattle.std.proofs.lemmas.Bool.{false≢true}
use Rattle.reader_theory.specs.Words.{Mark, bare}
use Rattle.reader_theory.specs.Levels.{One}
use Rattle.reader_theory.specs.Readers.{token, both, mapped, optional, pair, behind}
use Rattle.reader_theory.specs.Exactness.{Stops, never, Heads}
use Rattle.reader_theory.specs.Languages.{Or, Image, Items_by}
use Rattle.reader_theory.proofs.Independent.{Both}
use Rattle.reader_theory.proofs.Marks.{never_stops}
use Rattle.reader_theory.proofs.Sequence.{exact_both}
use Rattle.reader_theory.proofs.Single.{relabel, exact_mapped}
use Rattle.reader_theory.proofs.Choice.{exact_pick}
use Rattle.reader_theory.proofs.Many.{exact_many_by}
use Rattle.fortran_tokens.specs.declared.token.Sign.TheVariants as sign
use Rattle.fortran_tree.specs.Expressions.{Expression}
use Rattle.fortran_tree.specs.Statements as s
use Rattle.fortran_tree.specs.Statements.{Bounds, Dimension, CoarraySpec, Allocation}
use Rattle.fortran_grammar.specs.Tokens as t
use Rattle.fortran_grammar.specs.Tokens.{Tok, Token}
use Rattle.fortran_grammar.specs.Phrases as p
use Rattle.fortran_grammar.specs.Phrases.{Phrase, Words, FirstAt, ◌▸◌}
use Rattle.fortran_grammar.specs.ExpressionGrammar as g
use Rattle.fortran_grammar.specs.ActionGrammar as a
use Rattle.expr_reader.specs.Openings.{opens, goes}
use Rattle.expr_reader.specs.Tests.{is_sign, a_name, list_of}
use Rattle.expr_reader.specs.Full.{is_square}
use Rattle.statement_reader.specs.Families.{rounded, squared, an_expression}
use Rattle.statement_reader.specs.Dimensions.{a_sign, bounds_of, some_bounds, deferred_at, a_dimension, dimensions_of, maybe_dimensions, Bound, end_of_bound, bound, bound_list, lower_or_last, upper_bound, a_bound, ends_lower, some_cobounds, cobounds_of, last_lower, explicit_of, deferred_of, a_coarray_spec, maybe_coarray_spec, allocation_of, an_allocation}
use Rattle.expr_reader.proofs.Phrases.{Of, exact_sign, sign_in, or_comma}
use Rattle.expr_reader.proofs.Pieces.{either_of, stops_first, stops_second}
use Rattle.statement_reader.proofs.Families.{Everywhere, Made, each_expression, each_name, each_sign, each_behind_sign, each_square, each_listed, each_maybe, each_mapped, each_made, each_pair, sign_heads, sign_stops, expression_heads, heads_stop}
use Rattle.statement_reader.proofs.Actions.{each_maybe_round}

-- what goes on behind bounds
abbrev pub bounds_more : Token → Bool
bounds_more = either_of (is_sign sign.Colon) (goes 0)

each_upper : Everywhere (Of (p.optional (λ e. p.sign sign.Colon ▸ g.expr e))) bounds_more (λ left. optional (is_sign sign.Colon) (behind (is_sign sign.Colon) (an_expression left)))
each_upper = each_maybe (λ e. p.sign sign.Colon ▸ g.expr e) (goes 0) (λ left. behind (is_sign sign.Colon) (an_expression left)) (each_behind_sign g.expr (goes 0) an_expression each_expression sign.Colon) (is_sign sign.Colon) bounds_more
    (λ l d e w h. sign_heads sign.Colon (g.expr e) l d w (is_sign sign.Colon) (λ at. refl) h) (stops_second (is_sign sign.Colon) (goes 0)) (stops_first (is_sign sign.Colon) (goes 0))

upper_apart : (l d : ℕ) (o : Option Expression) (w : List (Mark Token)) (rest : List Token) → Words (p.optional (λ e. p.sign sign.Colon ▸ g.expr e) o) l d w → Stops bounds_more rest → Stops (goes 0) (bare w ++ rest)
upper_apart l d None w rest h st = subst (λ z. Stops (goes 0) (bare z ++ rest)) (sym h) (stops_second (is_sign sign.Colon) (goes 0) rest st)
upper_apart l d (Some e) w rest h st = sign_stops sign.Colon (g.expr e) l d w rest (goes 0) (λ at. refl) h

module _ (l d : ℕ) where
  abbrev Two : Bounds → List (Mark Token) → Type 0
  Two = Both bounds_of (Of g.expr l d) (Of (p.optional (λ e. p.sign sign.Colon ▸ g.expr e)) l d)

  into_bounds : (b : Bounds) (w : List (Mark Token)) → Two b w → Words (a.bounds b) l d w
  into_bounds b w (e, None, is, (u, v, h, k, split)) = subst (λ z. Words (a.bounds z) l d w) (sym is) ([], w, refl, subst (λ z. Words (g.expr e) l d z) (sym (split ∙ (ap (λ z. u ++ z) k ∙ append-nil u))) h, refl)
  into_bounds b w (e, Some f, is, (u, v, h, (i, j, c, k, split2), split)) = subst (λ z. Words (a.bounds z) l d w) (sym is) (u ++ i, j, (u, i, h, c, refl), k, split ∙ (ap (λ z. u ++ z) split2 ∙ sym (append_assoc u i j)))

  from_bounds : (o : Option Expression) (f : Expression) (w : List (Mark Token)) → Words (p.optional a.lower_bound o ▸ g.expr f) l d w → Two (record { lower = o; upper = f }) w
  from_bounds None f w (u, v, h, k, split) = (f, None, refl, (v, [], k, refl, split ∙ (ap (λ z. z ++ v) h ∙ sym (append-nil v))))
  from_bounds (Some e) f w (u, v, (i, j, h, c, split2), k, split) = (e, Some f, refl, (i, j ++ v, h, (j, v, c, k, refl), split ∙ (ap (λ z. z ++ v) split2 ∙ append_assoc i j v)))

pub each_bounds : Everywhere (Of a.bounds) bounds_more some_bounds
each_bounds limit left level h = relabel (Two limit level) (Of a.bounds limit level) (some_bounds left) bounds_more bounds_more
    (exact_both bounds_of (Of g.expr limit level) (Of (p.optional (λ e. p.sign sign.Colon ▸ g.expr e)) limit level) (an_expression left) (optional (is_sign sign.Colon) (behind (is_sign sign.Colon) (an_expression left))) (goes 0) bounds_more
    (each_expression limit left level h) (each_upper limit left level h) (upper_apart limit level))
    (into_bounds limit level) (λ b w o. from_bounds limit level b.lower b.upper w o) (λ rest o. o)

-- bounds begin with what begins an expression
bounds_heads : (l d : ℕ) (b : Bounds) (w : List (Mark Token)) → Words (a.bounds b) l d w → Heads (opens 1) w
bounds_heads l d b w h = by_parts (from_bounds l d b.lower b.upper w h)
  where
    in_front : (u v : List (Mark Token)) → Heads (opens 1) u → Heads (opens 1) (u ++ v)
    in_front [] v h = absurd h
    in_front (m ∷ u) v h = h

    by_parts : Two l d b w → Heads (opens 1) w
    by_parts (e, o, is, (u, v, h, k, split)) = subst (Heads (opens 1)) (sym split) (in_front u v (expression_heads l d e u h))

pub opens_no_colon : (y : Token) → opens 1 y ≡ true → is_sign sign.Colon y ≡ false
opens_no_colon y h = by_tok y.tok h
  where
    by_tok : (k : Tok) → opens 1 (record { tok = k; at = y.at }) ≡ true → is_sign sign.Colon (record { tok = k; at = y.at }) ≡ false
    by_tok (t.sign sign.Colon) h = absurd (false≢true h)
    by_tok (t.sign z) h = refl
    by_tok k h = refl

-- dimensions
module _ (l d : ℕ) where
  abbrev Colon_alone : Dimension → List (Mark Token) → Type 0
  Colon_alone x w = (y : Token) × (x ≡ deferred_at y) × One (is_sign sign.Colon) l d y w

  abbrev Written : Dimension → List (Mark Token) → Type 0
  Written = Image s.explicit (Of a.bounds l d)

  into_dimension : (x : Dimension) (w : List (Mark Token)) → Or Colon_alone Written x w → Words (a.dimension x) l d w
  into_dimension x w (inl (y, is, one)) = subst (λ z. Words (a.dimension z) l d w) (sym is) (subst (FirstAt y.at) (sym one.1) refl, sign_in l d sign.Colon y w one)
  into_dimension x w (inr (b, is, h)) = subst (λ z. Words (a.dimension z) l d w) (sym is) h

  from_dimension : (x : Dimension) (w : List (Mark Token)) → Words (a.dimension x) l d w → Or Colon_alone Written x w
  from_dimension (s.deferred at) w (first, (q, h)) = let same : q ≡ at = subst (FirstAt at) h first in inl (record { tok = t.sign sign.Colon; at = q }, ap s.deferred (sym same), (refl, h))
  from_dimension (s.explicit b) w h = inr (b, refl, h)

pub each_dimension : Everywhere (Of a.dimension) bounds_more a_dimension
each_dimension limit left level h = let here : level ≤ limit = omega arith in
    relabel (Or (Colon_alone limit level) (Written limit level)) (Of a.dimension limit level) (a_dimension left) bounds_more bounds_more
    (exact_pick (is_sign sign.Colon) (Colon_alone limit level) (Written limit level) (mapped deferred_at (token (is_sign sign.Colon))) (mapped s.explicit (some_bounds left)) never bounds_more
    (exact_mapped deferred_at (One (is_sign sign.Colon) limit level) (Colon_alone limit level) (token (is_sign sign.Colon)) never never (exact_sign limit level here sign.Colon) (λ y w o. (y, refl, o)) (λ x w o. o) (λ rest o. o))
    (each_made s.explicit a.bounds bounds_more some_bounds each_bounds limit left level h) bounds_more
    (λ x w (y, is, one). subst (Heads (is_sign sign.Colon)) (sym one.1) one.0)
    (λ x w rest (b, is, o) st. heads_stop (opens 1) (is_sign sign.Colon) opens_no_colon w rest (bounds_heads limit level b w o)) (λ rest o. never_stops rest) (λ rest o. o))
    (into_dimension limit level) (from_dimension limit level) (λ rest o. o)

each_in_brackets : Everywhere (Of (p.optional (λ ds. p.round (p.listed a.dimension ds)))) (is_sign sign.OpenRound) (λ left. optional (is_sign sign.OpenRound) (rounded (λ l. list_of (a_dimension l)) left))
each_in_brackets = each_maybe_round (p.listed a.dimension) (or_comma bounds_more) (λ l. list_of (a_dimension l)) (each_listed a.dimension bounds_more a_dimension each_dimension (λ at. refl)) (λ at. refl)

pub each_maybe_dimensions : Everywhere (Of a.maybe_dimensions) (is_sign sign.OpenRound) maybe_dimensions
each_maybe_dimensions = each_mapped dimensions_of (p.optional (λ ds. p.round (p.listed a.dimension ds))) a.maybe_dimensions (is_sign sign.OpenRound) (λ left. optional (is_sign sign.OpenRound) (rounded (λ l. list_of (a_dimension l)) left)) each_in_brackets into from
  where
    into : (l d : ℕ) (o : Option (List Dimension)) (w : List (Mark Token)) → Words (p.optional (λ ds. p.round (p.listed a.dimension ds)) o) l d w → Words (a.maybe_dimensions (dimensions_of o)) l d w
    into l d None w h = h
    into l d (Some []) w (u, v, o, (i, j, h, c, split2), split) = absurd (false≢true h.0)
    into l d (Some (x ∷ xs)) w h = h

    from : (l d : ℕ) (ds : List Dimension) (w : List (Mark Token)) → Words (a.maybe_dimensions ds) l d w → (o : Option (List Dimension)) × (ds ≡ dimensions_of o) × Words (p.optional (λ ds. p.round (p.listed a.dimension ds)) o) l d w
    from l d [] w h = (None, refl, h)
    from l d (x ∷ xs) w h = (Some (x ∷ xs), refl, h)

-- Cobounds.
abbrev ending : Bool → Phrase
ending b = p.sign (end_of_bound b)

each_ending : Everywhere (Of ending) never lower_or_last
each_ending limit left level h = relabel (Or (Made (λ z. false) (λ (z : Unit {0}). p.sign sign.Comma) limit level) (Made (λ z. true) (λ (z : Unit {0}). p.sign sign.Colon) limit level)) (Of ending limit level) (lower_or_last left) never never
    (exact_pick (is_sign sign.Comma) (Made (λ z. false) (λ (z : Unit {0}). p.sign sign.Comma) limit level) (Made (λ z. true) (λ (z : Unit {0}). p.sign sign.Colon) limit level) (mapped (λ z. false) (a_sign sign.Comma left)) (mapped (λ z. true) (a_sign sign.Colon left)) never never
    (each_made (λ z. false) (λ (z : Unit {0}). p.sign sign.Comma) never (a_sign sign.Comma) (each_sign sign.Comma) limit left level h)
    (each_made (λ z. true) (λ (z : Unit {0}). p.sign sign.Colon) never (a_sign sign.Colon) (each_sign sign.Colon) limit left level h) never
    (λ b w (z, is, (at, o)). subst (Heads (is_sign sign.Comma)) (sym o) refl)
    (λ b w rest (z, is, (at, o)) st. subst (λ q. Stops (is_sign sign.Comma) (bare q ++ rest)) (sym o) refl) (λ rest o. o) (λ rest o. o))
    into from (λ rest o. o)
  where
    into : (b : Bool) (w : List (Mark Token)) → Or (Made (λ z. false) (λ (z : Unit {0}). p.sign sign.Comma) limit level) (Made (λ z. true) (λ (z : Unit {0}). p.sign sign.Colon) limit level) b w → Words (ending b) limit level w
    into b w (inl (z, is, o)) = subst (λ q. Words (ending q) limit level w) (sym is) o
    into b w (inr (z, is, o)) = subst (λ q. Words (ending q) limit level w) (sym is) o

    from : (b : Bool) (w : List (Mark Token)) → Words (ending b) limit level w → Or (Made (λ z. false) (λ (z : Unit {0}). p.sign sign.Comma) limit level) (Made (λ z. true) (λ (z : Unit {0}). p.sign sign.Colon) limit level) b w
    from false w o = inl (tt, refl, o)
    from true w o = inr (tt, refl, o)

ending_stops : (l d : ℕ) (b : Bool) (w : List (Mark Token)) (rest : List Token) → Words (ending b) l d w → Stops never rest → Stops (goes 0) (bare w ++ rest)
ending_stops l d false w rest (at, o) st = subst (λ q. Stops (goes 0) (bare q ++ rest)) (sym o) refl
ending_stops l d true w rest (at, o) st = subst (λ q. Stops (goes 0) (bare q ++ rest)) (sym o) refl

each_fresh : Everywhere (Of (bound false)) never (a_bound false)
each_fresh limit left level h = relabel (Of (λ q. g.expr q.0 ▸ ending q.1) limit level) (Of (bound false) limit level) (a_bound false left) never never
    (each_pair g.expr ending (goes 0) never an_expression lower_or_last each_expression each_ending ending_stops limit left level h)
    (λ q w o. (refl, o)) (λ q w o. o.1) (λ rest o. o)

each_second : Everywhere (Of (bound true)) never (a_bound true)
each_second = each_mapped upper_bound (λ q. g.expr q.0 ▸ p.sign sign.Comma) (bound true) never (λ left. both pair (an_expression left) (a_sign sign.Comma left))
    (each_pair g.expr (λ (z : Unit {0}). p.sign sign.Comma) (goes 0) never an_expression (a_sign sign.Comma) each_expression (each_sign sign.Comma) (λ l d z w rest o st. ending_stops l d false w rest o st))
    (λ l d q w o. (refl, o)) from
  where
    from : (l d : ℕ) (q : Bound) (w : List (Mark Token)) → Words (bound true q) l d w → (e : Expression × Unit {0}) × (q ≡ upper_bound e) × Words (g.expr e.0 ▸ p.sign sign.Comma) l d w
    from l d (e, false) w o = ((e, tt), refl, o.1)
    from l d (e, true) w o = absurd (false≢true o.0)

each_bound : (b : Bool) → Everywhere (Of (bound b)) never (a_bound b)
each_bound false = each_fresh
each_bound true = each_second

bound_heads : (l d : ℕ) (b : Bool) (q : Bound) (w : List (Mark Token)) → Words (bound b q) l d w → Heads (opens 1) w
bound_heads l d b q w (f, (u, v, h, k, split)) = subst (Heads (opens 1)) (sym split) (in_front u v (expression_heads l d q.0 u h))
  where
    in_front : (u v : List (Mark Token)) → Heads (opens 1) u → Heads (opens 1) (u ++ v)
    in_front [] v h = absurd h
    in_front (m ∷ u) v h = h

each_cobounds : Everywhere (Of (bound_list false)) (opens 1) some_cobounds
each_cobounds limit left level h = relabel (λ qs w. Items_by (λ b. Of (bound b) limit level) ends_lower qs false w) (Of (bound_list false) limit level) (some_cobounds left) (opens 1) (opens 1)
    (exact_many_by (λ b. Of (bound b) limit level) (λ b. a_bound b left) ends_lower (opens 1) never (opens 1) (λ b. each_bound b limit left level h) (λ b q w o. bound_heads limit level b q w o) (λ rest o. never_stops rest) (λ rest o. o) (λ y o. refl) false)
    (into false) (from false) (λ rest o. o)
  where
    into : (b : Bool) (qs : List Bound) (w : List (Mark Token)) → Items_by (λ b. Of (bound b) limit level) ends_lower qs b w → Words (bound_list b qs) limit level w
    into b [] w o = o
    into b (q ∷ qs) w (u, v, o, rest, split) = (u, v, o, into q.1 qs v rest, split)

    from : (b : Bool) (qs : List Bound) (w : List (Mark Token)) → Words (bound_list b qs) limit level w → Items_by (λ b. Of (bound b) limit level) ends_lower qs b w
    from b [] w o = o
    from b (q ∷ qs) w (u, v, o, rest, split) = (u, v, o, from q.1 qs v rest, split)

-- the grammar's cobounds
module _ (l d : ℕ) where
  abbrev Split : List Bounds → Option Expression → List (Mark Token) → Type 0
  Split bs o w = Words (p.repeated a.cobound bs ▸ p.optional a.lower_bound o) l d w

  into_split : (qs : List Bound) (w : List (Mark Token)) → Words (bound_list false qs) l d w → Split (cobounds_of qs) (last_lower qs) w
  into_split [] w h = ([], w, refl, h, refl)
  into_split ((e, false) ∷ qs) w (u, v, (f, (i, j, h, c, split2)), rest, split) =
      let z = into_split qs v rest in
      (u ++ z.0, z.1, (u, z.0, (i, j, ([], i, refl, h, refl), c, split2), z.2, refl), z.3, split ∙ (ap (λ y. u ++ y) z.4 ∙ sym (append_assoc u z.0 z.1)))
  into_split ((e, true) ∷ []) w (u, v, (f, h), rest, split) = ([], w, refl, subst (λ z. Words (a.lower_bound e) l d z) (sym (split ∙ (ap (λ z. u ++ z) rest ∙ append-nil u))) h, refl)
  into_split ((e, true) ∷ (f, true) ∷ qs) w (u, v, h, (x, y, (f2, k), rest, split2), split) = absurd (false≢true f2)
  into_split ((e, true) ∷ (f, false) ∷ qs) w (u, v, (f1, h), (x, y, (f2, (i, j, k, c, split3)), rest, split2), split) =
      let z = into_split qs y rest in
      let front : u ++ x ≡ (u ++ i) ++ j = ap (λ q. u ++ q) split3 ∙ sym (append_assoc u i j) in (
        (u ++ x) ++ z.0,
        z.1,
        (u ++ x, z.0, (u ++ i, j, (u, i, h, k, refl), c, front), z.2, refl),
        z.3,
        split ∙ (ap (λ q. u ++ q) split2 ∙ (sym (append_assoc u x y) ∙ (ap (λ q. (u ++ x) ++ q) z.4 ∙ sym (append_assoc (u ++ x) z.0 z.1)))),
      )

  put : (o : Option Expression) (e : Expression) (qs : List Bound) (x y : List (Mark Token)) → Words ((p.optional a.lower_bound o ▸ g.expr e) ▸ p.sign sign.Comma) l d x → Words (bound_list false qs) l d y
      → (ps : List Bound) × ((record { lower = o; upper = e } ∷ cobounds_of qs) ≡ cobounds_of ps) × (last_lower qs ≡ last_lower ps) × Words (bound_list false ps) l d (x ++ y)
  put None e qs x y (m, n, (i, j, h, k, split3), c, split2) rest =
      ((e, false) ∷ qs, refl, refl, (x, y, (refl, (m, n, subst (λ z. Words (g.expr e) l d z) (sym (split3 ∙ ap (λ z. z ++ j) h)) k, c, split2)), rest, refl))
  put (Some f) e qs x y (m, n, (i, j, h, k, split3), c, split2) rest = (
    (f, true) ∷ (e, false) ∷ qs,
    refl,
    refl,
    (
      i,
      (j ++ n) ++ y,
      (refl, h),
      (j ++ n, y, (refl, (j, n, k, c, refl)), rest, refl),
      ap (λ z. z ++ y) (split2 ∙ (ap (λ z. z ++ n) split3 ∙ append_assoc i j n)) ∙ append_assoc i (j ++ n) y,
    ),
  )

  from_split : (bs : List Bounds) (o : Option Expression) (w : List (Mark Token)) → Split bs o w → (qs : List Bound) × (bs ≡ cobounds_of qs) × (o ≡ last_lower qs) × Words (bound_list false qs) l d w
  from_split [] None w (u, v, h, k, split) = ([], refl, refl, split ∙ (ap (λ z. z ++ v) h ∙ k))
  from_split [] (Some e) w (u, v, h, k, split) = ((e, true) ∷ [], refl, refl, (w, [], (refl, subst (λ z. Words (a.lower_bound e) l d z) (sym (split ∙ ap (λ z. z ++ v) h)) k), refl, sym (append-nil w)))
  from_split (b ∷ bs) o w (u, v, (x, y, h, rest, split2), k, split) =
      let z = from_split bs o (y ++ v) (y, v, rest, k, refl) in
      let r = put b.lower b.upper z.0 x (y ++ v) h z.3 in
      (r.0, ap (λ q. b ∷ q) z.1 ∙ r.1, z.2 ∙ r.2, subst (λ q. Words (bound_list false r.0) l d q) (sym (split ∙ (ap (λ q. q ++ v) split2 ∙ append_assoc x y v))) r.3)

  abbrev Starred : List Bound × Unit {0} → Phrase
  Starred q = bound_list false q.0 ▸ p.sign sign.Star

  abbrev Explicit : CoarraySpec → List (Mark Token) → Type 0
  Explicit = Image explicit_of (Of Starred l d)

  abbrev Deferred : CoarraySpec → List (Mark Token) → Type 0
  Deferred = Image deferred_of (Of (p.listed (λ (z : Unit {0}). p.sign sign.Colon)) l d)

  into_colons : (zs : List (Unit {0})) (w : List (Mark Token)) → Words (p.followed (λ (z : Unit {0}). p.sign sign.Colon) zs) l d w → Words (a.more_colons (length zs)) l d w
  into_colons [] w h = h
  into_colons (z ∷ zs) w (u, v, c, (i, j, k, rest, split2), split) = (u, v, c, (i, j, k, into_colons zs j rest, split2), split)

  from_colons : (n : ℕ) (w : List (Mark Token)) → Words (a.more_colons n) l d w → (zs : List (Unit {0})) × (n ≡ length zs) × Words (p.followed (λ (z : Unit {0}). p.sign sign.Colon) zs) l d w
  from_colons zero w h = ([], refl, h)
  from_colons (suc n) w (u, v, c, (i, j, k, rest, split2), split) = let z = from_colons n j rest in (tt ∷ z.0, ap suc z.1, (u, v, c, (i, j, k, z.2, split2), split))

  deferred_in : (zs : List (Unit {0})) (w : List (Mark Token)) → Words (p.listed (λ (z : Unit {0}). p.sign sign.Colon) zs) l d w → Words (a.colon_list (length zs)) l d w
  deferred_in [] w h = h
  deferred_in (z ∷ zs) w (u, v, c, rest, split) = (u, v, c, into_colons zs v rest, split)

  deferred_out : (n : ℕ) (w : List (Mark Token)) → Words (a.colon_list n) l d w → (zs : List (Unit {0})) × (n ≡ length zs) × Words (p.listed (λ (z : Unit {0}). p.sign sign.Colon) zs) l d w
  deferred_out zero w h = ([], refl, h)
  deferred_out (suc n) w (u, v, c, rest, split) = let z = from_colons n v rest in (tt ∷ z.0, ap suc z.1, (u, v, c, z.2, split))

  into_coshape : (c : CoarraySpec) (w : List (Mark Token)) → Or Deferred Explicit c w → Words (a.coarray_spec c) l d w
  into_coshape c w (inl (zs, is, h)) = subst (λ z. Words (a.coarray_spec z) l d w) (sym is) (deferred_in zs w h)
  into_coshape c w (inr (q, is, (u, v, h, k, split))) =
      let z = into_split q.0 u h in
      subst (λ y. Words (a.coarray_spec y) l d w) (sym is) (z.0, z.1 ++ v, z.2, (z.1, v, z.3, k, refl), split ∙ (ap (λ y. y ++ v) z.4 ∙ append_assoc z.0 z.1 v))

  from_coshape : (c : CoarraySpec) (w : List (Mark Token)) → Words (a.coarray_spec c) l d w → Or Deferred Explicit c w
  from_coshape (s.deferred_coshape n) w h = let z = deferred_out n w h in inl (z.0, ap s.deferred_coshape z.1, z.2)
  from_coshape (s.explicit_coshape bs o) w (u, v, h, (i, j, k, c, split2), split) =
      let z = from_split bs o (u ++ i) (u, i, h, k, refl) in
      inr ((z.0, tt), ap (λ y. s.explicit_coshape y o) z.1 ∙ ap (s.explicit_coshape (cobounds_of z.0)) z.2, (u ++ i, j, z.3, c, split ∙ (ap (λ y. u ++ y) split2 ∙ sym (append_assoc u i j))))

each_starred : Everywhere (Of (Starred 0 0)) never (λ left. both pair (some_cobounds left) (a_sign sign.Star left))
each_starred = each_pair (bound_list false) (λ (z : Unit {0}). p.sign sign.Star) (opens 1) never some_cobounds (a_sign sign.Star) each_cobounds (each_sign sign.Star)
    (λ l d z w rest (at, o) st. subst (λ q. Stops (opens 1) (bare q ++ rest)) (sym o) refl)

-- what stands before an asterisk doesn't begin with a colon
no_colon : (l d : ℕ) (q : List Bound × Unit {0}) (w : List (Mark Token)) (rest : List Token) → Words (Starred l d q) l d w → Stops (is_sign sign.Colon) (bare w ++ rest)
no_colon l d ([], z) w rest (u, v, h, (at, o), split) = subst (λ y. Stops (is_sign sign.Colon) (bare y ++ rest)) (sym (split ∙ (ap (λ y. y ++ v) h ∙ o))) refl
no_colon l d (b ∷ bs, z) w rest (u, v, (i, j, h, k, split2), o, split) = heads_stop (opens 1) (is_sign sign.Colon) opens_no_colon w rest (subst (Heads (opens 1)) (sym (split ∙ ap (λ y. y ++ v) split2)) (in_front (i ++ j) v (in_front i j (bound_heads l d false b i h))))
  where
    in_front : (u v : List (Mark Token)) → Heads (opens 1) u → Heads (opens 1) (u ++ v)
    in_front [] v h = absurd h
    in_front (m ∷ u) v h = h

pub each_coarray_spec : Everywhere (Of a.coarray_spec) (is_sign sign.Comma) a_coarray_spec
each_coarray_spec limit left level h = relabel (Or (Deferred limit level) (Explicit limit level)) (Of a.coarray_spec limit level) (a_coarray_spec left) (is_sign sign.Comma) (is_sign sign.Comma)
    (exact_pick (is_sign sign.Colon) (Deferred limit level) (Explicit limit level) (mapped deferred_of (list_of (a_sign sign.Colon left))) (mapped explicit_of (both pair (some_cobounds left) (a_sign sign.Star left))) (or_comma never) never
    (each_made deferred_of (p.listed (λ (z : Unit {0}). p.sign sign.Colon)) (or_comma never) (λ left. list_of (a_sign sign.Colon left)) (each_listed (λ (z : Unit {0}). p.sign sign.Colon) never (a_sign sign.Colon) (each_sign sign.Colon) (λ at. refl)) limit left level h)
    (each_made explicit_of (Starred 0 0) never (λ left. both pair (some_cobounds left) (a_sign sign.Star left)) each_starred limit left level h) (is_sign sign.Comma)
    (λ c w (zs, is, o). colon_heads zs w o)
    (λ c w rest (q, is, o) st. no_colon limit level q w rest o) only_comma (λ rest o. never_stops rest))
    (into_coshape limit level) (from_coshape limit level) (λ rest o. o)
  where
    colon_heads : (zs : List (Unit {0})) (w : List (Mark Token)) → Words (p.listed (λ (z : Unit {0}). p.sign sign.Colon) zs) limit level w → Heads (is_sign sign.Colon) w
    colon_heads [] w o = absurd (false≢true o.0)
    colon_heads (z ∷ zs) w o = sign_heads sign.Colon (p.followed (λ (z : Unit {0}). p.sign sign.Colon) zs) limit level w (is_sign sign.Colon) (λ at. refl) o

    only_comma : (rest : List Token) → Stops (is_sign sign.Comma) rest → Stops (or_comma never) rest
    only_comma [] st = tt
    only_comma (y ∷ rest) st = ap (λ b. cond b true false) st

pub square_heads : (l d : ℕ) (P : Phrase) (w : List (Mark Token)) → Words (p.square P) l d w → Heads is_square w
square_heads l d P w (inl h) = sign_heads sign.OpenSquare (P ▸ p.sign sign.CloseSquare) l (suc d) w is_square (λ at. refl) h
square_heads l d P w (inr h) = sign_heads sign.OpenArray (P ▸ p.sign sign.CloseArray) l (suc d) w is_square (λ at. refl) h

pub each_bracketed_coarray_spec : Everywhere (Of a.bracketed_coarray_spec) never (squared a_coarray_spec)
each_bracketed_coarray_spec = each_square a.coarray_spec (is_sign sign.Comma) a_coarray_spec each_coarray_spec (λ at. refl) (λ at. refl)

-- what goes on behind the shape of an object
abbrev pub shape_more : Token → Bool
shape_more = either_of (is_sign sign.OpenRound) is_square

pub each_maybe_coarray_spec : Everywhere (Of (p.optional a.bracketed_coarray_spec)) shape_more maybe_coarray_spec
each_maybe_coarray_spec = each_maybe a.bracketed_coarray_spec never (squared a_coarray_spec) each_bracketed_coarray_spec is_square shape_more (λ l d c w h. square_heads l d (a.coarray_spec c) w h) (λ rest o. never_stops rest) (stops_second (is_sign sign.OpenRound) is_square)

square_no_round : (y : Token) → is_square y ≡ true → is_sign sign.OpenRound y ≡ false
square_no_round y h = by_tok y.tok h
  where
    by_tok : (k : Tok) → is_square (record { tok = k; at = y.at }) ≡ true → is_sign sign.OpenRound (record { tok = k; at = y.at }) ≡ false
    by_tok (t.sign sign.OpenRound) h = absurd (false≢true h)
    by_tok (t.sign z) h = refl
    by_tok k h = refl

pub shape_apart : (l d : ℕ) (c : Option CoarraySpec) (w : List (Mark Token)) (rest : List Token) → Words (p.optional a.bracketed_coarray_spec c) l d w → Stops shape_more rest → Stops (is_sign sign.OpenRound) (bare w ++ rest)
shape_apart l d None w rest h st = subst (λ z. Stops (is_sign sign.OpenRound) (bare z ++ rest)) (sym h) (stops_first (is_sign sign.OpenRound) is_square rest st)
shape_apart l d (Some c) w rest h st = heads_stop is_square (is_sign sign.OpenRound) square_no_round w rest (square_heads l d (a.coarray_spec c) w h)

pub each_allocation : Everywhere (Of a.allocation) shape_more an_allocation
each_allocation = each_mapped allocation_of (λ q. p.name q.0 ▸ a.maybe_dimensions q.1.0 ▸ p.optional a.bracketed_coarray_spec q.1.1) a.allocation shape_more (λ left. both pair a_name (both pair (maybe_dimensions left) (maybe_coarray_spec left)))
    (each_pair p.name (λ q. a.maybe_dimensions q.0 ▸ p.optional a.bracketed_coarray_spec q.1) never shape_more (λ left. a_name) (λ left. both pair (maybe_dimensions left) (maybe_coarray_spec left)) each_name
    (each_pair a.maybe_dimensions (p.optional a.bracketed_coarray_spec) (is_sign sign.OpenRound) shape_more maybe_dimensions maybe_coarray_spec each_maybe_dimensions each_maybe_coarray_spec shape_apart)
    (λ l d b w rest h st. never_stops (bare w ++ rest)))
    (λ l d q w h. h) (λ l d b w h. ((b.name, (b.bounds, b.cobounds)), refl, h))
