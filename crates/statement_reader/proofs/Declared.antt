-- Type declaration statements are read exactly: `::` may be missing only where there are no attributes and no initial
-- values.
use Rattle.std.proofs.Common.{◌≡◌, ℕ, Bool, true, false, ◌||◌, ◌&&◌, List, [], ◌∷◌, ◌++◌, Option, Some, None, inl, inr, refl, ap, sym, ◌∙◌, subst, append_assoc, append-nil}
use Rattle.std.proofs.lemmas.Bool.{false≢true}
use Rattle.caf_base.specs.declared.place.Pos.{Pos}
use Rattle.reader_theory.specs.Words.{Mark, bare, found}
use Rattle.reader_theory.specs.Readers.{both, mapped, behind, pair}
use Rattle.reader_theory.specs.Exactness.{Stops, never, Heads}
use Rattle.reader_theory.specs.Languages.{Or, By, Nothing}
use Rattle.reader_theory.proofs.Independent.{Both}
use Rattle.reader_theory.proofs.Marks.{never_stops}
use Rattle.reader_theory.proofs.Sequence.{exact_both, exact_by}
use Rattle.reader_theory.proofs.Single.{relabel, exact_nothing, exact_mapped, widen}
use Rattle.reader_theory.proofs.Choice.{exact_pick}
use Rattle.fortran_tokens.specs.declared.token.Sign.TheVariants as sign
use Rattle.fortran_tree.specs.Expressions.{Expression}
use Rattle.fortran_tree.specs.Statements as st
use Rattle.fortran_tree.specs.Statements.{DeclarationTypeSpec, CoarraySpec, Attribute, Entity, Declaration}
use Rattle.fortran_grammar.specs.Tokens as t
use Rattle.fortran_grammar.specs.Tokens.{Tok, Token}
use Rattle.fortran_grammar.specs.Phrases as p
use Rattle.fortran_grammar.specs.Phrases.{Phrase, Words, FirstAt, ◌▸◌, ◌∪◌}
use Rattle.fortran_grammar.specs.ExpressionGrammar as g
use Rattle.fortran_grammar.specs.ActionGrammar as a
use Rattle.expr_reader.specs.Openings.{goes}
use Rattle.expr_reader.specs.Tests.{is_sign, is_word, a_name, list_of, followed_by}
use Rattle.statement_reader.specs.Families.{an_expression}
use Rattle.statement_reader.specs.Dimensions.{a_sign, maybe_dimensions, maybe_coarray_spec}
use Rattle.statement_reader.specs.Heads.{an_end, with, located}
use Rattle.statement_reader.specs.Declarations.{a_type, an_attribute, Shaped, a_shaped, entity_of, plain_entity, initial_part, an_entity, entity_in, a_colons, colons_or, a_declared, declared_by, some_entities, declaration_of, a_declaration}
use Rattle.expr_reader.proofs.Phrases.{Of, or_comma}
use Rattle.expr_reader.proofs.Pieces.{either_of, stops_first, stops_second}
use Rattle.statement_reader.proofs.Families.{Everywhere, Made, each_expression, each_name, each_sign, each_behind_sign, each_listed, each_followed, each_maybe, each_mapped, each_made, each_pair, sign_heads, sign_stops, heads_stop}
use Rattle.statement_reader.proofs.Dimensions.{each_maybe_dimensions, each_maybe_coarray_spec, shape_more, shape_apart}
use Rattle.statement_reader.proofs.Heads.{each_ended, each_located}
use Rattle.statement_reader.proofs.Declarations.{type_more, each_type, each_attribute}

-- entities
abbrev shaped : Shaped → Phrase
shaped q = p.name q.0 ▸ (a.maybe_dimensions q.1.0 ▸ p.optional a.bracketed_coarray_spec q.1.1)

each_shaped : Everywhere (Of shaped) shape_more a_shaped
each_shaped = each_pair p.name (λ q. a.maybe_dimensions q.0 ▸ p.optional a.bracketed_coarray_spec q.1) never shape_more (λ left. a_name) (λ left. both pair (maybe_dimensions left) (maybe_coarray_spec left)) each_name
    (each_pair a.maybe_dimensions (p.optional a.bracketed_coarray_spec) (is_sign sign.OpenRound) shape_more maybe_dimensions maybe_coarray_spec each_maybe_dimensions each_maybe_coarray_spec shape_apart)
    (λ l d b w rest h st. never_stops (bare w ++ rest))

abbrev initial_more : Token → Bool
initial_more = either_of (is_sign sign.Assign) (goes 0)

abbrev entity_more : Token → Bool
entity_more = either_of shape_more initial_more

each_initial : Everywhere (Of (p.optional a.initial)) entity_more initial_part
each_initial = each_maybe a.initial (goes 0) (λ left. behind (is_sign sign.Assign) (an_expression left)) (each_behind_sign g.expr (goes 0) an_expression each_expression sign.Assign) (is_sign sign.Assign) entity_more
    (λ l d e w h. sign_heads sign.Assign (g.expr e) l d w (is_sign sign.Assign) (λ at. refl) h)
    (λ rest st. stops_second (is_sign sign.Assign) (goes 0) rest (stops_second shape_more initial_more rest st)) (λ rest st. stops_first (is_sign sign.Assign) (goes 0) rest (stops_second shape_more initial_more rest st))

initial_apart : (l d : ℕ) (o : Option Expression) (w : List (Mark Token)) (rest : List Token) → Words (p.optional a.initial o) l d w → Stops entity_more rest → Stops shape_more (bare w ++ rest)
initial_apart l d None w rest h st = subst (λ z. Stops shape_more (bare z ++ rest)) (sym h) (stops_first shape_more initial_more rest st)
initial_apart l d (Some e) w rest h st = sign_stops sign.Assign (g.expr e) l d w rest shape_more (λ at. refl) h

-- one part more at the end of an entity
module _ (l d : ℕ) where
  put : (q : Shaped) (o : Option Expression) (u v w : List (Mark Token)) → Words (shaped q) l d u → Words (p.optional a.initial o) l d v → w ≡ u ++ v → Words (a.entity (entity_of q o)) l d w
  put q o u v w (i, j, n, (m, k, ds, c, split3), split2) h split =
      (i, j ++ v, n, (m, k ++ v, ds, (k, v, c, h, refl), ap (λ z. z ++ v) split3 ∙ append_assoc m k v), split ∙ (ap (λ z. z ++ v) split2 ∙ append_assoc i j v))

  parts : (e : Entity) (w : List (Mark Token)) → Words (a.entity e) l d w → (u v : List (Mark Token)) × Words (shaped (e.name, (e.dimensions, e.coshape))) l d u × Words (p.optional a.initial e.initial) l d v × (w ≡ u ++ v)
  parts e w (i, j, n, (m, k, ds, (x, y, c, h, split3), split2), split) =
      (i ++ (m ++ x), y, (i, m ++ x, n, (m, x, ds, c, refl), refl), h, split ∙ (ap (λ z. i ++ z) (split2 ∙ (ap (λ z. m ++ z) split3 ∙ sym (append_assoc m x y))) ∙ sym (append_assoc i (m ++ x) y)))

  plain_out : (e : Entity) (w : List (Mark Token)) → Words (entity_in false e) l d w → (q : Shaped) × (e ≡ plain_entity q) × Words (shaped q) l d w
  plain_out e w (f, h) = by_initial e.initial refl f (parts e w h)
    where
      by_initial : (o : Option Expression) → e.initial ≡ o → a.is_none o ≡ true → (u v : List (Mark Token)) × Words (shaped (e.name, (e.dimensions, e.coshape))) l d u × Words (p.optional a.initial e.initial) l d v × (w ≡ u ++ v) → (q : Shaped) × (e ≡ plain_entity q) × Words (shaped q) l d w
      by_initial (Some x) is f k = absurd (false≢true f)
      by_initial None is f (u, v, k, m, split) =
          let gone : v ≡ [] = subst (λ o. Words (p.optional a.initial o) l d v) is m in (
            (e.name, (e.dimensions, e.coshape)),
            ap (λ o. record { name = e.name; dimensions = e.dimensions; coshape = e.coshape; initial = o }) is,
            subst (λ z. Words (shaped (e.name, (e.dimensions, e.coshape))) l d z) (sym (split ∙ (ap (λ z. u ++ z) gone ∙ append-nil u))) k,
          )

each_full_entity : Everywhere (Of (entity_in true)) entity_more (an_entity true)
each_full_entity limit left level h = relabel (Both entity_of (Of shaped limit level) (Of (p.optional a.initial) limit level)) (Of (entity_in true) limit level) (an_entity true left) entity_more entity_more
    (exact_both entity_of (Of shaped limit level) (Of (p.optional a.initial) limit level) (a_shaped left) (initial_part left) shape_more entity_more (each_shaped limit left level h) (each_initial limit left level h) (initial_apart limit level))
    (λ e w (q, o, is, (u, v, k, m, split)). subst (λ z. Words (entity_in true z) limit level w) (sym is) (refl, put limit level q o u v w k m split))
    (λ e w (f, o). ((e.name, (e.dimensions, e.coshape)), e.initial, refl, parts limit level e w o)) (λ rest o. o)

each_plain_entity : Everywhere (Of (entity_in false)) entity_more (an_entity false)
each_plain_entity limit left level h = exact_mapped plain_entity (Of shaped limit level) (Of (entity_in false) limit level) (a_shaped left) shape_more entity_more (each_shaped limit left level h)
    (λ q w o. (refl, put limit level q None w [] w o refl (sym (append-nil w)))) (plain_out limit level) (stops_first shape_more initial_more)

each_entity : (b : Bool) → Everywhere (Of (entity_in b)) entity_more (an_entity b)
each_entity true = each_full_entity
each_entity false = each_plain_entity

abbrev entities_more : Token → Bool
entities_more = or_comma entity_more

each_entities : (b : Bool) → Everywhere (Of (p.listed (entity_in b))) entities_more (λ left. list_of (an_entity b left))
each_entities b = each_listed (entity_in b) entity_more (an_entity b) (each_entity b) (λ at. refl)

-- the type and the attributes
abbrev attributes_more : Token → Bool
attributes_more = either_of type_more (or_comma never)

attributes_apart : (l d : ℕ) (xs : List Attribute) (w : List (Mark Token)) (rest : List Token) → Words (p.followed a.attribute xs) l d w → Stops attributes_more rest → Stops type_more (bare w ++ rest)
attributes_apart l d [] w rest h st = subst (λ z. Stops type_more (bare z ++ rest)) (sym h) (stops_first type_more (or_comma never) rest st)
attributes_apart l d (x ∷ xs) w rest h st = sign_stops sign.Comma (a.attribute x ▸ p.followed a.attribute xs) l d w rest type_more (λ at. refl) h

each_attributes : Everywhere (Of (p.followed a.attribute)) attributes_more (λ left. followed_by (an_attribute left))
each_attributes limit left level h = widen (Of (p.followed a.attribute) limit level) (followed_by (an_attribute left)) (or_comma never) attributes_more (each_followed a.attribute never an_attribute each_attribute (λ at. refl) limit left level h) (stops_second type_more (or_comma never))

abbrev declared : DeclarationTypeSpec × List Attribute → Phrase
declared q = a.declaration_type_spec q.0 ▸ p.followed a.attribute q.1

each_declared : Everywhere (Of declared) attributes_more a_declared
each_declared = each_pair a.declaration_type_spec (p.followed a.attribute) type_more attributes_more a_type (λ left. followed_by (an_attribute left)) each_type each_attributes attributes_apart

-- `::`
abbrev colons_more : Token → Bool
colons_more = either_of (is_sign sign.Colons) attributes_more

abbrev Colons_here : ℕ → ℕ → Bool → List (Mark Token) → Type 0
Colons_here = Made (λ z. true) (λ (z : Unit {0}). p.sign sign.Colons)

each_no_attribute : Everywhere (Of (colons_or [])) colons_more (a_colons [])
each_no_attribute limit left level h = relabel (Or (Colons_here limit level) (Nothing false)) (Of (colons_or []) limit level) (a_colons [] left) colons_more colons_more
    (exact_pick (is_sign sign.Colons) (Colons_here limit level) (Nothing false) (mapped (λ z. true) (a_sign sign.Colons left)) (found false) never never
    (each_made (λ z. true) (λ (z : Unit {0}). p.sign sign.Colons) never (a_sign sign.Colons) (each_sign sign.Colons) limit left level h) (exact_nothing false) colons_more
    (λ b w (z, is, (at, o)). subst (Heads (is_sign sign.Colons)) (sym o) refl)
    (λ b w rest o st. subst (λ z. Stops (is_sign sign.Colons) (bare z ++ rest)) (sym o.1) (stops_first (is_sign sign.Colons) attributes_more rest st)) (λ rest o. never_stops rest) (λ rest o. never_stops rest))
    into from (λ rest o. o)
  where
    into : (b : Bool) (w : List (Mark Token)) → Or (Colons_here limit level) (Nothing false) b w → Words (colons_or [] b) limit level w
    into b w (inl (z, is, o)) = subst (λ z. Words (colons_or [] z) limit level w) (sym is) o
    into b w (inr (is, o)) = subst (λ z. Words (colons_or [] z) limit level w) (sym is) (refl, o)

    from : (b : Bool) (w : List (Mark Token)) → Words (colons_or [] b) limit level w → Or (Colons_here limit level) (Nothing false) b w
    from true w o = inl (tt, refl, o)
    from false w o = inr (refl, o.1)

each_with_attribute : (x : Attribute) (xs : List Attribute) → Everywhere (Of (colons_or (x ∷ xs))) colons_more (a_colons (x ∷ xs))
each_with_attribute x xs limit left level h = relabel (Colons_here limit level) (Of (colons_or (x ∷ xs)) limit level) (a_colons (x ∷ xs) left) never colons_more
    (each_made (λ z. true) (λ (z : Unit {0}). p.sign sign.Colons) never (a_sign sign.Colons) (each_sign sign.Colons) limit left level h)
    (λ b w (z, is, o). subst (λ z. Words (colons_or (x ∷ xs) z) limit level w) (sym is) o) from (λ rest o. never_stops rest)
  where
    from : (b : Bool) (w : List (Mark Token)) → Words (colons_or (x ∷ xs) b) limit level w → Colons_here limit level b w
    from true w o = (tt, refl, o)
    from false w o = absurd (false≢true o.0)

each_colons : (xs : List Attribute) → Everywhere (Of (colons_or xs)) colons_more (a_colons xs)
each_colons [] = each_no_attribute
each_colons (x ∷ xs) = each_with_attribute x xs

colons_apart : (l d : ℕ) (xs : List Attribute) (b : Bool) (w : List (Mark Token)) (rest : List Token) → Words (colons_or xs b) l d w → Stops colons_more rest → Stops attributes_more (bare w ++ rest)
colons_apart l d xs true w rest (at, o) st = subst (λ z. Stops attributes_more (bare z ++ rest)) (sym o) refl
colons_apart l d xs false w rest (f, o) st = subst (λ z. Stops attributes_more (bare z ++ rest)) (sym o) (stops_second (is_sign sign.Colons) attributes_more rest st)

abbrev First_part : ℕ → ℕ → (DeclarationTypeSpec × List Attribute) × Bool → List (Mark Token) → Type 0
First_part l d = By pair (Of declared l d) (λ q. Of (colons_or q.1) l d)

each_first_part : Everywhere First_part colons_more declared_by
each_first_part limit left level h = exact_by pair (Of declared limit level) (λ q. Of (colons_or q.1) limit level) (a_declared left) (λ q. a_colons q.1 left) attributes_more colons_more
    (each_declared limit left level h) (λ q. each_colons q.1 limit left level h) (λ q b w rest o st. colons_apart limit level q.1 b w rest o st)

word_no_colons : (y : Token) → is_word y ≡ true → colons_more y ≡ false
word_no_colons y h = by_tok y.tok h
  where
    by_tok : (k : Tok) → is_word (record { tok = k; at = y.at }) ≡ true → colons_more (record { tok = k; at = y.at }) ≡ false
    by_tok (t.word x) h = refl
    by_tok k h = absurd (false≢true h)

entities_head : (l d : ℕ) (b : Bool) (es : List Entity) (w : List (Mark Token)) → Words (p.listed (entity_in b) es) l d w → Heads is_word w
entities_head l d b [] w h = absurd (false≢true h.0)
entities_head l d b (e ∷ es) w (u, v, (f, (i, j, n, h, split2)), rest, split) = subst (Heads is_word) (sym (split ∙ ap (λ z. z ++ v) (split2 ∙ ap (λ z. z ++ j) n))) refl

abbrev Declared_parts : ℕ → ℕ → ((DeclarationTypeSpec × List Attribute) × Bool) × List Entity → List (Mark Token) → Type 0
Declared_parts l d = By pair (First_part l d) (λ q. Of (p.listed (entity_in q.1)) l d)

each_parts : Everywhere Declared_parts entities_more some_entities
each_parts limit left level h = exact_by pair (First_part limit level) (λ q. Of (p.listed (entity_in q.1)) limit level) (declared_by left) (λ q. list_of (an_entity q.1 left)) colons_more entities_more
    (each_first_part limit left level h) (λ q. each_entities q.1 limit left level h)
    (λ q es w rest o st. heads_stop is_word colons_more word_no_colons w rest (entities_head limit level q.1 es w o))

-- One phrase for them, with `::` told by a truth value.
abbrev parts_phrase : ((DeclarationTypeSpec × List Attribute) × Bool) × List Entity → Phrase
parts_phrase q = declared q.0.0 ▸ (colons_or q.0.0.1 q.0.1 ▸ p.listed (entity_in q.0.1) q.1)

each_phrase : Everywhere (Of parts_phrase) entities_more some_entities
each_phrase limit left level h = relabel (Declared_parts limit level) (Of parts_phrase limit level) (some_entities left) entities_more entities_more (each_parts limit left level h) into from (λ rest o. o)
  where
    into : (q : ((DeclarationTypeSpec × List Attribute) × Bool) × List Entity) (w : List (Mark Token)) → Declared_parts limit level q w → Words (parts_phrase q) limit level w
    into q w (f, es, is, (u, v, (b, c, same, (i, j, h, k, split2)), o, split)) =
        subst (λ z. Words (parts_phrase z) limit level w) (sym (is ∙ ap (λ z. (z, es)) same)) (i, j ++ v, h, (j, v, k, subst (λ z. Words (p.listed (entity_in z.1) es) limit level v) same o, refl), split ∙ (ap (λ z. z ++ v) split2 ∙ append_assoc i j v))

    from : (q : ((DeclarationTypeSpec × List Attribute) × Bool) × List Entity) (w : List (Mark Token)) → Words (parts_phrase q) limit level w → Declared_parts limit level q w
    from q w (i, j, h, (m, n, k, o, split2), split) = (q.0, q.1, refl, (i ++ m, n, (q.0.0, q.0.1, refl, (i, m, h, k, refl)), o, split ∙ (ap (λ z. i ++ z) split2 ∙ sym (append_assoc i m n))))

declared_heads : (l d : ℕ) (q : ((DeclarationTypeSpec × List Attribute) × Bool) × List Entity) (w : List (Mark Token)) → Words (parts_phrase q ▸ p.over) l d w → Heads is_word w
declared_heads l d q w (u, v, (i, j, (m, n, h, k, split3), o, split2), e, split) = front u v w (front i j u (front m n i (type_heads q.0.0.0 m h) split3) split2) split
  where
    front : (u v w : List (Mark Token)) → Heads is_word u → w ≡ u ++ v → Heads is_word w
    front [] v w h e = absurd h
    front (x ∷ u) v w h e = subst (Heads is_word) (sym e) h

    type_heads : (x : DeclarationTypeSpec) (w : List (Mark Token)) → Words (a.declaration_type_spec x) l d w → Heads is_word w
    type_heads (st.integer y) w (u, v, (at, c), h, split) = subst (Heads is_word) (sym (split ∙ ap (λ z. z ++ v) c)) refl
    type_heads (st.logical y) w (u, v, (at, c), h, split) = subst (Heads is_word) (sym (split ∙ ap (λ z. z ++ v) c)) refl
    type_heads (st.derived y) w (u, v, (at, c), h, split) = subst (Heads is_word) (sym (split ∙ ap (λ z. z ++ v) c)) refl

each_placed_parts : Everywhere (Of (λ q. p.from q.0 (parts_phrase q.1 ▸ p.over))) never (located (with some_entities an_end))
each_placed_parts = each_located (λ q. parts_phrase q ▸ p.over) is_word never (with some_entities an_end) (each_ended parts_phrase entities_more some_entities each_phrase (λ at. refl)) declared_heads

-- the grammar's declarations
module _ (l d : ℕ) where
  -- entities with initial values where `::` stands, and where it doesn't, without
  all_entities : (b : Bool) (es : List Entity) (w : List (Mark Token)) → Words (p.followed (entity_in b) es) l d w → Words (p.followed a.entity es) l d w
  all_entities b [] w h = h
  all_entities b (e ∷ es) w (u, v, c, (i, j, h, rest, split2), split) = (u, v, c, (i, j, h.1, all_entities b es j rest, split2), split)

  plain_entities : (es : List Entity) (w : List (Mark Token)) → Words (p.followed (entity_in false) es) l d w → a.no_initial es ≡ true
  plain_entities [] w h = refl
  plain_entities (e ∷ es) w (u, v, c, (i, j, h, rest, split2), split) = ap (λ b. b && a.no_initial es) h.0 ∙ plain_entities es j rest

  allowed : (b : Bool) (es : List Entity) (w : List (Mark Token)) → (b || a.no_initial es) ≡ true → Words (p.followed a.entity es) l d w → Words (p.followed (entity_in b) es) l d w
  allowed b [] w f h = h
  allowed true (e ∷ es) w f (u, v, c, (i, j, h, rest, split2), split) = (u, v, c, (i, j, (refl, h), allowed true es j refl rest, split2), split)
  allowed false (e ∷ es) w f (u, v, c, (i, j, h, rest, split2), split) = let k = both_true (a.is_none e.initial) f in (u, v, c, (i, j, (k.0, h), allowed false es j k.1 rest, split2), split)
    where
      both_true : (b : Bool) → (b && a.no_initial es) ≡ true → (b ≡ true) × (a.no_initial es ≡ true)
      both_true true f = (refl, f)
      both_true false f = absurd (false≢true f)

  some_entities_in : (b : Bool) (es : List Entity) (w : List (Mark Token)) → Words (p.listed (entity_in b) es) l d w → Words (p.listed a.entity es) l d w
  some_entities_in b [] w h = h
  some_entities_in b (e ∷ es) w (u, v, h, rest, split) = (u, v, h.1, all_entities b es v rest, split)

  none_initial : (es : List Entity) (w : List (Mark Token)) → Words (p.listed (entity_in false) es) l d w → a.no_initial es ≡ true
  none_initial [] w h = refl
  none_initial (e ∷ es) w (u, v, h, rest, split) = ap (λ b. b && a.no_initial es) h.0 ∙ plain_entities es v rest

  some_entities_out : (b : Bool) (es : List Entity) (w : List (Mark Token)) → (b || a.no_initial es) ≡ true → Words (p.listed a.entity es) l d w → Words (p.listed (entity_in b) es) l d w
  some_entities_out b [] w f h = h
  some_entities_out true (e ∷ es) w f (u, v, h, rest, split) = (u, v, (refl, h), allowed true es v refl rest, split)
  some_entities_out false (e ∷ es) w f (u, v, h, rest, split) = let k = two (a.is_none e.initial) f in (u, v, (k.0, h), allowed false es v k.1 rest, split)
    where
      two : (b : Bool) → (b && a.no_initial es) ≡ true → (b ≡ true) × (a.no_initial es ≡ true)
      two true f = (refl, f)
      two false f = absurd (false≢true f)

  colons_in : (x : Declaration) (b : Bool) (v w : List (Mark Token)) → Words (colons_or x.attributes b) l d w → Words (p.listed (entity_in b) x.entities) l d v → Words (a.colons x) l d w
  colons_in x true v w h k = inl h
  colons_in x false v w h k = inr (ap (λ b. b && a.no_initial x.entities) h.0 ∙ none_initial x.entities v k, h.1)

  colons_out : (x : Declaration) (w : List (Mark Token)) → Words (a.colons x) l d w → (b : Bool) × ((b || a.no_initial x.entities) ≡ true) × Words (colons_or x.attributes b) l d w
  colons_out x w (inl h) = (true, refl, h)
  colons_out x w (inr h) = let k = two (a.no_attribute x.attributes) h.0 in (false, k.1, (k.0, h.1))
    where
      two : (b : Bool) → (b && a.no_initial x.entities) ≡ true → (b ≡ true) × (a.no_initial x.entities ≡ true)
      two true f = (refl, f)
      two false f = absurd (false≢true f)

  abbrev Parted : Type 0
  Parted = Pos × (((DeclarationTypeSpec × List Attribute) × Bool) × List Entity)

  into_declaration : (q : Parted) (w : List (Mark Token)) → Words (p.from q.0 (parts_phrase q.1 ▸ p.over)) l d w → Words (a.declaration (declaration_of q)) l d w
  into_declaration q w (there, (u, v, (i, j, (m, n, ht, ha, s3), (x, y, hc, he, s4), s2), ho, s1)) = (
    there,
    (
      m,
      n ++ (x ++ (y ++ v)),
      ht,
      (n, x ++ (y ++ v), ha, (x, y ++ v, colons_in (declaration_of q) q.1.0.1 y x hc he, (y, v, some_entities_in q.1.0.1 q.1.1 y he, ho, refl), refl), refl),
      s1 ∙ (ap (λ z. z ++ v) (s2 ∙ (ap (λ z. z ++ j) s3 ∙ ap (λ z. (m ++ n) ++ z) s4)) ∙ (append_assoc (m ++ n) (x ++ y) v ∙ (append_assoc m n ((x ++ y) ++ v) ∙ ap (λ z. m ++ (n ++ z)) (append_assoc x y v)))),
    ),
  )

  from_declaration : (b : Declaration) (w : List (Mark Token)) → Words (a.declaration b) l d w → (q : Parted) × (b ≡ declaration_of q) × Words (p.from q.0 (parts_phrase q.1 ▸ p.over)) l d w
  from_declaration b w (there, (m, n1, ht, (n, x1, ha, (x, y1, hc, (y, v, he, ho, s4), s3), s2), s1)) =
      let k = colons_out b x hc in (
        (b.at, (((b.type_spec, b.attributes), k.0), b.entities)),
        refl,
        (
          there,
          (
            (m ++ n) ++ (x ++ y),
            v,
            (m ++ n, x ++ y, (m, n, ht, ha, refl), (x, y, k.2, some_entities_out k.0 b.entities y k.1 he, refl), refl),
            ho,
            s1 ∙ (ap (λ z. m ++ z) (s2 ∙ ap (λ z. n ++ z) (s3 ∙ (ap (λ z. x ++ z) s4 ∙ sym (append_assoc x y v)))) ∙ (sym (append_assoc m n ((x ++ y) ++ v)) ∙ sym (append_assoc (m ++ n) (x ++ y) v))),
          ),
        ),
      )

-- the statement
pub each_declaration : Everywhere (Of a.declaration) never a_declaration
each_declaration = each_mapped declaration_of (λ q. p.from q.0 (parts_phrase q.1 ▸ p.over)) a.declaration never (located (with some_entities an_end)) each_placed_parts into_declaration from_declaration
