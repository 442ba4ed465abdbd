-- Types, attributes and entities of declarations are read exactly.
use Rattle.std.proofs.Common.{◌≡◌, ℕ, ◌+◌, ◌≤◌, Bool, true, false, cond, nat_lt, codes, List, [], ◌∷◌, ◌++◌, Option, Some, None, inl, inr, refl, ap, sym, ◌∙◌, subst, arith, append_assoc, append-nil}
use Rattle.std.proofs.lemmas.Bool.{false≢true, le-ltb}
use Rattle.reader_theory.specs.Words.{Mark, bare}
use Rattle.reader_theory.specs.Levels.{mark}
use Rattle.reader_theory.specs.Readers.{behind, two_pass}
use Rattle.reader_theory.specs.Exactness.{never, Heads, Eats, Exact}
use Rattle.reader_theory.specs.Languages.{Or}
use Rattle.reader_theory.proofs.Ahead.{exact_ahead}
use Rattle.reader_theory.proofs.Marks.{never_stops}
use Rattle.reader_theory.proofs.Single.{relabel}
use Rattle.fortran_tokens.specs.declared.token.Sign.TheVariants as sign
use Rattle.fortran_tree.specs.declared.declaration.Intent.{Intent}
use Rattle.fortran_tree.specs.declared.declaration.Intent.TheVariants as intents
use Rattle.fortran_tree.specs.declared.expr.NumberKind.TheVariants as kinds
use Rattle.fortran_tree.specs.Expressions as e
use Rattle.fortran_tree.specs.Expressions.{Expression}
use Rattle.fortran_tree.specs.Statements as s
use Rattle.fortran_tree.specs.Statements.{DeclarationTypeSpec, Dimension, CoarraySpec, Attribute, Entity}
use Rattle.fortran_grammar.specs.Tokens as t
use Rattle.fortran_grammar.specs.Tokens.{Tok, Token}
use Rattle.fortran_grammar.specs.Phrases as p
use Rattle.fortran_grammar.specs.Phrases.{Phrase, Words, ◌▸◌, ◌∪◌}
use Rattle.fortran_grammar.specs.ExpressionGrammar as g
use Rattle.fortran_grammar.specs.ActionGrammar as a
use Rattle.expr_reader.specs.Openings.{goes, opens}
use Rattle.expr_reader.specs.Tests.{is_sign, is_key, is_key_tok, is_word, name_of, a_name, list_of}
use Rattle.statement_reader.specs.Families.{rounded, squared, an_expression}
use Rattle.statement_reader.specs.Actions.{a_key}
use Rattle.statement_reader.specs.Dimensions.{a_dimension, a_coarray_spec}
use Rattle.statement_reader.specs.Heads.{behind_key}
use Rattle.statement_reader.specs.Declarations.{kind_value, a_kind, turned_to, a_type, in_or_both, maybe_out, an_intent, alone, an_attribute}
use Rattle.expr_reader.proofs.Phrases.{Of, or_comma, key_in, word_tok}
use Rattle.expr_reader.proofs.Pieces.{either_of, stops_first, stops_second}
use Rattle.expr_reader.proofs.Eating.{eats}
use Rattle.expr_reader.proofs.Seconds.{assigns, no_assign}
use Rattle.statement_reader.proofs.Families.{Everywhere, Made, Keyed, After, keyed_with, keyed_alone, keyed_or, key_tok, each_expression, each_name, each_key, each_behind_key, each_behind_sign, each_round, each_listed, each_maybe, each_made, key_heads, expression_heads}
use Rattle.statement_reader.proofs.Actions.{each_maybe_round}
use Rattle.statement_reader.proofs.Dimensions.{bounds_more, each_dimension, each_bracketed_coarray_spec}

-- [ "kind" "=" ] expr
abbrev kind_phrase : Expression → Phrase
kind_phrase x = (p.nothing ∪ p.key (codes "kind") ▸ p.sign sign.Assign) ▸ g.expr x

abbrev stated : Expression → Phrase
stated x = p.key (codes "kind") ▸ (p.sign sign.Assign ▸ g.expr x)

abbrev kind_more : Token → Bool
kind_more = either_of (is_sign sign.Assign) (goes 0)

key_is_word : (k : List ℕ) (y : Token) → is_key k y ≡ true → is_word y ≡ true
key_is_word k y h = subst (λ z. is_word (record { tok = z; at = y.at }) ≡ true) (sym (key_tok k y.tok h)) refl

pub not_key : (k : List ℕ) (y : Token) → is_word y ≡ false → is_key k y ≡ false
not_key k y h = by_tok y.tok h
  where
    by_tok : (z : Tok) → is_word (record { tok = z; at = y.at }) ≡ false → is_key_tok k z ≡ false
    by_tok (t.word x) h = absurd (false≢true (sym h))
    by_tok z h = refl

no_pair : (k : List ℕ) (ts : List Token) → assigns ts ≡ false → two_pass (is_key k) (is_sign sign.Assign) ts ≡ false
no_pair k [] h = refl
no_pair k (y ∷ []) h = refl
no_pair k (y ∷ z ∷ ts) h = by_test (is_key k y) refl
  where
    word_here : (b : Bool) → cond b (is_sign sign.Assign z) false ≡ false → b ≡ true → is_sign sign.Assign z ≡ false
    word_here true h i = h
    word_here false h i = absurd (false≢true i)

    by_test : (b : Bool) → is_key k y ≡ b → cond b (is_sign sign.Assign z) false ≡ false
    by_test true i = word_here (is_word y) h (key_is_word k y i)
    by_test false i = refl

any : Token → Bool
any y = true

module _ (limit left level : ℕ) (h : level + left ≡ limit) where
  here : level ≤ limit
  here = omega arith

  flat : nat_lt limit level ≡ false
  flat = le-ltb limit level here

  exact_stated : Exact (Of stated limit level) (goes 0) (behind (is_key (codes "kind")) (behind (is_sign sign.Assign) (an_expression left)))
  exact_stated = each_behind_key (λ x. p.sign sign.Assign ▸ g.expr x) (goes 0) (λ left. behind (is_sign sign.Assign) (an_expression left)) (each_behind_sign g.expr (goes 0) an_expression each_expression sign.Assign) (codes "kind") limit left level h

  nonempty : (test : Token → Bool) (w : List (Mark Token)) → Heads test w → Heads any w
  unfolding any
  nonempty test [] k = k
  nonempty test (m ∷ w) k = refl

  eats_stated : Eats (is_key (codes "kind")) (behind (is_key (codes "kind")) (behind (is_sign sign.Assign) (an_expression left)))
  eats_stated y u i k = eats (Of stated limit level) any (goes 0) (behind (is_key (codes "kind")) (behind (is_sign sign.Assign) (an_expression left))) exact_stated
      (λ x w o. nonempty is_word w (key_heads (codes "kind") (p.sign sign.Assign ▸ g.expr x) limit level w is_word (λ at. refl) o)) y u _ (e.number 0 kinds.Unstated y.at)
      (mark limit level y ∷ mark limit level (record { tok = t.sign sign.Assign; at = y.at }) ∷ mark limit level (record { tok = t.integer 0 kinds.Unstated; at = y.at }) ∷ [])
      (mark limit level y ∷ [], _ ∷ _ ∷ [], key_in limit level (codes "kind") y (mark limit level y ∷ []) (i, refl), (_ ∷ [], _ ∷ [], (y.at, refl), refl, refl), refl)
      (flat, (flat, (flat, tt))) refl k

  eats_plain : Eats (is_key (codes "kind")) (an_expression left)
  eats_plain y u i k = eats (Of g.expr limit level) any (goes 0) (an_expression left) (each_expression limit left level h) (λ x w o. nonempty (opens 1) w (expression_heads limit level x w o)) y u []
      (e.designator (e.part_ref (name_of y) e.no_section_subscripts e.no_image_selector)) (mark limit level y ∷ [])
      (mark limit level y ∷ [], [], ap (λ k. mark limit level (record { tok = k; at = y.at }) ∷ []) (word_tok y.tok (key_is_word (codes "kind") y i)), ([], [], refl, refl, refl), refl) (flat, tt) refl k

  stated_pair : (x : Expression) (w : List (Mark Token)) (rest : List Token) → Words (stated x) limit level w → two_pass (is_key (codes "kind")) (is_sign sign.Assign) (bare w ++ rest) ≡ true
  stated_pair x w rest (u, v, (at, q), (i, j, (at2, c), o, split2), split) =
      subst (λ z. two_pass (is_key (codes "kind")) (is_sign sign.Assign) (bare z ++ rest) ≡ true) (sym (split ∙ (ap (λ z. z ++ v) q ∙ ap (λ z. mark limit level (record { tok = t.word (codes "kind"); at = at }) ∷ z) (split2 ∙ ap (λ z. z ++ j) c)))) refl

  into_kind : (x : Expression) (w : List (Mark Token)) → Or (Of stated limit level) (Of g.expr limit level) x w → Words (kind_phrase x) limit level w
  into_kind x w (inl (u, v, q, (i, j, c, o, split2), split)) = (u ++ i, j, inr (u, i, q, c, refl), o, split ∙ (ap (λ z. u ++ z) split2 ∙ sym (append_assoc u i j)))
  into_kind x w (inr o) = ([], w, inl refl, o, refl)

  from_kind : (x : Expression) (w : List (Mark Token)) → Words (kind_phrase x) limit level w → Or (Of stated limit level) (Of g.expr limit level) x w
  from_kind x w (u, v, inl q, o, split) = inr (subst (λ z. Words (g.expr x) limit level z) (sym (split ∙ ap (λ z. z ++ v) q)) o)
  from_kind x w (u, v, inr (i, j, q, c, split2), o, split) = inl (i, j ++ v, q, (j, v, c, o, refl), split ∙ (ap (λ z. z ++ v) split2 ∙ append_assoc i j v))

  exact_kind_value : Exact (Of kind_phrase limit level) kind_more (kind_value left)
  exact_kind_value = relabel (Or (Of stated limit level) (Of g.expr limit level)) (Of kind_phrase limit level) (kind_value left) kind_more kind_more
      (exact_ahead (is_key (codes "kind")) (is_sign sign.Assign) (Of stated limit level) (Of g.expr limit level) _ _ (goes 0) (goes 0) exact_stated (each_expression limit left level h) kind_more stated_pair
      (λ x w rest o st. no_pair (codes "kind") (bare w ++ rest) (no_assign x limit level w rest o (stops_first (is_sign sign.Assign) (goes 0) rest st)))
      (stops_second (is_sign sign.Assign) (goes 0)) (stops_second (is_sign sign.Assign) (goes 0)) eats_stated eats_plain)
      into_kind from_kind (λ rest o. o)

each_kind : Everywhere (Of a.kind) (is_sign sign.OpenRound) a_kind
each_kind limit left level h = relabel (Of (p.optional (λ x. p.round (kind_phrase x))) limit level) (Of a.kind limit level) (a_kind left) (is_sign sign.OpenRound) (is_sign sign.OpenRound)
    (each_maybe_round kind_phrase kind_more kind_value exact_kind_value (λ at. refl) limit left level h) into from (λ rest o. o)
  where
    into : (o : Option Expression) (w : List (Mark Token)) → Words (p.optional (λ x. p.round (kind_phrase x)) o) limit level w → Words (a.kind o) limit level w
    into None w o = o
    into (Some x) w o = o

    from : (o : Option Expression) (w : List (Mark Token)) → Words (a.kind o) limit level w → Words (p.optional (λ x. p.round (kind_phrase x)) o) limit level w
    from None w o = o
    from (Some x) w o = o

-- types
abbrev Types : ℕ → ℕ → DeclarationTypeSpec → List (Mark Token) → Type 0
Types l d = Or (After (codes "integer") (Made s.integer a.kind) l d) (Or (After (codes "logical") (Made s.logical a.kind) l d) (After (codes "type") (Made s.derived (λ n. p.round (p.name n))) l d))

abbrev pub type_more : Token → Bool
type_more = is_sign sign.OpenRound

k_types : Keyed (codes "integer" ∷ codes "logical" ∷ codes "type" ∷ []) Types type_more a_type
k_types = keyed_or (codes "integer") _ (After (codes "integer") (Made s.integer a.kind)) _ type_more (behind_key (codes "integer") (turned_to s.integer a_kind)) _
    (keyed_with (Made s.integer a.kind) type_more (turned_to s.integer a_kind) (each_made s.integer a.kind type_more a_kind each_kind) (codes "integer") type_more (λ rest h. h))
    (keyed_or (codes "logical") _ (After (codes "logical") (Made s.logical a.kind)) _ type_more (behind_key (codes "logical") (turned_to s.logical a_kind)) _
    (keyed_with (Made s.logical a.kind) type_more (turned_to s.logical a_kind) (each_made s.logical a.kind type_more a_kind each_kind) (codes "logical") type_more (λ rest h. h))
    (keyed_with (Made s.derived (λ n. p.round (p.name n))) never (turned_to s.derived (rounded (λ l. a_name))) (each_made s.derived (λ n. p.round (p.name n)) never (rounded (λ l. a_name)) (each_round p.name never (λ l. a_name) each_name (λ at. refl))) (codes "type") type_more (λ rest h. never_stops rest)) refl) refl

pub each_type : Everywhere (Of a.declaration_type_spec) type_more a_type
each_type limit left level h = relabel (Types limit level) (Of a.declaration_type_spec limit level) (a_type left) type_more type_more (k_types.exact limit left level h) into from (λ rest o. o)
  where
    into : (x : DeclarationTypeSpec) (w : List (Mark Token)) → Types limit level x w → Words (a.declaration_type_spec x) limit level w
    into x w (inl (u, v, c, (q, is, o), split)) = subst (λ z. Words (a.declaration_type_spec z) limit level w) (sym is) (u, v, c, o, split)
    into x w (inr (inl (u, v, c, (q, is, o), split))) = subst (λ z. Words (a.declaration_type_spec z) limit level w) (sym is) (u, v, c, o, split)
    into x w (inr (inr (u, v, c, (q, is, o), split))) = subst (λ z. Words (a.declaration_type_spec z) limit level w) (sym is) (u, v, c, o, split)

    from : (x : DeclarationTypeSpec) (w : List (Mark Token)) → Words (a.declaration_type_spec x) limit level w → Types limit level x w
    from (s.integer k) w (u, v, c, o, split) = inl (u, v, c, (k, refl, o), split)
    from (s.logical k) w (u, v, c, o, split) = inr (inl (u, v, c, (k, refl, o), split))
    from (s.derived k) w (u, v, c, o, split) = inr (inr (u, v, c, (k, refl, o), split))

-- intents
abbrev Intents : ℕ → ℕ → Intent → List (Mark Token) → Type 0
Intents l d = Or (Made (λ z. intents.InOut) (λ (z : Unit {0}). p.key (codes "inout")) l d) (Or (Made (λ z. intents.Out) (λ (z : Unit {0}). p.key (codes "out")) l d) (After (codes "in") (Made in_or_both (p.optional (λ (z : Unit {0}). p.key (codes "out")))) l d))

each_maybe_out : Everywhere (Of (p.optional (λ (z : Unit {0}). p.key (codes "out")))) (is_key (codes "out")) maybe_out
each_maybe_out = each_maybe (λ (z : Unit {0}). p.key (codes "out")) never (a_key (codes "out")) (each_key (codes "out")) (is_key (codes "out")) (is_key (codes "out")) (λ l d z w (at, h). subst (Heads (is_key (codes "out"))) (sym h) refl) (λ rest h. never_stops rest) (λ rest h. h)

k_intents : Keyed (codes "inout" ∷ codes "out" ∷ codes "in" ∷ []) Intents (is_key (codes "out")) an_intent
k_intents = keyed_or (codes "inout") _ (Made (λ z. intents.InOut) (λ (z : Unit {0}). p.key (codes "inout"))) _ (is_key (codes "out")) (alone (codes "inout") intents.InOut) _ (keyed_alone (codes "inout") intents.InOut (is_key (codes "out")))
    (keyed_or (codes "out") _ (Made (λ z. intents.Out) (λ (z : Unit {0}). p.key (codes "out"))) _ (is_key (codes "out")) (alone (codes "out") intents.Out) _ (keyed_alone (codes "out") intents.Out (is_key (codes "out")))
    (keyed_with (Made in_or_both (p.optional (λ (z : Unit {0}). p.key (codes "out")))) (is_key (codes "out")) (turned_to in_or_both maybe_out) (each_made in_or_both (p.optional (λ (z : Unit {0}). p.key (codes "out"))) (is_key (codes "out")) maybe_out each_maybe_out) (codes "in") (is_key (codes "out")) (λ rest h. h)) refl) refl

each_intent : Everywhere (Of a.intent) (is_key (codes "out")) an_intent
each_intent limit left level h = relabel (Intents limit level) (Of a.intent limit level) (an_intent left) (is_key (codes "out")) (is_key (codes "out")) (k_intents.exact limit left level h) into from (λ rest o. o)
  where
    into : (x : Intent) (w : List (Mark Token)) → Intents limit level x w → Words (a.intent x) limit level w
    into x w (inl (z, is, o)) = subst (λ z. Words (a.intent z) limit level w) (sym is) (inr o)
    into x w (inr (inl (z, is, o))) = subst (λ z. Words (a.intent z) limit level w) (sym is) o
    into x w (inr (inr (u, v, c, (None, is, o), split))) = subst (λ z. Words (a.intent z) limit level w) (sym is) (subst (λ z. Words (p.key (codes "in")) limit level z) (sym (split ∙ (ap (λ z. u ++ z) o ∙ append-nil u))) c)
    into x w (inr (inr (u, v, c, (Some z, is, o), split))) = subst (λ z. Words (a.intent z) limit level w) (sym is) (inl (u, v, c, o, split))

    from : (x : Intent) (w : List (Mark Token)) → Words (a.intent x) limit level w → Intents limit level x w
    from intents.In w o = inr (inr (w, [], o, (None, refl, refl), sym (append-nil w)))
    from intents.Out w o = inr (inl (tt, refl, o))
    from intents.InOut w (inl (u, v, c, o, split)) = inr (inr (u, v, c, (Some tt, refl, o), split))
    from intents.InOut w (inr o) = inl (tt, refl, o)

-- attributes
abbrev Attributes : ℕ → ℕ → Attribute → List (Mark Token) → Type 0
Attributes l d = Or (After (codes "dimension") (Made s.dimension (λ ds. p.round (p.listed a.dimension ds))) l d) (Or (After (codes "codimension") (Made s.codimension a.bracketed_coarray_spec) l d)
    (Or (After (codes "intent") (Made s.intent (λ i. p.round (a.intent i))) l d) (Or (Made (λ z. s.parameter) (λ (z : Unit {0}). p.key (codes "parameter")) l d)
    (Or (Made (λ z. s.allocatable) (λ (z : Unit {0}). p.key (codes "allocatable")) l d) (Made (λ z. s.save) (λ (z : Unit {0}). p.key (codes "save")) l d)))))

k_attributes : Keyed (codes "dimension" ∷ codes "codimension" ∷ codes "intent" ∷ codes "parameter" ∷ codes "allocatable" ∷ codes "save" ∷ []) Attributes never an_attribute
k_attributes = keyed_or (codes "dimension") _ (After (codes "dimension") (Made s.dimension (λ ds. p.round (p.listed a.dimension ds)))) _ never (behind_key (codes "dimension") (turned_to s.dimension (rounded (λ l. list_of (a_dimension l))))) _
    (keyed_with (Made s.dimension (λ ds. p.round (p.listed a.dimension ds))) never (turned_to s.dimension (rounded (λ l. list_of (a_dimension l))))
    (each_made s.dimension (λ ds. p.round (p.listed a.dimension ds)) never (rounded (λ l. list_of (a_dimension l))) (each_round (p.listed a.dimension) (or_comma bounds_more) (λ l. list_of (a_dimension l)) (each_listed a.dimension bounds_more a_dimension each_dimension (λ at. refl)) (λ at. refl))) (codes "dimension") never (λ rest h. h))
    (keyed_or (codes "codimension") _ (After (codes "codimension") (Made s.codimension a.bracketed_coarray_spec)) _ never (behind_key (codes "codimension") (turned_to s.codimension (squared a_coarray_spec))) _
    (keyed_with (Made s.codimension a.bracketed_coarray_spec) never (turned_to s.codimension (squared a_coarray_spec)) (each_made s.codimension a.bracketed_coarray_spec never (squared a_coarray_spec) each_bracketed_coarray_spec) (codes "codimension") never (λ rest h. h))
    (keyed_or (codes "intent") _ (After (codes "intent") (Made s.intent (λ i. p.round (a.intent i)))) _ never (behind_key (codes "intent") (turned_to s.intent (rounded an_intent))) _
    (keyed_with (Made s.intent (λ i. p.round (a.intent i))) never (turned_to s.intent (rounded an_intent)) (each_made s.intent (λ i. p.round (a.intent i)) never (rounded an_intent) (each_round a.intent (is_key (codes "out")) an_intent each_intent (λ at. refl))) (codes "intent") never (λ rest h. h))
    (keyed_or (codes "parameter") _ (Made (λ z. s.parameter) (λ (z : Unit {0}). p.key (codes "parameter"))) _ never (alone (codes "parameter") s.parameter) _ (keyed_alone (codes "parameter") s.parameter never)
    (keyed_or (codes "allocatable") _ (Made (λ z. s.allocatable) (λ (z : Unit {0}). p.key (codes "allocatable"))) _ never (alone (codes "allocatable") s.allocatable) _ (keyed_alone (codes "allocatable") s.allocatable never)
    (keyed_alone (codes "save") s.save never) refl) refl) refl) refl) refl

pub each_attribute : Everywhere (Of a.attribute) never an_attribute
each_attribute limit left level h = relabel (Attributes limit level) (Of a.attribute limit level) (an_attribute left) never never (k_attributes.exact limit left level h) into from (λ rest o. o)
  where
    back : {B : Type 0} (k : List ℕ) (f : B → Attribute) (X : B → Phrase) → ((q : B) (w : List (Mark Token)) → Words (p.key k ▸ X q) limit level w → Words (a.attribute (f q)) limit level w) → (x : Attribute) (w : List (Mark Token)) → After k (Made f X) limit level x w → Words (a.attribute x) limit level w
    back k f X to x w (u, v, c, (q, is, o), split) = subst (λ z. Words (a.attribute z) limit level w) (sym is) (to q w (u, v, c, o, split))

    into : (x : Attribute) (w : List (Mark Token)) → Attributes limit level x w → Words (a.attribute x) limit level w
    into x w (inl o) = back (codes "dimension") s.dimension (λ ds. p.round (p.listed a.dimension ds)) (λ q w o. o) x w o
    into x w (inr (inl o)) = back (codes "codimension") s.codimension a.bracketed_coarray_spec (λ q w o. o) x w o
    into x w (inr (inr (inl o))) = back (codes "intent") s.intent (λ i. p.round (a.intent i)) (λ q w o. o) x w o
    into x w (inr (inr (inr (inl (z, is, o))))) = subst (λ z. Words (a.attribute z) limit level w) (sym is) o
    into x w (inr (inr (inr (inr (inl (z, is, o)))))) = subst (λ z. Words (a.attribute z) limit level w) (sym is) o
    into x w (inr (inr (inr (inr (inr (z, is, o)))))) = subst (λ z. Words (a.attribute z) limit level w) (sym is) o

    from : (x : Attribute) (w : List (Mark Token)) → Words (a.attribute x) limit level w → Attributes limit level x w
    from (s.dimension q) w (u, v, c, o, split) = inl (u, v, c, (q, refl, o), split)
    from (s.codimension q) w (u, v, c, o, split) = inr (inl (u, v, c, (q, refl, o), split))
    from (s.intent q) w (u, v, c, o, split) = inr (inr (inl (u, v, c, (q, refl, o), split)))
    from s.parameter w o = inr (inr (inr (inl (tt, refl, o))))
    from s.allocatable w o = inr (inr (inr (inr (inl (tt, refl, o)))))
    from s.save w o = inr (inr (inr (inr (inr (tt, refl, o)))))
