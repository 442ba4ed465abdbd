-- Readers of type declaration statements (ISO/IEC 1539-1:2018, 8.2).
use Rattle.std.specs.Prelude.{ℕ, Bool, true, false, ◌||◌, codes, List, [], ◌∷◌, Option, Some, None}
use Rattle.caf_base.specs.declared.place.Pos.{Pos}
use Rattle.reader_theory.specs.Words.{found}
use Rattle.reader_theory.specs.Readers.{both, both_by, mapped, pick, optional, ahead, behind, pair}
use Rattle.fortran_tokens.specs.declared.token.Sign.TheVariants as sign
use Rattle.fortran_tree.specs.declared.name.Name.{Name}
use Rattle.fortran_tree.specs.declared.declaration.Intent.{Intent}
use Rattle.fortran_tree.specs.declared.declaration.Intent.TheVariants as intents
use Rattle.fortran_tree.specs.Expressions.{Expression}
use Rattle.fortran_tree.specs.Statements as s
use Rattle.fortran_tree.specs.Statements.{DeclarationTypeSpec, Dimension, CoarraySpec, Attribute, Entity, Declaration}
use Rattle.fortran_grammar.specs.Phrases as p
use Rattle.fortran_grammar.specs.Phrases.{Phrase, ◌▸◌}
use Rattle.fortran_grammar.specs.ActionGrammar as a
use Rattle.expr_reader.specs.Tests.{is_sign, is_key, a_name, placed, list_of, followed_by}
use Rattle.statement_reader.specs.Families.{Family, rounded, squared, an_expression}
use Rattle.statement_reader.specs.Actions.{a_key}
use Rattle.statement_reader.specs.Dimensions.{a_sign, a_dimension, maybe_dimensions, a_coarray_spec, maybe_coarray_spec}
use Rattle.statement_reader.specs.Heads.{an_end, with, behind_key}

-- [ "(" [ "kind" "=" ] expr ")" ]
abbrev pub kind_value : Family Expression
kind_value left = ahead (is_key (codes "kind")) (is_sign sign.Assign) (behind (is_key (codes "kind")) (behind (is_sign sign.Assign) (an_expression left))) (an_expression left)

abbrev pub a_kind : Family (Option Expression)
a_kind left = optional (is_sign sign.OpenRound) (rounded kind_value left)

abbrev pub turned_to : {A B : Type 0} → (A → B) → Family A → Family B
turned_to f r left = mapped f (r left)

abbrev pub choose : {A : Type 0} → List ℕ → Family A → Family A → Family A
choose k r q left = pick (is_key k) (behind_key k r left) (q left)

abbrev pub a_type : Family DeclarationTypeSpec
a_type = choose (codes "integer") (turned_to s.integer a_kind) (choose (codes "logical") (turned_to s.logical a_kind) (behind_key (codes "type") (turned_to s.derived (rounded (λ l. a_name)))))

-- "in" | "out" | "in" "out" | "inout"
abbrev pub in_or_both : Option (Unit {0}) → Intent
in_or_both None = intents.In
in_or_both (Some z) = intents.InOut

abbrev pub alone : {A : Type 0} → List ℕ → A → Family A
alone k x left = mapped (λ z. x) (a_key k left)

abbrev pub choose_alone : {A : Type 0} → List ℕ → A → Family A → Family A
choose_alone k x q left = pick (is_key k) (alone k x left) (q left)

abbrev pub maybe_out : Family (Option (Unit {0}))
maybe_out left = optional (is_key (codes "out")) (a_key (codes "out") left)

abbrev pub an_intent : Family Intent
an_intent = choose_alone (codes "inout") intents.InOut (choose_alone (codes "out") intents.Out (behind_key (codes "in") (turned_to in_or_both maybe_out)))

-- an attribute
abbrev pub an_attribute : Family Attribute
an_attribute = choose (codes "dimension") (turned_to s.dimension (rounded (λ l. list_of (a_dimension l)))) (choose (codes "codimension") (turned_to s.codimension (squared a_coarray_spec))
    (choose (codes "intent") (turned_to s.intent (rounded an_intent)) (choose_alone (codes "parameter") s.parameter (choose_alone (codes "allocatable") s.allocatable (alone (codes "save") s.save)))))

-- An entity: with an initial value only where `::` stands before it.
abbrev pub Shaped : Type 0
Shaped = Name × (List Dimension × Option CoarraySpec)

abbrev pub a_shaped : Family Shaped
a_shaped left = both pair a_name (both pair (maybe_dimensions left) (maybe_coarray_spec left))

abbrev pub entity_of : Shaped → Option Expression → Entity
entity_of q o = record { name = q.0; dimensions = q.1.0; coshape = q.1.1; initial = o }

abbrev pub plain_entity : Shaped → Entity
plain_entity q = entity_of q None

abbrev pub initial_part : Family (Option Expression)
initial_part left = optional (is_sign sign.Assign) (behind (is_sign sign.Assign) (an_expression left))

abbrev pub an_entity : Bool → Family Entity
an_entity true left = both entity_of (a_shaped left) (initial_part left)
an_entity false left = mapped plain_entity (a_shaped left)

abbrev pub entity_in : Bool → Entity → Phrase
entity_in b e = p.only (b || a.is_none e.initial) (a.entity e)

-- `::`, which stands where there are attributes
abbrev pub a_colons : List Attribute → Family Bool
a_colons [] left = pick (is_sign sign.Colons) (mapped (λ z. true) (a_sign sign.Colons left)) (found false)
a_colons (x ∷ xs) left = mapped (λ z. true) (a_sign sign.Colons left)

abbrev pub colons_or : List Attribute → Bool → Phrase
colons_or xs true = p.sign sign.Colons
colons_or xs false = p.only (a.no_attribute xs) p.nothing

-- The parts of a declaration: its type and attributes, whether `::` stands behind them, and its entities.
abbrev pub a_declared : Family (DeclarationTypeSpec × List Attribute)
a_declared left = both pair (a_type left) (followed_by (an_attribute left))

abbrev pub declared_by : Family ((DeclarationTypeSpec × List Attribute) × Bool)
declared_by left = both_by pair (a_declared left) (λ q. a_colons q.1 left)

abbrev pub some_entities : Family (((DeclarationTypeSpec × List Attribute) × Bool) × List Entity)
some_entities left = both_by pair (declared_by left) (λ q. list_of (an_entity q.1 left))

abbrev pub declaration_of : Pos × (((DeclarationTypeSpec × List Attribute) × Bool) × List Entity) → Declaration
declaration_of q = record { type_spec = q.1.0.0.0; attributes = q.1.0.0.1; entities = q.1.1; at = q.0 }

abbrev pub a_declaration : Family Declaration
a_declaration left = mapped declaration_of (placed pair (with some_entities an_end left))
