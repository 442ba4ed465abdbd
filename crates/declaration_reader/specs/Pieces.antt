-- Readers of pieces of declarations and of the headings of functions.
use Rattle.std.specs.Prelude.{Bool, true, false, codes, List, [], ◌∷◌, Option, Some, None}
use Rattle.reader_theory.specs.Readers.{behind, both, mapped, optional, pair, two_pass}
use Rattle.fortran_tokens.specs.declared.token.Sign.TheVariants as sign
use Rattle.fortran_tree.specs.declared.name.Name.{Name}
use Rattle.fortran_tree.specs.declared.declaration.Intent.{Intent}
use Rattle.fortran_tree.specs.Expressions.{Expression}
use Rattle.fortran_tree.specs.Statements as s
use Rattle.fortran_tree.specs.Statements.{Attribute, Bounds, CoarraySpec, DeclarationTypeSpec, Dimension}
use Rattle.fortran_grammar.specs.Tokens.{Token}
use Rattle.expr_reader.specs.Tests.{a_name, is_key, is_sign, list_of}
use Rattle.statement_reader.specs.Declarations.{a_kind, alone, an_intent, choose_alone, in_or_both, maybe_out, turned_to}
use Rattle.statement_reader.specs.Dimensions.{Bound, a_coarray_spec, a_dimension, a_sign, deferred_of, explicit_of, lower_or_last, maybe_coarray_spec, maybe_dimensions, some_cobounds}
use Rattle.statement_reader.specs.Families.{Family, an_expression, rounded, squared}
use Rattle.statement_reader.specs.Heads.{behind_key}
use Rattle.statement_reader.specs.Units.{maybe_result, names_or_none}

-- KIND and `=`, and what stands behind both
abbrev pub begins_kind : List Token → Bool
begins_kind ts = two_pass (is_key (codes "kind")) (is_sign sign.Assign) ts

abbrev pub keyed_kind : Family Expression
keyed_kind left = behind (is_key (codes "kind")) (behind (is_sign sign.Assign) (an_expression left))

-- the three types
abbrev pub integer_type : Family DeclarationTypeSpec
integer_type = behind_key (codes "integer") (turned_to s.integer a_kind)

abbrev pub logical_type : Family DeclarationTypeSpec
logical_type = behind_key (codes "logical") (turned_to s.logical a_kind)

abbrev pub derived_type : Family DeclarationTypeSpec
derived_type = behind_key (codes "type") (turned_to s.derived (rounded (λ l. a_name)))

-- the upper bound behind a lower one
abbrev pub upper_part : Family (Option Expression)
upper_part left = optional (is_sign sign.Colon) (behind (is_sign sign.Colon) (an_expression left))

abbrev pub dimension_list : Family (List Dimension)
dimension_list left = list_of (a_dimension left)

-- the two kinds of coarray-spec
abbrev pub a_colon : Family (Unit {0})
a_colon left = a_sign sign.Colon left

abbrev pub colons : Family (List (Unit {0}))
colons left = list_of (a_sign sign.Colon left)

abbrev pub deferred_coshape : Family CoarraySpec
deferred_coshape left = mapped deferred_of (colons left)

-- what ends a cobound, behind a lower one or behind none: whether it is a lower one
abbrev pub end_of_bound : Bool → Family Bool
end_of_bound true left = mapped (λ z. false) (a_sign sign.Comma left)
end_of_bound false left = lower_or_last left

-- what a cobound completes behind a lower one or behind none: bounds, or the lower cobound that it is itself
abbrev pub paired : Option Expression → Bound → List Bounds × Option Expression
paired None (e, true) = ([], Some e)
paired None (e, false) = (record { lower = None; upper = e } ∷ [], None)
paired (Some f) (e, c) = (record { lower = Some f; upper = e } ∷ [], None)

abbrev pub explicit_coshape : Family CoarraySpec
explicit_coshape left = mapped explicit_of (both pair (some_cobounds left) (a_sign sign.Star left))

-- attributes with something in brackets
abbrev pub dimension_attribute : Family Attribute
dimension_attribute = behind_key (codes "dimension") (turned_to s.dimension (rounded dimension_list))

abbrev pub codimension_attribute : Family Attribute
codimension_attribute = behind_key (codes "codimension") (turned_to s.codimension (squared a_coarray_spec))

abbrev pub intent_attribute : Family Attribute
intent_attribute = behind_key (codes "intent") (turned_to s.intent (rounded an_intent))

-- attributes that are a keyword
abbrev pub word_attribute : Family Attribute
word_attribute = choose_alone (codes "parameter") s.parameter (choose_alone (codes "allocatable") s.allocatable (alone (codes "save") s.save))

-- IN, and OUT behind it where it stands
abbrev pub in_intent : Family Intent
in_intent = behind_key (codes "in") (turned_to in_or_both maybe_out)

-- an entity's dimensions and its coshape
abbrev pub shape : Family (List Dimension × Option CoarraySpec)
shape left = both pair (maybe_dimensions left) (maybe_coarray_spec left)

-- a function's dummies and its result, and before them FUNCTION and its name
abbrev pub dummies : Family (List Name × Option Name)
dummies left = both pair (rounded names_or_none left) (maybe_result left)

abbrev pub keyed_signature : Family (Name × (List Name × Option Name))
keyed_signature = behind_key (codes "function") (λ l. both pair a_name (both pair (rounded names_or_none l) (maybe_result l)))
