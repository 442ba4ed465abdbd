-- Readers of parts of actions.
use Rattle.std.specs.Prelude.{Bool, true, false, List, [], ◌∷◌, Option, Some, None}
use Rattle.reader_theory.specs.Readers.{behind, both, mapped, optional, pair, two_pass}
use Rattle.fortran_tokens.specs.declared.token.Sign.TheVariants as sign
use Rattle.fortran_tree.specs.declared.name.Name.{Name}
use Rattle.fortran_tree.specs.Expressions.{Expression, Specifiers}
use Rattle.fortran_tree.specs.Statements.{Allocation, Bounds, CoarraySpec, Dimension, Item}
use Rattle.fortran_grammar.specs.Tokens.{Token}
use Rattle.expr_reader.specs.Tests.{a_name, is_sign, is_word, list_of}
use Rattle.statement_reader.specs.Actions.{begins_item, further_specifiers}
use Rattle.statement_reader.specs.Dimensions.{Bound, a_dimension, a_sign, an_allocation, deferred_of, explicit_of, lower_or_last, maybe_coarray_spec, maybe_dimensions, some_cobounds}
use Rattle.statement_reader.specs.Families.{Family, an_expression, maybe_list}
use Rattle.statement_reader.specs.Objects.{Choice, a_choice, some_objects}
use Rattle.statement_reader.specs.Statements.{item_reader}

-- an output item, and items with commas between them or none
abbrev pub an_item : Family Item
an_item left = item_reader (an_expression left)

abbrev pub maybe_items : Family (List Item)
maybe_items left = maybe_list begins_item (an_item left)

-- "," NAME { "," specifier }
abbrev pub team_variable : Family (Name × Specifiers)
team_variable left = behind (is_sign sign.Comma) (both pair a_name (further_specifiers left))

-- the upper bound behind a lower one, and dimensions with commas between them
abbrev pub upper_part : Family (Option Expression)
upper_part left = optional (is_sign sign.Colon) (behind (is_sign sign.Colon) (an_expression left))

abbrev pub dimension_list : Family (List Dimension)
dimension_list left = list_of (a_dimension left)

-- the two kinds of coarray-spec
abbrev pub a_colon : Family (Unit {0})
a_colon left = a_sign sign.Colon left

abbrev pub deferred_coshape : Family CoarraySpec
deferred_coshape left = mapped deferred_of (list_of (a_sign sign.Colon left))

abbrev pub explicit_coshape : Family CoarraySpec
explicit_coshape left = mapped explicit_of (both pair (some_cobounds left) (a_sign sign.Star left))

-- what ends a cobound, behind a lower one or behind none: whether it is a lower one
abbrev pub end_of_bound : Bool → Family Bool
end_of_bound true left = mapped (λ z. false) (a_sign sign.Comma left)
end_of_bound false left = lower_or_last left

-- what a cobound completes behind a lower one or behind none: bounds, or the lower cobound that it is itself
abbrev pub paired : Option Expression → Bound → List Bounds × Option Expression
paired None (e, true) = ([], Some e)
paired None (e, false) = (record { lower = None; upper = e } ∷ [], None)
paired (Some f) (e, c) = (record { lower = Some f; upper = e } ∷ [], None)

-- an object's dimensions and its coshape
abbrev pub shape : Family (List Dimension × Option CoarraySpec)
shape left = both pair (maybe_dimensions left) (maybe_coarray_spec left)

-- a name and `=`
abbrev pub begins_specifier : List Token → Bool
begins_specifier ts = two_pass is_word (is_sign sign.Assign) ts

-- an object or a specifier behind a comma; behind a specifier stand specifiers alone
abbrev pub another : {A : Type 0} → Family A → Bool → Family (Choice A)
another r b left = behind (is_sign sign.Comma) (a_choice r b left)

-- objects and specifiers behind them, of ALLOCATE and of DEALLOCATE
abbrev pub allocations : Family (List Allocation × Specifiers)
allocations = some_objects an_allocation

abbrev pub deallocations : Family (List Name × Specifiers)
deallocations = some_objects (λ left. a_name)
