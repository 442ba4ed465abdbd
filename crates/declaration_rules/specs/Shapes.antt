-- Shapes of entities, by what is asked of their expressions: the words of the definitions of declarations (8.5.8,
-- 8.5.6), without the scope.
use Rattle.std.specs.Prelude.{ℤ, Bool, true, false, List, [], ◌∷◌, ◌++◌, Option, Some, None}
use Rattle.rule_definitions.specs.declared.broken.Broken.{Broken}
use Rattle.rule_definitions.specs.Judgements.{Judgement, unknown}
use Rattle.fortran_tree.specs.Statements as d
use Rattle.rule_definitions.specs.Names.{KnownBounds, Scope}
use Rattle.declaration_rules.specs.Asked.{Asked, plain_worth}
use Rattle.declaration_rules.specs.Bounds.{AskedBounds, bounds_asked_of, asked_bounds, bounds_asked}
use Rattle.declaration_rules.specs.declared.dimension.AskedDimension.{AskedDimension as DimensionInMemory}
use Rattle.declaration_rules.specs.declared.dimension.AskedDimension.TheVariants as dimensions

pub data AskedDimension : Type 0 where
  colon : AskedDimension
  explicit : AskedBounds → AskedDimension

abbrev pub asked_dimension : DimensionInMemory → AskedDimension
asked_dimension dimensions.Deferred = colon
asked_dimension (dimensions.Explicit b) = explicit (asked_bounds b)

-- what breaks in the expressions alone
abbrev pub raw_asked : Option Asked → List Broken
raw_asked None = []
raw_asked (Some a) = (plain_worth a).breaks

abbrev pub raw_bounds_asked : AskedBounds → List Broken
raw_bounds_asked b = raw_asked b.lower ++ raw_asked (Some b.upper)

abbrev pub raw_dimension_asked : AskedDimension → List Broken
raw_dimension_asked colon = []
raw_dimension_asked (explicit b) = raw_bounds_asked b

abbrev pub raw_dimensions_asked : List AskedDimension → List Broken
raw_dimensions_asked [] = []
raw_dimensions_asked (x ∷ xs) = raw_dimension_asked x ++ raw_dimensions_asked xs

-- one dimension: no bounds are known of an allocatable
abbrev pub explicit_asked : Bool → AskedBounds → Judgement (ℤ × ℤ)
explicit_asked true b = record { breaks = raw_bounds_asked b; meaning = None }
explicit_asked false b = bounds_asked b

abbrev pub dimension_asked : Bool → AskedDimension → Judgement (ℤ × ℤ)
dimension_asked a colon = unknown
dimension_asked a (explicit b) = explicit_asked a b

abbrev pub known_dimension : Bool → AskedDimension → KnownBounds
known_dimension a x = (dimension_asked a x).meaning

abbrev pub dimensions_asked : Bool → List AskedDimension → List Broken
dimensions_asked a [] = []
dimensions_asked a (x ∷ xs) = (dimension_asked a x).breaks ++ dimensions_asked a xs

-- what is asked of a dimension in a scope
abbrev pub dimension_asked_of : Scope → d.Dimension → AskedDimension
dimension_asked_of s (d.deferred p) = colon
dimension_asked_of s (d.explicit b) = explicit (bounds_asked_of s b)
