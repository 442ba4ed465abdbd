-- Initial values, by what is asked of their expressions: the words of the definitions of declarations (8.4), without
-- the scope.
use Rattle.std.specs.Prelude.{ℕ, ℤ, Bool, true, cond, nat_eq, List, [], Option, Some, None}
use Rattle.caf_base.specs.declared.place.Pos.{Pos}
use Rattle.coarray_types.specs.Places.{extent_of}
use Rattle.checked_tree.specs.declared.data.DataType.{DataType}
use Rattle.checked_tree.specs.declared.data.DataType.TheVariants.{Intrinsic}
use Rattle.rule_definitions.specs.Judgements.{Judgement, fine, unknown, ruled, then, is_nothing}
use Rattle.rule_definitions.specs.Names.{KnownBounds}
use Rattle.rule_definitions.specs.Constants.{Constancy}
use Rattle.rule_definitions.specs.Declarations.{Unit', value_breaks, constant_breaks, initialized_breaks}
use Rattle.declaration_rules.specs.Asked.{Asked, Worth, plain_worth, constant_worth}

abbrev pub is_extent : KnownBounds → ℕ → Bool
is_extent None n = true
is_extent (Some d) n = nat_eq (extent_of d) n

abbrev pub extent_of_bounds : ℤ → ℤ → ℕ
extent_of_bounds a b = extent_of (a, b)

-- a value for a variable of this type and shape
abbrev pub initial_of_worth : Option DataType → List KnownBounds → Pos → Worth → Judgement Constancy
initial_of_worth (Some (Intrinsic k)) ds p w = ruled (fine w.constancy) (value_breaks (Intrinsic k) ds w.of_type w.constancy p)
initial_of_worth y ds p w = ruled unknown (constant_breaks w.constancy p)

abbrev pub constant_initial_asked : Option DataType → List KnownBounds → Asked → Judgement Constancy
constant_initial_asked y ds a = then (constant_worth 22 a) (initial_of_worth y ds a.at)

abbrev pub initial_asked : Unit' → Bool → Bool → Option DataType → List KnownBounds → Asked → Judgement Constancy
initial_asked u is_named allocates y ds a =
    ruled (constant_initial_asked y ds a) (cond (is_nothing (plain_worth a).breaks) (initialized_breaks u is_named allocates y a.at) [])
