-- What MIN and MAX make of two integers.
use Rattle.std.specs.Prelude.{ℤ}
use Rattle.rule_definitions.specs.Constants.{Constancy, lesser, greater}
use Rattle.constant_values.specs.declared.extreme.Choice.{Choice}
use Rattle.constant_values.specs.declared.extreme.Choice.TheVariants as choices

abbrev pub choice_of : Choice → ℤ → ℤ → Constancy
choice_of choices.Lesser a b = lesser a b
choice_of choices.Greater a b = greater a b
