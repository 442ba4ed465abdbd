-- What was found of an initial value, as the definitions say it.
use Rattle.std.specs.Prelude.{ℕ, length, List, [], ◌∷◌, Option, Some, None}
use Rattle.std.specs.Option.{option_map}
use Rattle.std.specs.Borrow.{Bor}
use Rattle.checked_tree.specs.declared.data.Constant.{Constant}
use Rattle.checked_tree.specs.declared.data.DataType.{DataType}
use Rattle.rule_definitions.specs.Constants as k
use Rattle.rule_definitions.specs.Names as n
use Rattle.rule_definitions.specs.Declarations.{array_constant_of}
use Rattle.constant_values.specs.Views.{constancy}
use Rattle.constant_values.specs.declared.constancy.Constancy.{Constancy}

abbrev pub lent_constancy : Bor Constancy → k.Constancy
lent_constancy c = constancy c.now

abbrev pub found : Option (Option (Bor Constancy)) → Option (Option k.Constancy)
found o = option_map (option_map lent_constancy) o

-- what a named constant stands for behind these constants: a scalar, or an array
abbrev pub scalar_of : Option (Option k.Constancy) → n.ConstantValue
scalar_of None = n.unknown_value
scalar_of (Some None) = n.unknown_value
scalar_of (Some (Some (k.value v))) = n.scalar_constant v
scalar_of (Some (Some (k.values ns vs))) = n.unknown_value
scalar_of (Some (Some k.no_constant)) = n.unknown_value

abbrev pub array_value : List Constant → Option Constant → n.ConstantValue
array_value cs None = n.unknown_value
array_value cs (Some c) = n.array_constant (length cs)

abbrev pub value_behind : List Constant → List n.KnownBounds → Option (Option k.Constancy) → Option Constant → n.ConstantValue
value_behind cs [] j c = scalar_of j
value_behind cs (d ∷ ds) j c = array_value cs c

-- the arrays that come behind the constants
abbrev pub array_more : Option Constant → List Constant
array_more None = []
array_more (Some c) = c ∷ []

abbrev pub more_behind : List n.KnownBounds → Option Constant → List Constant
more_behind [] c = []
more_behind (d ∷ ds) c = array_more c

-- a named constant with these bounds and this value
abbrev pub constant_made : List Constant → List ℕ → Option DataType → List n.KnownBounds → Option (Option k.Constancy) → n.Named
constant_made cs x y ds j = n.named x (n.constant (record { name = x; of_type = y; bounds = ds; value = value_behind cs ds j (array_constant_of y (k.all_bounds ds) j) }))
