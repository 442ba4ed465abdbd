-- Of what an inquiry asks (10.1.12).
use Rattle.std.specs.Prelude.{Bool, true, false}
use Rattle.checked_tree.specs.Expressions as t
use Rattle.checked_tree.specs.declared.data.Object.{Object}
use Rattle.checked_tree.specs.declared.data.Object.TheVariants as objects

-- an object that isn't a named constant
abbrev pub is_variable_object : Object → Bool
is_variable_object (objects.Constant n) = false
is_variable_object o = true

abbrev pub is_variable : t.Form → Bool
is_variable (t.designator (t.part o ss c)) = is_variable_object o
is_variable f = false
