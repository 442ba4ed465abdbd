-- What an expression is, by its form.
use Rattle.std.specs.Prelude.{ℕ, zero, Bool, true, false, cond, nat_eq, ◌&&◌, Option, Some, None}
use Rattle.checked_tree.specs.Expressions as t
use Rattle.specifier_rules.specs.Variables as variables

-- the designator that a form is
abbrev pub designator_in : t.Form → Option t.Designator
designator_in x = variables.designator_in x

-- a designator or a constructor
abbrev pub is_plain_form : t.Form → Bool
is_plain_form (t.designator d) = true
is_plain_form (t.array_constructor es) = true
is_plain_form x = false

-- the designator that a scalar of a wanted type is
abbrev pub scalar_designator : Bool → t.Form → ℕ → Option t.Designator
scalar_designator b x r = cond (b && nat_eq r 0) (designator_in x) None
