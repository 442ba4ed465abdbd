-- Arguments of intrinsic functions, as the rules see them.
use Rattle.std.specs.Prelude.{ℕ, Option, Some, None}
use Rattle.std.specs.declared.alloc.Global.{Global}
use Rattle.std.specs.declared.boxed.Box.{Box}
use Rattle.checked_tree.specs.Expressions as t
use Rattle.checked_tree.specs.ExpressionViews.{expression}
use Rattle.checked_tree.specs.declared.data.Object.{Object}
use Rattle.checked_tree.specs.declared.data.Object.TheVariants as objects
use Rattle.checked_tree.specs.declared.expr.TypedExpr.{TypedExpr}

abbrev pub boxed : Box TypedExpr Global → t.Expression
boxed b = expression b.value

-- the object that a designator is as a whole: without subscripts and selector
abbrev pub whole_part : t.Designator → Option Object
whole_part (t.part o t.no_subscripts t.no_selector) = Some o
whole_part d = None

abbrev pub whole_object : t.Expression → Option Object
whole_object (t.typed (t.designator d) y r) = whole_part d
whole_object x = None

-- the coarray that a designator without a selector is or is a part of
abbrev pub own_coarray : t.Designator → Option ℕ
own_coarray (t.part (objects.Coarray n) ss t.no_selector) = Some n
own_coarray d = None
