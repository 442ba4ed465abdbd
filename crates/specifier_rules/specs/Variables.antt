-- Expressions that are variables or parts of them.
use Rattle.std.specs.Prelude.{List, [], ◌∷◌, Option, Some, None}
use Rattle.std.specs.Borrow.{Bor}
use Rattle.checked_tree.specs.Expressions as t
use Rattle.checked_tree.specs.ExpressionViews.{designator, subscript}
use Rattle.checked_tree.specs.declared.expr.Designator.{Designator}
use Rattle.checked_tree.specs.declared.expr.Subscript.{Subscript}

-- the designator that a form is
abbrev pub designator_in : t.Form → Option t.Designator
designator_in (t.designator d) = Some d
designator_in x = None

abbrev pub designator_at : Bor Designator → t.Designator
designator_at d = designator d.now

-- the expression of a subscript that is a single element
abbrev pub single : t.Subscript → List t.Expression
single (t.element e) = e ∷ []
single (t.triplet a b c) = []

abbrev pub single_seen : Subscript → List t.Expression
single_seen x = single (subscript x)
