-- Assignments, step by step.
use Rattle.std.specs.Prelude.{ℕ, Bool, true, false, cond, not, ◌||◌, List, [], ◌∷◌, Option, Some, None}
use Rattle.caf_base.specs.declared.place.Pos.{Pos}
use Rattle.caf_base.specs.declared.value.Kind.{Kind}
use Rattle.checked_tree.specs.Expressions as t
use Rattle.checked_tree.specs.ExpressionViews.{expression}
use Rattle.checked_tree.specs.Statements as ts
use Rattle.checked_tree.specs.declared.data.DataType.{DataType}
use Rattle.checked_tree.specs.declared.data.DataType.TheVariants.{Intrinsic}
use Rattle.checked_tree.specs.declared.data.Local.{Local}
use Rattle.checked_tree.specs.declared.statement.ListedImages.TheVariants.{Failed, Stopped}
use Rattle.rule_definitions.specs.declared.broken.Broken.{Broken}
use Rattle.rule_definitions.specs.Actions.{Site, assigned, images_assigned, is_definable, is_listed_value, listed_assignment, plain_assignment}
use Rattle.rule_definitions.specs.Judgements.{Judgement, is_nothing, made_of_both, then}
use Rattle.rule_definitions.specs.Parts.{Placed, is_listed}
use Rattle.assignment_rules.specs.declared.assigned.Sides.{Sides}

-- a rule that may be broken
abbrev pub noted : Option Broken → List Broken
noted None = []
noted (Some b) = b ∷ []

-- the two sides of an assignment
abbrev pub sides_of : t.Expression → t.Expression → t.Expression × t.Expression
sides_of a b = (a, b)

abbrev pub sides_seen : Sides → t.Expression × t.Expression
sides_seen x = (expression x.target, expression x.value)

-- the reference to an intrinsic function that a form is
abbrev pub intrinsic_in : t.Form → Option t.Intrinsic
intrinsic_in (t.intrinsic i) = Some i
intrinsic_in x = None

-- a list of images, as it is assigned to a local variable
abbrev pub images_by : Local → Kind → t.Intrinsic → Option ts.StatementForm
images_by l k (t.failed_images m) = Some (ts.assign_images l k Failed m)
images_by l k (t.stopped_images m) = Some (ts.assign_images l k Stopped m)
images_by l k i = None

abbrev pub images_in : Local → Kind → Option t.Intrinsic → Option ts.StatementForm
images_in l k None = None
images_in l k (Some i) = images_by l k i

-- what is assigned to a local variable of this type
abbrev pub list_given : Option Local → DataType → t.Form → Option ts.StatementForm
list_given (Some l) (Intrinsic k) v = images_assigned l k v
list_given l y v = None

abbrev pub value_given : Option t.Designator → DataType → ℕ → t.Expression → Option ts.StatementForm
value_given None y r v = None
value_given (Some d) y r v = Some (ts.assign d y r v)

-- the statement that an assignment is where no rule is broken
abbrev pub assignment_form : t.Expression → t.Expression → Option ts.StatementForm
assignment_form x v = cond (is_listed v) (listed_assignment x v) (plain_assignment x v)

abbrev pub assigned_to : Site → Pos → Pos → t.Expression × t.Expression → Judgement ts.StatementForm
assigned_to s p q m = assigned s p q m.0 m.1

-- an assignment but for the rule on what may be defined
abbrev pub joined_sides : Site → Judgement t.Expression → Pos → Placed → Judgement ts.StatementForm
joined_sides s x p v = then (made_of_both sides_of x v.judged) (assigned_to s p v.at)

-- whether nothing is said of what may be defined: it may, or the value is a list of images or breaks a rule
abbrev pub is_target : Site → Option t.Expression → Judgement t.Expression → Bool
is_target s None v = true
is_target s (Some x) v = not (is_nothing v.breaks) || (is_definable s x || is_listed_value v.meaning)
