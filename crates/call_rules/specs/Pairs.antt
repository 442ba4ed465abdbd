-- Arguments with the dummies of a procedure of the program, one by one.
use Rattle.std.specs.Prelude.{Bool, true, false, cond, List, [], ◌∷◌, None}
use Rattle.checked_tree.specs.Expressions as t
use Rattle.rule_definitions.specs.Arguments.{Actual, breaks_in, paired}
use Rattle.rule_definitions.specs.Judgements.{Judgement, breaks, is_nothing}
use Rattle.rule_definitions.specs.Names.{Scope, Symbol}

-- the argument that a value is, where the dummy takes values or defines what it is given
abbrev pub argument_as : Bool → t.Expression → t.Argument
argument_as true x = t.value x
argument_as false (t.typed (t.designator v) y r) = t.variable v
argument_as false x = t.value x

-- an argument without a dummy: the first of them breaks rule 45
abbrev pub surplus_argument : Bool → Actual → Judgement t.Argument
surplus_argument over a = record { breaks = cond over (breaks_in a) (cond (is_nothing (breaks_in a)) (breaks 45 a.at) (breaks_in a)); meaning = None }

-- an argument, where these dummies are left, and whether one without a dummy stands before it
abbrev pub argument_behind : Scope → List Symbol → Bool → Actual → Judgement t.Argument
argument_behind s [] over a = surplus_argument over a
argument_behind s (d ∷ ds) over a = paired s d a

abbrev pub dummies_behind : List Symbol → List Symbol
dummies_behind [] = []
dummies_behind (d ∷ ds) = ds

abbrev pub are_over : List Symbol → Bool
are_over [] = true
are_over (d ∷ ds) = false

abbrev pub argument_list : Scope → List Symbol → Bool → List Actual → List (Judgement t.Argument)
argument_list s ds over [] = []
argument_list s ds over (a ∷ rest) = argument_behind s ds over a ∷ argument_list s (dummies_behind ds) (are_over ds) rest

-- the dummies that are left behind these arguments, and whether one of these has none
abbrev pub dummies_after : List Symbol → List Actual → List Symbol
dummies_after ds [] = ds
dummies_after ds (a ∷ rest) = dummies_after (dummies_behind ds) rest

abbrev pub over_after : List Symbol → Bool → List Actual → Bool
over_after ds over [] = over
over_after ds over (a ∷ rest) = over_after (dummies_behind ds) (are_over ds) rest
