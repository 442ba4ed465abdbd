-- Objects of ALLOCATE, part by part.
use Rattle.std.specs.Prelude.{ℕ, cond, nat_eq, length, ◌+◌, List, [], ◌∷◌, ◌++◌, Option, Some, None, map}
use Rattle.caf_base.specs.declared.place.Pos.{Pos}
use Rattle.checked_tree.specs.Expressions as t
use Rattle.checked_tree.specs.ExpressionViews.{maybe_expression}
use Rattle.checked_tree.specs.Statements as ts
use Rattle.checked_tree.specs.StatementViews.{allocated_bounds}
use Rattle.checked_tree.specs.declared.data.Object.{Object}
use Rattle.fortran_tree.specs.declared.name.Name.{Name}
use Rattle.fortran_tree.specs.Expressions as f
use Rattle.fortran_tree.specs.Statements as fs
use Rattle.rule_definitions.specs.declared.broken.Broken.{Broken}
use Rattle.rule_definitions.specs.Actions as a
use Rattle.rule_definitions.specs.Judgements.{breaks, unless, Judgement, all_made, formed, made_of, made_of_both, then}
use Rattle.rule_definitions.specs.Names.{Meaning, Scope, Symbol}
use Rattle.rule_definitions.specs.Parts.{integer}
use Rattle.allocation_rules.specs.declared.bounds.Cobounds.{Cobounds}
use Rattle.allocation_rules.specs.declared.bounds.Shape.{Shape}

abbrev pub bounds_with : t.OptionalExpression → t.Expression → ts.AllocatedBounds
bounds_with l u = record { lower = l; upper = u }

abbrev pub cobounds_with : List ts.AllocatedBounds → t.OptionalExpression → a.AllocatedCobounds
cobounds_with xs x = record { first = xs; last = x }

abbrev pub shape_with : List ts.AllocatedBounds → a.AllocatedCobounds → a.AllocatedShape
shape_with bs c = record { bounds = bs; cobounds = c }

-- cobounds that are written out
abbrev pub explicit_cobounds : Scope → List fs.Bounds → Option f.Expression → Judgement a.AllocatedCobounds
explicit_cobounds s bs l = made_of_both cobounds_with (all_made (map (a.allocated_bounds s) bs)) (a.maybe (integer 39) s l)

abbrev pub cobounds_seen : Cobounds → a.AllocatedCobounds
cobounds_seen x = record { first = map allocated_bounds x.first.items; last = maybe_expression x.last }

abbrev pub shape_seen : Shape → a.AllocatedShape
shape_seen x = record { bounds = map allocated_bounds x.bounds.items; cobounds = cobounds_seen x.cobounds }

-- a rule that may be broken
abbrev pub noted : Option Broken → List Broken
noted None = []
noted (Some b) = b ∷ []

-- what breaks in the bounds of an object of this rank, by whether bounds stand there
abbrev pub shape_said : ℕ → List fs.Dimension → Pos → List Broken
shape_said r [] p = unless (nat_eq r 0) 55 p
shape_said r (x ∷ xs) p = cond (a.has_colon (x ∷ xs)) (breaks 55 p) (unless (nat_eq (length (x ∷ xs)) r) 33 p)

abbrev pub explicit_said : ℕ → fs.CoarraySpec → Pos → List Broken
explicit_said r (fs.deferred_coshape n) p = breaks 55 p
explicit_said r (fs.explicit_coshape bs l) p = unless (nat_eq (length bs + 1) r) 33 p

abbrev pub cobounds_said : ℕ → Option fs.CoarraySpec → Pos → List Broken
cobounds_said r None p = unless (nat_eq r 0) 55 p
cobounds_said r (Some c) p = cond (nat_eq r 0) (breaks 34 p) (explicit_said r c p)

-- the rules on a variable that is allocated, told at its name
abbrev pub variable_breaks : Symbol → fs.Allocation → List Broken
variable_breaks x o = unless x.is_allocatable 55 o.name.at ++ (a.shape_breaks (length x.bounds) o.bounds o.name.at ++ a.cobounds_breaks x.corank o.cobounds o.name.at)

abbrev pub allocation_with : Symbol → a.AllocatedShape → Judgement ts.Allocation
allocation_with x c = a.allocation_of x c.bounds c.cobounds

-- an object of ALLOCATE, by what its name stands for and by its judged shape
abbrev pub allocated_as : Option Meaning → Judgement a.AllocatedShape → fs.Allocation → Judgement ts.Allocation
allocated_as m c o = then
    (made_of_both allocation_with (a.variable_denoted m o.name.at) (formed c (a.allocatable_breaks m o.name.at ++ a.shape_rules m o)))
    (λ j. j)

abbrev pub object_of : Judgement Symbol → Judgement Object
object_of j = made_of (λ x. x.object) j

abbrev pub name_of : fs.Allocation → Name
name_of o = o.name
