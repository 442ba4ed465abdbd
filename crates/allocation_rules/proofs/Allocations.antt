-- The objects of ALLOCATE that are variables.
use Rattle.std.proofs.Common.{◌≡◌, ◌∙◌, List, [], ◌++◌, refl, ap}
use Rattle.std.specs.Prelude.{Option, Some, None, cond}
use Rattle.std.proofs.lemmas.List.{append-nil}
use Rattle.fortran_tree.specs.Statements as fs
use Rattle.checked_tree.specs.Statements as ts
use Rattle.checked_tree.specs.declared.data.DataType.{DataType}
use Rattle.checked_tree.specs.declared.data.Local.{Local}
use Rattle.checked_tree.specs.declared.data.Object.{Object}
use Rattle.checked_tree.specs.declared.data.Object.TheVariants as objects
use Rattle.rule_definitions.specs.Actions.{AllocatedCobounds, AllocatedShape, allocation_of, local_allocation}
use Rattle.rule_definitions.specs.Judgements.{Judgement, both, is_nothing, then_made}
use Rattle.rule_definitions.specs.Names.{Symbol, variable}
use Rattle.allocation_rules.specs.Allocations.{allocated_as, allocation_with, variable_breaks}

local_breaks : (l : Local) (y : Option DataType) (bs : List ts.AllocatedBounds) → (local_allocation l y bs).breaks ≡ []
local_breaks l None bs = refl
local_breaks l (Some y) bs = refl

object_breaks : (o : Object) (x : Symbol) (bs : List ts.AllocatedBounds) (c : AllocatedCobounds) → x.object ≡ o → (allocation_of x bs c).breaks ≡ []
object_breaks (objects.Local l) x bs c e = rw e (local_breaks l x.of_type bs)
object_breaks (objects.Coarray n) x bs c e = rw e refl
object_breaks (objects.Constant n) x bs c e = rw e refl

variable_says : (x : Symbol) (o : Option AllocatedShape) → (then_made (λ j. j) (both allocation_with (Some x) o)).breaks ≡ []
variable_says x None = refl
variable_says x (Some c) = object_breaks x.object x c.bounds c.cobounds refl

variable_means : (x : Symbol) (o : Option AllocatedShape) → (then_made (λ j. j) (both allocation_with (Some x) o)).meaning ≡ (then_made (allocation_with x) o).meaning
variable_means x None = refl
variable_means x (Some c) = refl

pub variable_allocation_breaks : (x : Symbol) (c : Judgement AllocatedShape) (o : fs.Allocation)
    → (allocated_as (Some (variable x)) c o).breaks ≡ c.breaks ++ cond (is_nothing c.breaks) (variable_breaks x o) []
variable_allocation_breaks x c o =
    let m = cond (is_nothing (cond (is_nothing c.breaks) (variable_breaks x o) [])) c.meaning None in
    ap (λ bs. (c.breaks ++ cond (is_nothing c.breaks) (variable_breaks x o) []) ++ bs) (variable_says x m) ∙ append-nil (c.breaks ++ cond (is_nothing c.breaks) (variable_breaks x o) [])

pub variable_allocation_meaning : (x : Symbol) (c : Judgement AllocatedShape) (o : fs.Allocation)
    → (allocated_as (Some (variable x)) c o).meaning ≡ (then_made (allocation_with x) (cond (is_nothing (cond (is_nothing c.breaks) (variable_breaks x o) [])) c.meaning None)).meaning
variable_allocation_meaning x c o = variable_means x (cond (is_nothing (cond (is_nothing c.breaks) (variable_breaks x o) [])) c.meaning None)
