-- What parts of actions in memory stand for.
use Rattle.std.specs.Prelude.{List, map, Option}
use Rattle.std.specs.declared.alloc.Global.{Global}
use Rattle.std.specs.declared.vec.Vec.{Vec}
use Rattle.fortran_tree.specs.declared.action.Allocation.{Allocation}
use Rattle.fortran_tree.specs.declared.action.ImageSet.{ImageSet}
use Rattle.fortran_tree.specs.declared.declaration.Coshape.{Coshape}
use Rattle.fortran_tree.specs.declared.declaration.Dimension.{Dimension}
use Rattle.fortran_tree.specs.declared.expr.Expr.{Expr}
use Rattle.fortran_tree.specs.declared.expr.Specifier.{Specifier}
use Rattle.fortran_tree.specs.declared.name.Name.{Name}
use Rattle.fortran_tree.specs.ActionViews.{allocation, image_set}
use Rattle.fortran_tree.specs.DeclarationViews.{dimension, maybe_coarray_spec}
use Rattle.fortran_tree.specs.ExpressionViews.{expression, specifiers}
use Rattle.fortran_tree.specs.Expressions.{Expression, Specifiers}
use Rattle.fortran_tree.specs.Statements as s
use Rattle.statement_reader.specs.Dimensions as d
use Rattle.statement_reader.specs.Objects as o
use Rattle.action_reader.specs.Views.{assigned_of}
use Rattle.keyword_reader.specs.declared.cobound.Cobound.{Cobound}
use Rattle.keyword_reader.specs.declared.object.Choice.{Choice}
use Rattle.keyword_reader.specs.declared.object.Choice.TheVariants as choices

-- images, and specifiers behind them
abbrev pub images_of : ImageSet × Vec Specifier Global → s.ImageSet × Specifiers
images_of q = (image_set q.0, specifiers q.1.items)

-- a name, and specifiers behind it; the same behind a team's number
abbrev pub named_of : Name × Vec Specifier Global → Name × Specifiers
named_of q = (q.0, specifiers q.1.items)

abbrev pub new_team_of : Expr × (Name × Vec Specifier Global) → Expression × (Name × Specifiers)
new_team_of q = (expression q.0, named_of q.1)

-- a cobound as it is written, and dimensions with a coshape behind them
abbrev pub bound_of : Cobound → d.Bound
bound_of b = (expression b.value, b.is_lower)

abbrev pub shape_of : Vec Dimension Global × Option Coshape → List s.Dimension × Option s.CoarraySpec
shape_of q = (map dimension q.0.items, maybe_coarray_spec q.1)

-- an object, seen so, or a specifier
abbrev pub choice_of : {A B : Type 0} → (A → B) → Choice A → o.Choice B
choice_of look (choices.Object x) = o.object (look x)
choice_of look (choices.Specifier p) = o.specifier (assigned_of p)

-- objects and specifiers behind them, of ALLOCATE and of DEALLOCATE
abbrev pub allocations_of : Vec Allocation Global × Vec Specifier Global → List s.Allocation × Specifiers
allocations_of q = (map allocation q.0.items, specifiers q.1.items)

abbrev pub deallocations_of : Vec Name Global × Vec Specifier Global → List Name × Specifiers
deallocations_of q = (q.0.items, specifiers q.1.items)
