-- What parts of statements in memory stand for.
use Rattle.std.specs.Prelude.{List}
use Rattle.std.specs.declared.alloc.Global.{Global}
use Rattle.std.specs.declared.vec.Vec.{Vec}
use Rattle.fortran_tree.specs.declared.expr.Designator.{Designator}
use Rattle.fortran_tree.specs.declared.expr.Expr.{Expr}
use Rattle.fortran_tree.specs.declared.expr.Specifier.{Specifier}
use Rattle.fortran_tree.specs.ExpressionViews.{designator, expression, specifiers}
use Rattle.fortran_tree.specs.Expressions as e
use Rattle.fortran_tree.specs.Expressions.{Expression, Specifiers}
use Rattle.fortran_tree.specs.declared.name.Name.{Name}
use Rattle.expr_reader.specs.Tests.{a_name, is_word}
use Rattle.statement_reader.specs.Actions.{Assigned}
use Rattle.statement_reader.specs.Families.{Family, maybe_list}

abbrev pub assigned_of : Specifier → Assigned
assigned_of p = (p.name, expression p.value)

-- a name, and names with commas between them or none, whatever level is open
abbrev pub a_name_at : Family Name
a_name_at left = a_name

abbrev pub names_at : Family (List Name)
names_at left = maybe_list is_word a_name

-- an expression, and specifiers behind it
abbrev pub team_of : Expr × Vec Specifier Global → Expression × Specifiers
team_of q = (expression q.0, specifiers q.1.items)

-- a variable, and specifiers behind it
abbrev pub object_of : Designator × Vec Specifier Global → e.Designator × Specifiers
object_of q = (designator q.0, specifiers q.1.items)
