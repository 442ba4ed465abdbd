-- Calls as the code of them is made.
use Rattle.std.specs.Prelude.{ℕ, [], Option, Some, None}
use Rattle.std.specs.Borrow.{Bor}
use Rattle.walk_theory.specs.Syntax.{Parts}
use Rattle.checked_tree.specs.Expressions as t
use Rattle.checked_tree.specs.Statements.{Procedure, no_statements}
use Rattle.checked_tree.specs.StatementViews as view
use Rattle.checked_tree.specs.declared.program.Procedure.{Procedure as ProcedureType}
use Rattle.image_acts.specs.Acts.{Act}
use Rattle.image_code.specs.Table.{scope_of}
use Rattle.tree_meaning.specs.Environment.{Environment}
use Rattle.tree_meaning.specs.Sequences.{◌▸◌}
use Rattle.tree_meaning.specs.Expressions.{Passed, arguments, calling, passed}
use Rattle.expr_code.specs.declared.call.PassedArgument.{PassedArgument}

abbrev pub passed_argument : PassedArgument → Passed
passed_argument p = record { dummy = p.dummy; rank = p.rank; scope = scope_of p.scope; actual = p.actual; place = p.place; goes_back = p.goes_back }

-- an instance of a procedure, behind its arguments
abbrev pub instance_of : ℕ → Procedure → t.Arguments → Parts Act
instance_of n p es = calling n p (passed p.unit.variables p.dummies es)

-- a reference to a procedure
abbrev pub called : Environment → ℕ → Procedure → t.Arguments → Parts Act
called e n p es = arguments e p.unit.variables p.dummies es ▸ instance_of n p es
