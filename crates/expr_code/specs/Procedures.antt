-- A procedure by its number, or none.
use Rattle.std.specs.Prelude.{[], Option, Some, None}
use Rattle.checked_tree.specs.Statements.{Procedure, no_statements}
use Rattle.checked_tree.specs.StatementViews as view
use Rattle.checked_tree.specs.declared.program.Procedure.{Procedure as ProcedureType}

-- a procedure that isn't there
abbrev pub no_procedure : Procedure
no_procedure = record { name = []; dummies = []; answer = None; unit = record { variables = []; hidden = 0; statements = no_statements } }

abbrev pub procedure_found : Option ProcedureType → Procedure
procedure_found None = no_procedure
procedure_found (Some p) = view.procedure p
