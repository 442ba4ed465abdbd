use Rattle.std.proofs.Common.{rules, append_assoc}
use Rattle.std.proofs.lemmas.Result.{IfOk-equal}
use Rattle.fortran_tree.specs.StatementViews.{statement_if, statement_do, statement_select, statement_critical, statement_change_team}
use Rattle.unit_references.proofs.statement.+statements.Goals as goal

pub add_statement-returns-in_ok-add_else_ifs-in-If : goal.add_statement-returns-in_ok-add_else_ifs-in-If
add_statement-returns-in_ok-add_else_ifs-in-If t c = rw (c.in-If.is, statement_if) (search (rules, IfOk-equal, append_assoc))

pub add_statement-returns-in_ok-add_control-in-Do : goal.add_statement-returns-in_ok-add_control-in-Do
add_statement-returns-in_ok-add_control-in-Do t c = rw (c.in-Do.is, statement_do) (search (rules, IfOk-equal, append_assoc))

pub add_statement-returns-in_ok-add_expr-in-SelectCase : goal.add_statement-returns-in_ok-add_expr-in-SelectCase
add_statement-returns-in_ok-add_expr-in-SelectCase t c = rw (c.in-SelectCase.is, statement_select) (search (rules, IfOk-equal, append_assoc))

pub add_statement-returns-in_ok-add_bracketed-in-Critical : goal.add_statement-returns-in_ok-add_bracketed-in-Critical
add_statement-returns-in_ok-add_bracketed-in-Critical t c = rw (c.in-Critical.is, statement_critical) (search (rules, IfOk-equal, append_assoc))

pub add_statement-returns-in_ok-add_statements-in-ChangeTeam : goal.add_statement-returns-in_ok-add_statements-in-ChangeTeam
add_statement-returns-in_ok-add_statements-in-ChangeTeam t c = rw (c.in-ChangeTeam.is, statement_change_team) (search (rules, IfOk-equal, append_assoc))
