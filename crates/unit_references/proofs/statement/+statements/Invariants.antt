use Rattle.std.proofs.Common.{◌≡◌, ◌++◌, drop}
use Rattle.fortran_tree.specs.StatementViews as view
use Rattle.fortran_tree.specs.StatementViews.{statement_list}
use Rattle.unit_references.specs.References as names
use Rattle.unit_references.proofs.statement.+statements.Given as goal

abbrev pub invariant-add_statements-loop-statement : goal.invariant-add_statements-loop-statement
invariant-add_statements-loop-statement l = l.refs ++ names.statements (statement_list (drop l.statement-index l.statements)) ≡ l.initial.refs ++ names.statements (statement_list l.statements)

abbrev pub invariant-add_else_ifs-loop-else_if : goal.invariant-add_else_ifs-loop-else_if
invariant-add_else_ifs-loop-else_if l = l.refs ++ names.else_ifs (view.else_ifs (drop l.else_if-index l.else_ifs)) ≡ l.initial.refs ++ names.else_ifs (view.else_ifs l.else_ifs)

abbrev pub invariant-add_cases-loop-case : goal.invariant-add_cases-loop-case
invariant-add_cases-loop-case l = l.refs ++ names.case_blocks (view.case_blocks (drop l.case-index l.cases)) ≡ l.initial.refs ++ names.case_blocks (view.case_blocks l.cases)
