use Rattle.std.proofs.Common.{◌≡◌, ◌++◌, drop}
use Rattle.fortran_tree.specs.StatementViews.{statement_list, else_ifs, case_blocks}
use Rattle.rule_definitions.specs.Statements.{counted_statements, counted_else_ifs, counted_cases}
use Rattle.numbering_rules.proofs.numbering.+literals.Given as goal

abbrev pub invariant-add_literals-loop-statement : goal.invariant-add_literals-loop-statement
invariant-add_literals-loop-statement l =
    l.literals.items ++ (counted_statements (statement_list (drop l.statement-index l.statements))).literals ≡ l.initial.literals.items ++ (counted_statements (statement_list l.statements)).literals

abbrev pub invariant-add_else_if_literals-loop-else_if : goal.invariant-add_else_if_literals-loop-else_if
invariant-add_else_if_literals-loop-else_if l =
    l.literals.items ++ (counted_else_ifs (else_ifs (drop l.else_if-index l.else_ifs))).literals ≡ l.initial.literals.items ++ (counted_else_ifs (else_ifs l.else_ifs)).literals

abbrev pub invariant-add_case_literals-loop-case : goal.invariant-add_case_literals-loop-case
invariant-add_case_literals-loop-case l =
    l.literals.items ++ (counted_cases (case_blocks (drop l.case-index l.cases))).literals ≡ l.initial.literals.items ++ (counted_cases (case_blocks l.cases)).literals
