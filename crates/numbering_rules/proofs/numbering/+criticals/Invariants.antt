use Rattle.std.proofs.Common.{◌≡◌, ◌+◌, drop}
use Rattle.fortran_tree.specs.StatementViews.{statement_list, else_ifs, case_blocks}
use Rattle.rule_definitions.specs.Statements.{counted_statements, counted_else_ifs, counted_cases}
use Rattle.numbering_rules.proofs.numbering.+criticals.Given as goal

abbrev pub invariant-add_criticals-loop-statement : goal.invariant-add_criticals-loop-statement
invariant-add_criticals-loop-statement l =
    l.count + (counted_statements (statement_list (drop l.statement-index l.statements))).criticals ≡ l.initial.count + (counted_statements (statement_list l.statements)).criticals

abbrev pub invariant-add_else_if_criticals-loop-else_if : goal.invariant-add_else_if_criticals-loop-else_if
invariant-add_else_if_criticals-loop-else_if l =
    l.count + (counted_else_ifs (else_ifs (drop l.else_if-index l.else_ifs))).criticals ≡ l.initial.count + (counted_else_ifs (else_ifs l.else_ifs)).criticals

abbrev pub invariant-add_case_criticals-loop-case : goal.invariant-add_case_criticals-loop-case
invariant-add_case_criticals-loop-case l =
    l.count + (counted_cases (case_blocks (drop l.case-index l.cases))).criticals ≡ l.initial.count + (counted_cases (case_blocks l.cases)).criticals
