use Rattle.std.proofs.Common.{◌≡◌, drop}
use Rattle.fortran_tree.specs.StatementViews.{statement_list, else_ifs, case_blocks}
use Rattle.rule_definitions.specs.Statements.{greater, most_hidden_of, most_hidden_else_ifs, most_hidden_cases}
use Rattle.numbering_rules.proofs.numbering.+hidden.Given as goal

abbrev pub invariant-most_hidden-loop-statement : goal.invariant-most_hidden-loop-statement
invariant-most_hidden-loop-statement l =
    greater l.most (most_hidden_of (statement_list (drop l.statement-index l.statements))) ≡ most_hidden_of (statement_list l.statements)

abbrev pub invariant-hidden_in_else_ifs-loop-else_if : goal.invariant-hidden_in_else_ifs-loop-else_if
invariant-hidden_in_else_ifs-loop-else_if l =
    greater l.most (most_hidden_else_ifs (else_ifs (drop l.else_if-index l.else_ifs))) ≡ most_hidden_else_ifs (else_ifs l.else_ifs)

abbrev pub invariant-hidden_in_cases-loop-case : goal.invariant-hidden_in_cases-loop-case
invariant-hidden_in_cases-loop-case l =
    greater l.most (most_hidden_cases (case_blocks (drop l.case-index l.cases))) ≡ most_hidden_cases (case_blocks l.cases)
