use Rattle.std.proofs.Common.{drop}
use Rattle.std.specs.Option.{option_map}
use Rattle.checked_tree.specs.ExpressionViews.{expression}
use Rattle.statement_rules.specs.Positions.{position}
use Rattle.statement_rules.proofs.Cases.{CasesSoFar}
use Rattle.statement_rules.proofs.Sequences.{StatementsSoFar, ElseIfsSoFar}
use Rattle.statement_rules.proofs.statement.+judge.Given as goal

abbrev pub invariant-judge_block-loop-statement : goal.invariant-judge_block-loop-statement
invariant-judge_block-loop-statement l = StatementsSoFar (position l.position) l.list (drop l.statement-index l.statements) l.statements

abbrev pub invariant-judge_else_ifs-loop-else_if : goal.invariant-judge_else_ifs-loop-else_if
invariant-judge_else_ifs-loop-else_if l = ElseIfsSoFar (position l.position) l.list (drop l.else_if-index l.else_ifs) l.else_ifs

abbrev pub invariant-judge_cases-loop-case : goal.invariant-judge_cases-loop-case
invariant-judge_cases-loop-case l = CasesSoFar (position l.position) l.list l.behind (option_map expression l.selector) (drop l.case-index l.cases) l.cases
