-- What the definitions say of parts of constructs in memory.
use Rattle.std.specs.Prelude.{[], false, Option}
use Rattle.caf_base.specs.declared.place.Pos.{Pos}
use Rattle.checked_tree.specs.Expressions as t
use Rattle.checked_tree.specs.Statements as ts
use Rattle.fortran_tree.specs.Expressions as f
use Rattle.fortran_tree.specs.ExpressionViews.{expression}
use Rattle.fortran_tree.specs.Statements as fs
use Rattle.fortran_tree.specs.StatementViews.{statement, statement_list}
use Rattle.fortran_tree.specs.declared.statement.ElseIf.{ElseIf}
use Rattle.fortran_tree.specs.declared.statement.Statement.{Statement}
use Rattle.rule_definitions.specs.Actions.{selection}
use Rattle.rule_definitions.specs.Expressions.{placed}
use Rattle.rule_definitions.specs.Judgements.{Judgement, made_of_both}
use Rattle.rule_definitions.specs.Parts.{condition}
use Rattle.rule_definitions.specs.Statements as s

abbrev pub statement_judged : s.Position → Statement → Judgement ts.Statement
statement_judged x y = s.judged_statement x (statement y)

abbrev pub statement_counted : Statement → s.Counted
statement_counted y = s.counted_statement (statement y)

-- an ELSE IF with its block, before those that follow
abbrev pub else_if_judged : s.Position → ElseIf → Judgement (ts.ElseIfs → ts.ElseIfs)
else_if_judged x y = made_of_both (s.more_else_ifs y.at.line) (condition (placed x.scope (expression y.condition))) (s.judged_statements x (statement_list y.body.items))

abbrev pub else_if_counted : ElseIf → s.Counted
else_if_counted y = s.counted_statements (statement_list y.body.items)

-- CRITICAL with its block
abbrev pub critical_counted : fs.Statements → s.Counted
critical_counted body = s.behind (record { criticals = 1; literals = [] }) (s.counted_statements body)

-- what the first CASE statement knows
abbrev pub no_cases_known : Option t.Expression → s.Cases
no_cases_known e = record { selector = e; ranges = []; has_default = false }

-- SELECT CASE
abbrev pub select_judged : s.Position → f.Expression → fs.CaseBlocks → Pos → Judgement ts.Statement
select_judged x e cs p = s.on_line p (made_of_both (s.select_form (s.hidden_of x.around)) (s.selecting (placed x.scope e)) (s.judged_cases (s.within x selection) (no_cases_known (s.selecting (placed x.scope e)).meaning) cs))
