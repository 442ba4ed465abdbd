use Rattle.checked_tree.specs.ExpressionViews.{expression, maybe_expression}
use Rattle.rule_definitions.specs.Statements.{counted}
use Rattle.statement_rules.specs.Controls.{counter}
use Rattle.statement_rules.proofs.Pairs.{four_found}
use Rattle.statement_rules.proofs.control.judge_counted.Goals as goal

pub returns-clause-meaning : goal.returns-clause-meaning
returns-clause-meaning c =
    four_found (λ v l u k. counted v.variable v.kind l u k) counter expression expression maybe_expression _ _ _ _ _ _ _ _ _ _ _ _
    c.counted.ensures c.in_ok-breaks.ensures.meaning c.in_ok-start.ensures.meaning c.in_ok-ends.ensures.meaning
    c.in_ok-counter.ensures.meaning c.in_ok-first.ensures.meaning c.in_ok-last.ensures.meaning c.in_ok-step.ensures.meaning
