use Rattle.std.proofs.Common.{◌∙◌, ap, refl}
use Rattle.checked_tree.specs.ExpressionViews.{expression}
use Rattle.checked_tree.specs.Statements as ts
use Rattle.rule_definitions.specs.Judgements.{made}
use Rattle.rule_definitions.specs.Statements.{if_form}
use Rattle.case_rules.specs.Blocks.{block, else_if_list}
use Rattle.statement_rules.proofs.Pairs.{four_found}
use Rattle.statement_rules.proofs.construct.if_statement.Goals as goal

pub returns-clause-meaning : goal.returns-clause-meaning
returns-clause-meaning c =
    c.on_line.ensures.meaning
    ∙ ap (made (λ x. ts.on_line x c.args.at.line))
    (four_found if_form expression block else_if_list block _ _ _ _ _ _ _ _ _ _ _ _
    c.if_form.ensures c.in_ok-breaks.ensures.meaning c.in_ok-start.ensures.meaning c.in_ok-branches.ensures.meaning
    c.in_ok-condition.ensures.meaning refl refl refl)
