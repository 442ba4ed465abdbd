use Rattle.std.proofs.Common.{◌∙◌, [], ap, refl}
use Rattle.checked_tree.specs.ExpressionViews.{expression, maybe_result}
use Rattle.checked_tree.specs.Statements as ts
use Rattle.rule_definitions.specs.Actions.{controlled}
use Rattle.rule_definitions.specs.Judgements.{made}
use Rattle.rule_definitions.specs.Statements.{site_of, team_form}
use Rattle.case_rules.specs.Blocks.{block}
use Rattle.statement_rules.specs.Positions.{position}
use Rattle.case_rules.proofs.Blocks.{found}
use Rattle.statement_rules.proofs.Pairs.{four_found}
use Rattle.statement_rules.proofs.construct.team_statement.Goals as goal

pub returns-clause-meaning : goal.returns-clause-meaning
returns-clause-meaning c =
    c.on_line.ensures.meaning
    ∙ ap (made (λ x. ts.on_line x c.args.at.line))
    (c.in_ok-form.ensures.meaning
    ∙ ap (λ m. (controlled (site_of (position c.args.position)) c.args.at (found [] m)).meaning)
    (four_found (team_form c.args.end.line) expression maybe_result block maybe_result _ _ _ _ _ _ _ _ _ _ _ _
    c.team_form.ensures c.in_ok-breaks.ensures.meaning c.in_ok-start.ensures.meaning c.in_ok-inner.ensures.meaning
    c.in_ok-team.ensures.meaning c.in_ok-stat.ensures.meaning refl c.in_ok-end_stat.ensures.meaning))
