use Rattle.std.proofs.Common.{◌∙◌, [], ap, refl}
use Rattle.checked_tree.specs.ExpressionViews.{maybe_result}
use Rattle.checked_tree.specs.Statements as ts
use Rattle.rule_definitions.specs.Actions.{controlled}
use Rattle.rule_definitions.specs.Judgements.{made}
use Rattle.rule_definitions.specs.Statements.{critical_form, site_of}
use Rattle.case_rules.specs.Blocks.{block}
use Rattle.statement_rules.specs.Positions.{position}
use Rattle.case_rules.proofs.Blocks.{found}
use Rattle.statement_rules.proofs.Pairs.{two_found}
use Rattle.statement_rules.proofs.construct.critical_statement.Goals as goal

pub returns-clause-meaning : goal.returns-clause-meaning
returns-clause-meaning c =
    c.on_line.ensures.meaning
    ∙ ap (made (λ x. ts.on_line x c.args.at.line))
    (c.in_ok-form.ensures.meaning
    ∙ ap (λ m. (controlled (site_of (position c.args.position)) c.args.at (found [] m)).meaning)
    (two_found (critical_form c.args.number c.args.end.line) maybe_result block _ _ _ _ _ _ c.critical_form.ensures c.in_ok-breaks.ensures.meaning c.in_ok-stat.ensures.meaning refl))
