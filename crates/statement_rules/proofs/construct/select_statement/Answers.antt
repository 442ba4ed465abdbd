use Rattle.std.proofs.Common.{◌∙◌, ap, refl}
use Rattle.std.specs.Option.{option_map}
use Rattle.checked_tree.specs.ExpressionViews.{expression}
use Rattle.checked_tree.specs.Statements as ts
use Rattle.rule_definitions.specs.Judgements.{both, made}
use Rattle.rule_definitions.specs.Statements.{select_form}
use Rattle.case_rules.specs.Blocks.{selection}
use Rattle.statement_rules.proofs.Pairs.{two_found}
use Rattle.statement_rules.proofs.construct.select_statement.Goals as goal

pub returns-clause-meaning : goal.returns-clause-meaning
returns-clause-meaning c =
    c.on_line.ensures.meaning
    ∙ ap (made (λ x. ts.on_line x c.args.at.line))
    (two_found (select_form c.in_ok-hidden.hidden) expression selection _ _ _ _ _ _ c.select_form.ensures c.in_ok-breaks.ensures.meaning refl refl
    ∙ ap (λ h. both (select_form h) (option_map expression c.args.selector.meaning) (option_map selection c.args.blocks.judged.meaning)) c.in_ok-hidden.ensures)
