use Rattle.std.proofs.Common.{sym, ◌∙◌}
use Rattle.fortran_tree.specs.ExpressionViews.{expression, specifiers}
use Rattle.rule_definitions.specs.Expressions.{judged_specifiers}
use Rattle.image_control_rules.proofs.Specified.{form_team_breaks, form_team_meaning}
use Rattle.image_control_rules.proofs.image.judge_form_team.Goals as goal

pub returns-clause-breaks : goal.returns-clause-breaks
returns-clause-breaks c =
    c.in_ok-judged.ensures.breaks
    ∙ sym (form_team_breaks c.args.scope.now (expression c.args.number.now) c.args.name.now (judged_specifiers c.args.scope.now (specifiers c.args.specifiers.now)))

pub returns-clause-meaning : goal.returns-clause-meaning
returns-clause-meaning c =
    c.in_ok-judged.ensures.meaning
    ∙ sym (form_team_meaning c.args.scope.now (expression c.args.number.now) c.args.name.now (judged_specifiers c.args.scope.now (specifiers c.args.specifiers.now)))
