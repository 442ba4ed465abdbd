use Rattle.std.proofs.Common.{◌≡◌, ap, ◌∙◌}
use Rattle.branch_rules.specs.Sites.{site}
use Rattle.checked_tree.specs.ExpressionViews.{expression}
use Rattle.checked_tree.specs.StatementViews.{statement_form}
use Rattle.fortran_tree.specs.ExpressionViews as tree
use Rattle.part_rules.specs.Views.{judgement, placed}
use Rattle.rule_definitions.specs.Actions.{left_side}
use Rattle.assignment_rules.proofs.Steps.{breaks_given, meaning_given}
use Rattle.assignment_rules.proofs.assignment.judge_assignment.Goals as goal

pub returns-clause-breaks : goal.returns-clause-breaks
returns-clause-breaks c =
    c.in_ok-judged.ensures.breaks
    ∙ breaks_given (site c.args.site) (left_side c.args.site.scope.now (tree.designator c.args.variable.now)) (judgement expression c.in_ok-target.target) c.args.at _ (placed c.in_ok-part.part)
    c.in_ok-target.ensures.breaks c.in_ok-target.ensures.meaning c.in_ok-part.ensures

pub returns-clause-meaning : goal.returns-clause-meaning
returns-clause-meaning c =
    c.in_ok-judged.ensures.meaning
    ∙ meaning_given (site c.args.site) (left_side c.args.site.scope.now (tree.designator c.args.variable.now)) (judgement expression c.in_ok-target.target) c.args.at _ (placed c.in_ok-part.part)
    c.in_ok-target.ensures.breaks c.in_ok-target.ensures.meaning c.in_ok-part.ensures
