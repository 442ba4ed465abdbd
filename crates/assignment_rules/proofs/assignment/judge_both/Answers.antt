use Rattle.std.proofs.Common.{sym, ◌∙◌}
use Rattle.branch_rules.specs.Sites.{site}
use Rattle.checked_tree.specs.ExpressionViews.{expression}
use Rattle.part_rules.specs.Views.{judgement, placed}
use Rattle.assignment_rules.proofs.Steps.{assignment_breaks, assignment_meaning}
use Rattle.assignment_rules.proofs.assignment.judge_both.Goals as goal

pub returns-clause-breaks : goal.returns-clause-breaks
returns-clause-breaks c =
    c.in_ok-judged.ensures.breaks
    ∙ sym (assignment_breaks (site c.args.site) (judgement expression c.args.target) c.args.at (placed c.args.value))

pub returns-clause-meaning : goal.returns-clause-meaning
returns-clause-meaning c =
    c.in_ok-judged.ensures.meaning
    ∙ sym (assignment_meaning (site c.args.site) (judgement expression c.args.target) c.args.at (placed c.args.value))
