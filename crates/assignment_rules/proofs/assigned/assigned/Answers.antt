use Rattle.std.proofs.Common.{sym, ◌∙◌}
use Rattle.branch_rules.specs.Sites.{site}
use Rattle.assignment_rules.specs.Assignments.{sides_seen}
use Rattle.assignment_rules.proofs.Steps.{assigned_means, assigned_says}
use Rattle.assignment_rules.proofs.assigned.assigned.Goals as goal

pub returns-clause-breaks : goal.returns-clause-breaks
returns-clause-breaks c = c.in_ok-judged.ensures.breaks ∙ sym (assigned_says (site c.args.site) c.args.at c.args.value_at (sides_seen c.args.sides))

pub returns-clause-meaning : goal.returns-clause-meaning
returns-clause-meaning c = c.in_ok-judged.ensures.meaning ∙ sym (assigned_means (site c.args.site) c.args.at c.args.value_at (sides_seen c.args.sides))
