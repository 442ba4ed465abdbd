use Rattle.std.proofs.Common.{◌∙◌, ap, map}
use Rattle.checked_tree.specs.Statements as ts
use Rattle.rule_definitions.specs.Judgements.{made}
use Rattle.branch_rules.specs.Sites.{around}
use Rattle.branch_rules.proofs.Targets.{leaving_breaks, leaving_meaning}
use Rattle.branch_rules.proofs.branch.judge_cycle.Goals as goal

pub returns-clause-breaks : goal.returns-clause-breaks
returns-clause-breaks c = c.in_ok-breaks.ensures.breaks ∙ leaving_breaks ts.cycle c.args.construct.now (map around c.args.around.now) c.args.at

pub returns-clause-meaning : goal.returns-clause-meaning
returns-clause-meaning c =
    c.cycle_form.ensures
    ∙ ap (made ts.cycle) c.in_ok-breaks.ensures.meaning
    ∙ leaving_meaning ts.cycle c.args.construct.now (map around c.args.around.now) c.args.at
