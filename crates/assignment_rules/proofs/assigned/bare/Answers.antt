use Rattle.std.proofs.Common.{arith, length, ◌≤◌}
use Rattle.checked_tree.specs.ExpressionViews.{maybe_selector}
use Rattle.assignment_rules.proofs.Forms.{no_whole}
use Rattle.assignment_rules.proofs.assigned.bare.Goals as goal

pub returns-in-len1-up : goal.returns-in-len1-up
returns-in-len1-up c =
    let h = c.in-len1-up.len_at_least in
    let e : 1 ≤ length c.args.subscripts.now = omega arith in
    no_whole c.args.object c.args.subscripts.now (maybe_selector c.args.selector.now) e
