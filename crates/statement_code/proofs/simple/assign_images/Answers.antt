use Rattle.std.proofs.Common.{rules}
use Rattle.checked_tree.specs.ExpressionViews as view
use Rattle.tree_meaning.specs.Assignments.{images_assignment}
use Rattle.std.proofs.lemmas.Result.{on_ok_weaker}
use Rattle.expr_code.specs.Environments.{environment}
use Rattle.statement_code.proofs.Ends.{released_by}
use Rattle.statement_code.proofs.simple.assign_images.Goals as goal

pub returns : goal.returns
returns c =
    let parts = images_assignment (environment c.args.env.now) c.args.variable c.args.images (view.maybe_expression c.args.team.now) in
    let last = released_by c.args.line parts c.args.draft.now c.look-before.new.self c.push_images_assignment.new.draft c.release.new.self c.look-before.result c.look-before.ensures.before c.look-before.ensures.draft c.in_ok-push_images_assignment.ensures in
    search (rules, on_ok_weaker)
