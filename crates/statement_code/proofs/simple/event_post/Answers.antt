use Rattle.std.proofs.Common.{rules}
use Rattle.checked_tree.specs.ExpressionViews as view
use Rattle.tree_meaning.specs.ImageControl.{event_post}
use Rattle.std.proofs.lemmas.Result.{on_ok_weaker}
use Rattle.expr_code.specs.Environments.{environment}
use Rattle.statement_code.proofs.Ends.{released_by}
use Rattle.statement_code.proofs.simple.event_post.Goals as goal

pub returns : goal.returns
returns c =
    let parts = event_post (environment c.args.env.now) (view.designator c.args.variable.now) (view.maybe_result c.args.stat.now) in
    let last = released_by c.args.line parts c.args.draft.now c.look-before.new.self c.push_event_post.new.draft c.release.new.self c.look-before.result c.look-before.ensures.before c.look-before.ensures.draft c.in_ok-push_event_post.ensures in
    search (rules, on_ok_weaker)
