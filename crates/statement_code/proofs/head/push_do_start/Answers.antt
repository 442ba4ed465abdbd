use Rattle.std.proofs.Common.{rules}
use Rattle.checked_tree.specs.ExpressionViews as view
use Rattle.tree_meaning.specs.Environment.{hidden_cell}
use Rattle.tree_meaning.specs.Forms.{do_start}
use Rattle.std.proofs.lemmas.Result.{on_ok_weaker}
use Rattle.expr_code.specs.Environments.{environment}
use Rattle.statement_code.proofs.Ends.{released_by}
use Rattle.statement_code.proofs.head.push_do_start.Goals as goal

pub returns : goal.returns
returns c =
    let parts = do_start (environment c.args.env.now) c.args.variable c.args.kind (view.expression c.args.first.now) (view.expression c.args.last.now) (view.maybe_expression c.args.step.now) (hidden_cell (environment c.args.env.now) c.args.hidden) in
    let last = released_by c.args.line parts c.args.draft.now c.look-before.new.self c.push_parameters.new.draft c.release.new.self c.look-before.result c.look-before.ensures.before c.look-before.ensures.draft c.in_ok-push_parameters.ensures in
    search (rules, on_ok_weaker)
