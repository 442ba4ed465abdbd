use Rattle.std.proofs.Common.{rules}
use Rattle.checked_tree.specs.StatementViews as statements
use Rattle.tree_meaning.specs.Subroutines.{intrinsic_call}
use Rattle.std.proofs.lemmas.Result.{on_ok_weaker}
use Rattle.expr_code.specs.Environments.{environment}
use Rattle.statement_code.proofs.Ends.{released_by}
use Rattle.statement_code.proofs.simple.call_intrinsic.Goals as goal

pub returns : goal.returns
returns c =
    let parts = intrinsic_call (environment c.args.env.now) (statements.intrinsic_subroutine c.args.call.now.form) c.args.call.now.order in
    let last = released_by c.args.line parts c.args.draft.now c.look-before.new.self c.push_intrinsic_call.new.draft c.release.new.self c.look-before.result c.look-before.ensures.before c.look-before.ensures.draft c.in_ok-push_intrinsic_call.ensures in
    search (rules, on_ok_weaker)
