use Rattle.std.proofs.Common.{rules}
use Rattle.std.specs.Prelude.{map}
use Rattle.checked_tree.specs.StatementViews as statements
use Rattle.tree_meaning.specs.Assignments.{output}
use Rattle.std.proofs.lemmas.Result.{on_ok_weaker}
use Rattle.expr_code.specs.Environments.{environment}
use Rattle.statement_code.proofs.Ends.{released_by}
use Rattle.statement_code.proofs.simple.print.Goals as goal

pub returns : goal.returns
returns c =
    let parts = output (environment c.args.env.now) (statements.format c.args.format.now) (map statements.item c.args.items.now) in
    let last = released_by c.args.line parts c.args.draft.now c.look-before.new.self c.push_output.new.draft c.release.new.self c.look-before.result c.look-before.ensures.before c.look-before.ensures.draft c.in_ok-push_output.ensures in
    search (rules, on_ok_weaker)
