use Rattle.std.proofs.Common.{rules}
use Rattle.checked_tree.specs.StatementViews as statements
use Rattle.expr_code.specs.Environments.{environment}
use Rattle.expr_code.proofs.Lines.{written_long}
use Rattle.subroutine_code.specs.Collecting as part
use Rattle.subroutine_code.proofs.collective.received_size.Goals as goal

pub returns : goal.returns
returns c =
    let parts = part.received (environment c.args.env.now) (statements.collected c.args.collected.now) c.args.root c.args.place in
    let size = written_long 0 parts c.in_ok-draft.draft in
    search rules
