use Rattle.std.proofs.Common.{◌≡◌, length, rules}
use Rattle.checked_tree.specs.StatementViews as view
use Rattle.image_code.specs.Table.{scope_of}
use Rattle.expr_code.specs.Environments.{environment}
use Rattle.code_maker.proofs.Programs.{unit_sized}
use Rattle.code_maker.proofs.maker.unit_size.Goals as goal

pub returns : goal.returns
unfolding environment
returns c =
    let e : c.in_ok-hidden.hidden ≡ length c.args.unit.now.variables.items = search rules in
    unit_sized c.block_size.result (view.program c.args.checked.now) (scope_of c.args.main) c.args.unit.now c.in_ok-hidden.hidden c.as_slice.result.now e c.as_slice.ensures.value c.block_size.ensures
