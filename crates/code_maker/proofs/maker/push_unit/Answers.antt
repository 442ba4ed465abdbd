use Rattle.std.proofs.Common.{◌≡◌, length, rules}
use Rattle.std.proofs.lemmas.Result.{on_ok_weaker}
use Rattle.checked_tree.specs.StatementViews as view
use Rattle.image_code.specs.Table.{scope_of}
use Rattle.expr_code.specs.Environments.{environment}
use Rattle.code_maker.proofs.Programs.{unit_written}
use Rattle.code_maker.proofs.maker.push_unit.Goals as goal

pub returns : goal.returns
unfolding environment
returns c =
    let e : c.in_ok-hidden.hidden ≡ length c.args.unit.now.variables.items = search rules in
    on_ok_weaker c.push.result
    (unit_written c.args.checked.now.end_line (view.program c.args.checked.now) (scope_of c.args.main) c.args.unit.now c.in_ok-hidden.hidden c.as_slice.result.now c.args.draft.now c.push_block.new.draft c.push.new.self e c.as_slice.ensures.value c.in_ok-push_block.ensures.written)
    c.push.ensures
