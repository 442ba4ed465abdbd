use Rattle.fortran_tree.specs.ActionViews.{action_statement}
use Rattle.program_tree.proofs.Moves.{on_ok, acted}
use Rattle.program_tree.proofs.block.Block.act.Goals as goal

pub returns : goal.returns
returns c =
    let at = c.conditions-conditions in
    on_ok c.push.result c.push.ensures.statements (λ pushed.
    acted c.args.self.now at.new.self c.push.new.self (action_statement c.args.form) c.args.at at.result c.in_ok-action.action c.requires at.ensures.taken at.ensures.clear at.ensures.frames at.ensures.statements
    c.in_ok-action.ensures pushed c.push.ensures.frames c.push.ensures.begun)
