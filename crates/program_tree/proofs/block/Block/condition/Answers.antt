use Rattle.program_tree.proofs.Moves.{conditioned}
use Rattle.program_tree.proofs.block.Block.condition.Goals as goal

pub returns : goal.returns
returns c =
    let at = c.conditions-conditions in
    conditioned c.args.self.now (record { frames = at.new.self.frames; statements = at.new.self.statements; begun = c.replace.new.dest }) c.args.condition c.args.at at.result c.push.new.self
    at.ensures.taken c.replace.ensures.after c.in_ok-push.ensures.items at.ensures.frames at.ensures.statements
