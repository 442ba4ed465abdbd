use Rattle.std.proofs.Common.{sym, ◌∙◌, subst}
use Rattle.program_tree.specs.Blocks.{IsClear}
use Rattle.program_tree.proofs.Moves.{on_ok, unselected}
use Rattle.program_tree.proofs.block.Block.end_select.Goals as goal

pub returns-in-Select : goal.returns-in-Select
returns-in-Select c =
    on_ok c.push.result c.push.ensures.statements (λ pushed.
    unselected c.args.self.now c.push.new.self c.in-Select.expression c.in-Select.at c.args.end c.new-cases.result (sym c.in-Select.ensures.value) c.new-cases.ensures.items
    (subst IsClear (sym (c.push.ensures.begun ∙ c.in-Select.ensures.after)) c.new.ensures.items) c.push.ensures.frames pushed)
