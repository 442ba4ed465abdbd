use Rattle.trace_text.specs.TraceText.{allotted_text}
use Rattle.trace_text.proofs.Turns.{item_turn}
use Rattle.trace_text.proofs.round.push_allotments.Goals as goal

pub loop-allotted-preserved : goal.loop-allotted-preserved
loop-allotted-preserved c =
    item_turn (allotted_text c.args.names.now) c.args.out.now.items c.loop-allotted.out.items _ c.args.list.now c.loop-allotted.allotted-index c.allotted-item.result c.loop-allotted-test.true c.allotted-item.is c.loop-allotted.invariant c.in_ok-push_allotted.ensures
