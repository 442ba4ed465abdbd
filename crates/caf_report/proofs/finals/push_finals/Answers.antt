use Rattle.caf_report.specs.ReportText.{final_line}
use Rattle.caf_report.proofs.Printed.{item_turn}
use Rattle.caf_report.proofs.finals.push_finals.Goals as goal

pub loop-last-preserved : goal.loop-last-preserved
loop-last-preserved c =
    item_turn final_line c.args.out.now.items c.loop-last.out.items _ c.args.finals.now c.loop-last.last-index c.last-item.result c.loop-last-test.true c.last-item.is c.loop-last.invariant c.in_ok-push_final.ensures
