use Rattle.std.proofs.lemmas.Result.{IfOk-equal}
use Rattle.std.specs.Prelude.{codes, slice_get}
use Rattle.caf_report.specs.ReportText.{step_text, cell_text}
use Rattle.caf_report.proofs.Pieces.{pieces}
use Rattle.caf_report.proofs.ending.push_race.Goals as goal

pub returns : goal.returns
returns c =
    let es = c.args.trace.now.entries in
    let r = c.args.race.now in
    let z = c.in_ok-push_steps.ensures in
    IfOk-equal c.push_text-3.result _ _ _ c.push_text-3.ensures
    (pieces c.args.out.now.items (codes "race on ") (cell_text c.args.names.now r) (codes ": ") (step_text es r.first (slice_get es r.first)) (codes ", ") (step_text es r.second (slice_get es r.second)) (codes "\n")
    c.push_text.new.out.items c.push_cell.new.out.items c.push_text-2.new.out.items c.push_steps.new.out.items
    c.in_ok-push_text.ensures c.in_ok-push_cell.ensures c.in_ok-push_text-2.ensures (rw c.as_slice.ensures at z))
