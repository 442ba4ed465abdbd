use Rattle.std.proofs.Common.{sym, ◌∙◌}
use Rattle.core_runs.specs.Moments.{rules}
use Rattle.image_core.specs.declared.choices.Choices.TheVariants.{Rotate}
use Rattle.image_core.specs.declared.run.ImageRun.{ImageRun}
use Rattle.image_core.specs.Parts.{moment}
use Rattle.run_outlook.proofs.Slices.{map_length}
use Rattle.order_report.proofs.TracesOn.{trace_on}
use Rattle.order_report.proofs.report.report_rest.Goals as goal

pub report_here-requires-clause-lawful : goal.report_here-requires-clause-lawful
report_here-requires-clause-lawful g c = let h = c.requires.lawful in (h.0, h.1, c.finish.ensures.kept h.0 h.2, h.3)

pub returns-clause-report : goal.returns-clause-report
returns-clause-report g c b coarrays kept enders lawful = c.in_ok-report.ensures.report b coarrays (c.finish.ensures.kept b kept) enders lawful

pub returns-clause-at_end : goal.returns-clause-at_end
returns-clause-at_end g c b kept = c.in_ok-report.ensures.at_end b (c.finish.ensures.kept b kept)

pub returns-clause-on : goal.returns-clause-on
returns-clause-on g c =
    let r = rules g.M.Walker g.O.Object g.B.Object in
    let before = moment g.M.Walker g.O.Object g.B.Object c.args.parts.now in
    let behind = moment g.M.Walker g.O.Object g.B.Object c.finish.new.parts in
    let many = map_length (λ (x : ImageRun g.row.M.Denot). g.M.Walker.config x.machine) c.args.parts.now.images.items in
    let lists = map_length (λ (x : ImageRun g.row.M.Denot). x.events.items) c.args.parts.now.images.items in
    let h = c.requires.lawful in
    trace_on r (Rotate 0) before behind c.in_ok-report.report.trace.entries (lists ∙ sym many) c.in_ok-finish.ensures.on (c.in_ok-report.ensures.at_end h.0 (c.finish.ensures.kept h.0 h.2)).trace
