use Rattle.std.proofs.Common.{sym, ◌∙◌, subst}
use Rattle.core_runs.specs.Moments.{rules}
use Rattle.core_runs.specs.Orders.{IsOrderTrace}
use Rattle.core_runs.proofs.OrderTraces.{order_trace}
use Rattle.image_core.specs.declared.run.ImageRun.{ImageRun}
use Rattle.image_core.specs.Choosing.{choosing}
use Rattle.image_core.specs.Parts.{moment}
use Rattle.run_outlook.proofs.Slices.{map_length}
use Rattle.order_report.specs.Reports.{IsTraceOn}
use Rattle.order_report.proofs.Runs.{whole_of, no_further, with_order}
use Rattle.order_report.proofs.TracesOn.{trace_on}
use Rattle.order_report.proofs.report.report_order.Goals as goal

pub report_here-requires-clause-lawful : goal.report_here-requires-clause-lawful
report_here-requires-clause-lawful g c = let h = c.requires.lawful in (h.0, h.1, c.in_ok-run_order.ensures.kept h.0 h.2, h.3)

pub report_here-requires-clause-over : goal.report_here-requires-clause-over
report_here-requires-clause-over g c = no_further (rules g.M.Walker g.O.Object g.B.Object) (moment g.M.Walker g.O.Object g.B.Object c.run_order.new.self) c.in_ok-run_order.field-0 c.in_ok-run_order.ensures.run.so.0

pub returns-clause-report : goal.returns-clause-report
returns-clause-report g c b coarrays first kept enders lawful =
    let r = rules g.M.Walker g.O.Object g.B.Object in
    let before = moment g.M.Walker g.O.Object g.B.Object c.args.parts.now in
    let behind = moment g.M.Walker g.O.Object g.B.Object c.run_order.new.self in
    let run = c.in_ok-run_order.ensures.run in
    let whole = whole_of r b choosing c.choices_of_seed-choices.result before run.steps c.run_order.new.choices behind c.in_ok-run_order.field-0 first run.ordered run.so in
    let kept_on = c.in_ok-run_order.ensures.kept b kept in
    let report = c.in_ok-report.report in
    let ordered = order_trace r b choosing c.choices_of_seed-choices.result before run.steps c.run_order.new.choices behind report.trace.entries first run.ordered whole (c.in_ok-report.ensures.at_end b kept_on).trace in
    with_order r b coarrays c.args.seed report (c.in_ok-report.ensures.report b coarrays kept_on enders lawful) (subst (λ v. IsOrderTrace r b choosing v report.trace.entries) c.choices_of_seed-choices.ensures ordered)

pub returns-clause-at_end : goal.returns-clause-at_end
returns-clause-at_end g c b kept = c.in_ok-report.ensures.at_end b (c.in_ok-run_order.ensures.kept b kept)

pub returns-clause-on : goal.returns-clause-on
returns-clause-on g c =
    let r = rules g.M.Walker g.O.Object g.B.Object in
    let before = moment g.M.Walker g.O.Object g.B.Object c.args.parts.now in
    let behind = moment g.M.Walker g.O.Object g.B.Object c.run_order.new.self in
    let many = map_length (λ (x : ImageRun g.row.M.Denot). g.M.Walker.config x.machine) c.args.parts.now.images.items in
    let lists = map_length (λ (x : ImageRun g.row.M.Denot). x.events.items) c.args.parts.now.images.items in
    let h = c.requires.lawful in
    let t = c.in_ok-report.report.trace.entries in
    subst (λ v. IsTraceOn r v before behind t) c.choices_of_seed-choices.ensures
    (trace_on r c.choices_of_seed-choices.result before behind t (lists ∙ sym many) (record { last = c.run_order.new.choices; end = c.in_ok-run_order.field-0; run = c.in_ok-run_order.ensures.run })
    (c.in_ok-report.ensures.at_end h.0 (c.in_ok-run_order.ensures.kept h.0 h.2)).trace)
