use Rattle.std.proofs.Common.{length, map, sym, subst}
use Rattle.core_runs.proofs.Lawfuls.{core_run_lawful}
use Rattle.coarray_memory.specs.Memories.{declared_of}
use Rattle.image_core.proofs.Readiness.{if_ok_map}
use Rattle.image_lanes.specs.Lanes.{lane_step, lane_hears}
use Rattle.image_lanes.specs.LaneRuns.{lane_rules, lanes_begin}
use Rattle.lane_parts.specs.FirstLanes.{fails_at}
use Rattle.order_report.specs.Reports.{IsRunReport}
use Rattle.full_report.specs.declared.way.Way.{Way}
use Rattle.full_report.specs.Reports.{order_of}
use Rattle.full_report.proofs.Declared.{are_declared}
use Rattle.full_report.proofs.Hearing.{no_step_first}
use Rattle.full_report.proofs.running.run_images.Goals as goal

pub start_full-requires-clause-declared : goal.start_full-requires-clause-declared
start_full-requires-clause-declared g c = are_declared (map declared_of c.args.coarrays.now) c.requires.declared

pub in_order-requires-clause-sound : goal.in_order-requires-clause-sound
in_order-requires-clause-sound g c =
    let runs = c.requires.runs in
    (c.in_ok-parts.ensures.sound runs.0 runs.1.come runs.1.fit).1

pub in_order-requires-clause-lawful : goal.in_order-requires-clause-lawful
in_order-requires-clause-lawful g c =
    let runs = c.requires.runs in
    let coarrays = map declared_of c.args.coarrays.now in
    let n = length c.args.machines.items in
    let begins = lanes_begin coarrays n runs.0 (fails_at c.args.fails.now) c.args.words in (
      begins,
      coarrays,
      (c.in_ok-parts.ensures.sound runs.0 runs.1.come runs.1.fit).0,
      λ t core. core_run_lawful (lane_step g.M.Walker.step) (lane_hears g.M.Walker.step g.M.Walker.hears) coarrays n begins.first t c.requires.declared runs.1.fit core,
    )

pub on_workers-requires-clause-sound : goal.on_workers-requires-clause-sound
on_workers-requires-clause-sound g c κs within =
    let runs = c.requires.runs in
    (c.in_ok-parts.ensures.sound runs.0 runs.1.come runs.1.fit).1

pub on_workers-requires-clause-lawful : goal.on_workers-requires-clause-lawful
on_workers-requires-clause-lawful g c κs within =
    let runs = c.requires.runs in
    let coarrays = map declared_of c.args.coarrays.now in
    let n = length c.args.machines.items in
    let begins = lanes_begin coarrays n runs.0 (fails_at c.args.fails.now) c.args.words in (
      begins,
      coarrays,
      (c.in_ok-parts.ensures.sound runs.0 runs.1.come runs.1.fit).0,
      λ t core. core_run_lawful (lane_step g.M.Walker.step) (lane_hears g.M.Walker.step g.M.Walker.hears) coarrays n begins.first t c.requires.declared runs.1.fit core,
    )

pub on_workers-requires-clause-first : goal.on_workers-requires-clause-first
on_workers-requires-clause-first g c κs within =
    let runs = c.requires.runs in
    no_step_first (lane_rules g.M.Walker.step g.M.Walker.hears) (lanes_begin (map declared_of c.args.coarrays.now) (length c.args.machines.items) runs.0 (fails_at c.args.fails.now) c.args.words) _ (c.in_ok-parts.ensures.first runs.0 runs.1.come)

pub returns-in-Order-clause-report : goal.returns-in-Order-clause-report
returns-in-Order-clause-report g c =
    let coarrays = map declared_of c.args.coarrays.now in
    let n = length c.args.machines.items in
    if_ok_map c.in_order.result _ _ (λ ran is first runs end.
    (let begins = lanes_begin coarrays n first (fails_at c.args.fails.now) c.args.words in
    subst (λ (w : Way). IsRunReport (lane_rules g.M.Walker.step g.M.Walker.hears) begins coarrays (order_of w) ran.report) (sym c.in-Order.is)
    (is.report_is begins coarrays (c.in_ok-parts.ensures.first first runs.come) (c.in_ok-parts.ensures.sound first runs.come runs.fit).0 end
    (λ t core. core_run_lawful (lane_step g.M.Walker.step) (lane_hears g.M.Walker.step g.M.Walker.hears) coarrays n begins.first t c.requires.declared runs.fit core)))) c.in_order.ensures.ran

pub returns-in-Order-clause-at_end : goal.returns-in-Order-clause-at_end
returns-in-Order-clause-at_end g c =
    if_ok_map c.in_order.result _ _ (λ ran is first runs.
    is.at_end (lanes_begin (map declared_of c.args.coarrays.now) (length c.args.machines.items) first (fails_at c.args.fails.now) c.args.words) (c.in_ok-parts.ensures.sound first runs.come runs.fit).0) c.in_order.ensures.ran

pub returns-in-Workers-clause-report : goal.returns-in-Workers-clause-report
returns-in-Workers-clause-report g c =
    let coarrays = map declared_of c.args.coarrays.now in
    let n = length c.args.machines.items in
    if_ok_map c.on_workers.result _ _ (λ ran is first runs end.
    (let begins = lanes_begin coarrays n first (fails_at c.args.fails.now) c.args.words in
    subst (λ (w : Way). IsRunReport (lane_rules g.M.Walker.step g.M.Walker.hears) begins coarrays (order_of w) ran.report) (sym c.in-Workers.is)
    (is.report_is begins coarrays (c.in_ok-parts.ensures.first first runs.come) (c.in_ok-parts.ensures.sound first runs.come runs.fit).0 end
    (λ t core. core_run_lawful (lane_step g.M.Walker.step) (lane_hears g.M.Walker.step g.M.Walker.hears) coarrays n begins.first t c.requires.declared runs.fit core)))) c.on_workers.ensures.ran

pub returns-in-Workers-clause-at_end : goal.returns-in-Workers-clause-at_end
returns-in-Workers-clause-at_end g c =
    if_ok_map c.on_workers.result _ _ (λ ran is first runs.
    is.at_end (lanes_begin (map declared_of c.args.coarrays.now) (length c.args.machines.items) first (fails_at c.args.fails.now) c.args.words) (c.in_ok-parts.ensures.sound first runs.come runs.fit).0) c.on_workers.ensures.ran
