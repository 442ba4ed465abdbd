use Rattle.std.proofs.Common.{map, refl, ap, sym, ◌∙◌, subst}
use Rattle.std.specs.Arc.{arc_value}
use Rattle.caf_report.specs.Ends.{HasEnd}
use Rattle.caf_report.specs.declared.report.Report.{Report}
use Rattle.coarray_memory.specs.Memories.{declared_of}
use Rattle.final_values.specs.Finals.{run_finals}
use Rattle.full_report.specs.Reports.{order_of}
use Rattle.image_core.proofs.Readiness.{if_ok_map}
use Rattle.lane_parts.specs.FirstLanes.{fails_at}
use Rattle.program_run.specs.Finals.{AreProgramFinals}
use Rattle.program_run.specs.Reports.{IsProgramReport}
use Rattle.program_run.proofs.Program.{first, machines_run, parts_count, parts_finals, run_report, with_finals}
use Rattle.program_run.proofs.running.run_code.Goals as goal

pub run_images-requires-clause-runs : goal.run_images-requires-clause-runs
run_images-requires-clause-runs g c κs within =
    let w = arc_value c.args.code in
    let coarrays = map declared_of c.args.coarrays.now in
    let xs = c.in_ok-machines.machines.items in
    let made = c.in_ok-machines.ensures in
    let fails = fails_at c.args.fails.now in
    let program = c.requires.program in (
      first w c.args.limit c.args.n xs made.count made.begun coarrays fails c.args.words,
      machines_run w c.args.limit c.args.n xs made.count made.begun coarrays fails c.args.words program.0 program.1,
    )

pub told-requires : goal.told-requires
told-requires g c =
    let xs = c.in_ok-machines.machines.items in
    let made = c.in_ok-machines.ensures in
    let program = c.requires.program in
    let ran = c.in_ok-ran.ran in
    parts_count (arc_value c.args.code) c.args.limit c.args.n xs made.count made.begun (map declared_of c.args.coarrays.now) (fails_at c.args.fails.now) c.args.words ran.report.trace.entries _ c.in_ok-ran.ensures.at_end
    ran.parts.images.items ran.parts.memories.items refl refl refl refl c.in_ok-ran.ensures.numbered program.0 program.1 c.args.listed.now

pub returns-clause-report : goal.returns-clause-report
returns-clause-report g c =
    let coarrays = map declared_of c.args.coarrays.now in
    let xs = c.in_ok-machines.machines.items in
    let made = c.in_ok-machines.ensures in
    let fails = fails_at c.args.fails.now in
    let ran = c.in_ok-ran.ran in
    if_ok_map c.told.result _ _ (λ report same p h.
    subst (IsProgramReport p c.args.limit coarrays c.args.n fails c.args.words (order_of c.args.way)) (sym same)
    (with_finals p c.args.limit coarrays c.args.n fails c.args.words (order_of c.args.way) ran.report (run_finals c.args.listed.now ran.parts.images.items ran.parts.memories.items)
    (run_report (arc_value c.args.code) c.args.limit c.args.n xs made.count made.begun coarrays fails c.args.words (order_of c.args.way) ran.report c.in_ok-ran.ensures.report p h))) c.told.ensures

pub returns-clause-has_end : goal.returns-clause-has_end
returns-clause-has_end g c = if_ok_map c.told.result _ _ (λ report same. subst HasEnd (sym same) c.in_ok-ran.ensures.has_end) c.told.ensures

pub returns-clause-names : goal.returns-clause-names
returns-clause-names g c = if_ok_map c.told.result _ _ (λ report same. ap (λ (r : Report). r.names) same ∙ c.in_ok-ran.ensures.names) c.told.ensures

pub returns-clause-finals : goal.returns-clause-finals
returns-clause-finals g c =
    let coarrays = map declared_of c.args.coarrays.now in
    let xs = c.in_ok-machines.machines.items in
    let made = c.in_ok-machines.ensures in
    let fails = fails_at c.args.fails.now in
    let ran = c.in_ok-ran.ran in
    if_ok_map c.told.result _ _ (λ report same p h.
    subst (λ (r : Report). AreProgramFinals p c.args.limit coarrays c.args.n fails c.args.words c.args.listed.now r.trace.entries r.finals) (sym same)
    (parts_finals (arc_value c.args.code) c.args.limit c.args.n xs made.count made.begun coarrays fails c.args.words ran.report.trace.entries _ c.in_ok-ran.ensures.at_end ran.parts.images.items ran.parts.memories.items refl refl refl refl
    c.in_ok-ran.ensures.numbered p h c.args.listed.now)) c.told.ensures

pub run_images-requires-clause-hears : goal.run_images-requires-clause-hears
run_images-requires-clause-hears g c κs within = λ at ask reply asked. tt
