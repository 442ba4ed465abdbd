use Rattle.std.proofs.Common.{map, ◌∙◌}
use Rattle.std.specs.Arc.{arc_value}
use Rattle.checked_tree.specs.StatementViews.{program}
use Rattle.coarray_memory.specs.Memories.{declared_of}
use Rattle.lane_parts.specs.FirstLanes.{fails_at}
use Rattle.checked_run.proofs.Programs.{run_of, walks_of}
use Rattle.checked_run.proofs.running.report.Goals as goal

pub run_code-requires-clause-program : goal.run_code-requires-clause-program
run_code-requires-clause-program g c κs within =
    let p = program c.args.checked.now in (
      p,
      walks_of p c.args.code (arc_value c.in_ok-shared.shared) c.args.told.limit c.args.told.images c.requires.code c.in_ok-shared.ensures.ok,
    )

pub returns-clause-report : goal.returns-clause-report
returns-clause-report g c =
    let p = program c.args.checked.now in
    let w = arc_value c.in_ok-shared.shared in
    let done = c.in_ok-report.ensures in
    run_of p c.args.told (fails_at c.args.fails.now) w (map declared_of c.args.coarrays.now) c.in_ok-report.report c.in_ok-names.names c.as_slice.result.now
    (walks_of p c.args.code w c.args.told.limit c.args.told.images c.requires.code c.in_ok-shared.ensures.ok) c.requires.coarrays c.in_ok-names.ensures (c.as_slice.ensures.value ∙ c.in_ok-listed.ensures) done.report done.names done.finals
