use Rattle.std.proofs.Common.{map}
use Rattle.std.specs.Arc.{arc_value}
use Rattle.coarray_memory.specs.Memories.{declared_of}
use Rattle.lane_parts.specs.FirstLanes.{fails_at}
use Rattle.machine_runs.specs.Runs.{machines_begin}
use Rattle.trace_replay.proofs.Judged.{stands_on, no_run}
use Rattle.trace_replay.proofs.judging.parts_behind.Goals as goal

pub returns-in-Ok-None-clause-stands : goal.returns-in-Ok-None-clause-stands
returns-in-Ok-None-clause-stands c =
    let w = arc_value c.args.code.now in
    let coarrays = map declared_of c.args.coarrays.now in
    let fails = fails_at c.args.fails.now in
    let begun = c.in_ok-parts.ensures.begun in
    let b = machines_begin w c.args.limit begun.rooms coarrays c.args.n fails c.args.words in
    let made = c.in-Ok-None.ensures.made in
    let verdict = c.in-Ok-None.ensures.verdict b begun.run.kept begun.run.trace in
    stands_on w c.args.limit coarrays c.args.n fails c.args.words c.args.trace.now.entries _ _ begun (rw (c.in-Ok-None.field-0-is, c.as_slice.ensures) at made) (rw (c.in-Ok-None.field-0-is, c.as_slice.ensures) at verdict)

pub returns-in-Ok-Some-clause-not_a_run : goal.returns-in-Ok-Some-clause-not_a_run
returns-in-Ok-Some-clause-not_a_run c =
    let w = arc_value c.args.code.now in
    let coarrays = map declared_of c.args.coarrays.now in
    let fails = fails_at c.args.fails.now in
    let begun = c.in_ok-parts.ensures.begun in
    let b = machines_begin w c.args.limit begun.rooms coarrays c.args.n fails c.args.words in
    let verdict = c.in-Ok-Some.ensures.verdict b begun.run.kept begun.run.trace in
    no_run w c.args.limit coarrays c.args.n fails c.args.words c.args.trace.now.entries begun.rooms c.in-Ok-Some.step (rw (c.in-Ok-Some.field-0-is, c.as_slice.ensures) at verdict)
