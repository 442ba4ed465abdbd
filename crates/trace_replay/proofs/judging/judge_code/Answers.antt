use Rattle.std.proofs.Common.{map}
use Rattle.std.specs.Arc.{arc_value}
use Rattle.coarray_memory.specs.Memories.{declared_of}
use Rattle.lane_parts.specs.FirstLanes.{fails_at}
use Rattle.trace_replay.proofs.Judged.{is_run, is_lawful}
use Rattle.trace_replay.proofs.judging.judge_code.Goals as goal

pub first_race-requires : goal.first_race-requires
first_race-requires c =
    let coarrays = map declared_of c.args.coarrays.now in
    let lawful = is_lawful (arc_value c.args.code.now) c.args.limit coarrays c.args.n (fails_at c.args.fails.now) c.args.words c.args.trace.now.entries _ c.in_ok-parts.ensures.stands c.requires.declared in
    record { lawful = (coarrays, lawful) }

pub returns-clause-run : goal.returns-clause-run
returns-clause-run c =
    is_run (arc_value c.args.code.now) c.args.limit (map declared_of c.args.coarrays.now) c.args.n (fails_at c.args.fails.now) c.args.words c.args.trace.now.entries _ c.in_ok-parts.ensures.stands
