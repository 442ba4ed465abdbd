use Rattle.std.proofs.Common.{map}
use Rattle.std.specs.Arc.{arc_value}
use Rattle.coarray_memory.specs.Memories.{declared_of}
use Rattle.full_report.proofs.Declared.{are_declared}
use Rattle.lane_parts.specs.FirstLanes.{fails_at}
use Rattle.program_run.proofs.Program.{first, machines_run}
use Rattle.trace_replay.proofs.Judged.{stands_first}
use Rattle.trace_replay.proofs.judging.first_parts.Goals as goal

pub start_full-requires-clause-declared : goal.start_full-requires-clause-declared
start_full-requires-clause-declared c = are_declared (map declared_of c.args.coarrays.now) c.requires.declared

pub returns-clause-sound : goal.returns-clause-sound
returns-clause-sound c =
    let w = arc_value c.args.code.now in
    let coarrays = map declared_of c.args.coarrays.now in
    let xs = c.in_ok-machines.machines.items in
    let made = c.in_ok-machines.ensures in
    let fails = fails_at c.args.fails.now in
    let program = c.requires.program in
    let runs = machines_run w c.args.limit c.args.n xs made.count made.begun coarrays fails c.args.words program.0 program.1 in
    (c.in_ok-parts.ensures.sound (first w c.args.limit c.args.n xs made.count made.begun coarrays fails c.args.words) runs.come runs.fit).1

pub returns-clause-begun : goal.returns-clause-begun
returns-clause-begun c =
    let w = arc_value c.args.code.now in
    let coarrays = map declared_of c.args.coarrays.now in
    let xs = c.in_ok-machines.machines.items in
    let made = c.in_ok-machines.ensures in
    let fails = fails_at c.args.fails.now in
    let program = c.requires.program in
    let runs = machines_run w c.args.limit c.args.n xs made.count made.begun coarrays fails c.args.words program.0 program.1 in
    let start = first w c.args.limit c.args.n xs made.count made.begun coarrays fails c.args.words in
    stands_first w c.args.limit c.args.n xs made.count made.begun coarrays fails c.args.words _ (c.in_ok-parts.ensures.first start runs.come) (c.in_ok-parts.ensures.sound start runs.come runs.fit).0
