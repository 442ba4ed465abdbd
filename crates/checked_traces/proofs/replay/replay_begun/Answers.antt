use Rattle.lane_parts.specs.FirstLanes.{fails_at}
use Rattle.checked_traces.proofs.Told.{walks, run_too, no_run_too, replay_too}
use Rattle.checked_traces.proofs.replay.replay_begun.Goals as goal

pub replay_code-requires-clause-declared : goal.replay_code-requires-clause-declared
replay_code-requires-clause-declared c = rw c.as_slice.ensures.value c.requires.begins.1.values

pub replay_code-requires-clause-program : goal.replay_code-requires-clause-program
replay_code-requires-clause-program c =
    let begins = c.requires.begins in
    (begins.0, walks begins.0 c.args.begun begins.1 c.args.told (fails_at c.args.fails.now) c.args.trace.now.entries)

pub returns-in-Ok-clause-report : goal.returns-in-Ok-clause-report
returns-in-Ok-clause-report c p is named listing =
    let run = c.in-Ok.ensures.report in
    let onward = c.in-Ok.ensures.onward in
    let finals = c.in-Ok.ensures.finals in
    replay_too p c.args.begun is c.args.told (fails_at c.args.fails.now) c.args.trace.now.entries c.in-Ok.report c.args.names c.args.listed.now named listing (rw c.as_slice.ensures.value at run) (rw c.as_slice.ensures.value at onward)
    c.in-Ok.ensures.names (rw c.as_slice.ensures.value at finals)

pub returns-in-Err-Cause-clause-refused : goal.returns-in-Err-Cause-clause-refused
returns-in-Err-Cause-clause-refused c p is =
    let none = c.in-Err-Cause.ensures.not_a_run in
    no_run_too p c.args.begun is c.args.told (fails_at c.args.fails.now) c.args.trace.now.entries c.in-Err-Cause.bad.step (rw (c.in-Err-Cause.field-0-is, c.as_slice.ensures.value) at none)

pub returns-in-Ok-clause-run : goal.returns-in-Ok-clause-run
returns-in-Ok-clause-run c p is =
    let run = c.in-Ok.ensures.run in
    run_too p c.args.begun is c.args.told (fails_at c.args.fails.now) c.args.trace.now.entries (rw c.as_slice.ensures.value at run)
