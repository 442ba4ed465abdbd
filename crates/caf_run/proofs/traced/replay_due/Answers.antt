use Rattle.checked_tree.specs.StatementViews as typed
use Rattle.lane_parts.specs.FirstLanes.{fails_at}
use Rattle.caf_words.specs.declared.command.Goal.TheVariants.{Replay}
use Rattle.caf_run.proofs.Answered.{replayed_answer, no_run_answer, of_bytes}
use Rattle.caf_run.proofs.WhatIsDue.{if_ok_map}
use Rattle.caf_run.proofs.traced.replay_due.Goals as goal

pub returns-in-Ok : goal.returns-in-Ok
returns-in-Ok c =
    if_ok_map c.report_due.result _ _
    (λ d said. replayed_answer (typed.program c.args.checked.now) c.args.options c.args.fails.now c.in_ok-events.events.items c.args.trace.now c.in-Ok.report d.status d.text.items d.report
    c.in_ok-events.ensures (rw (c.told_of.ensures, c.as_slice.ensures.value) at c.in-Ok.ensures.report) said.0 said.1 said.2)
    c.report_due.ensures

pub no_run_due-requires : goal.no_run_due-requires
no_run_due-requires c =
    let accepted = c.requires.accepted in
    rw (c.in-Err-Cause.field-0-is)
    (of_bytes accepted.0 (typed.program c.args.checked.now) c.told_of.result (fails_at c.as_slice.result.now) c.args.trace.now c.in-Err-Cause.no_run accepted.1
    (rw (c.in-Err-Cause.field-0-is) at c.in-Err-Cause.ensures.refused))

pub returns-in-Err-Cause : goal.returns-in-Err-Cause
returns-in-Err-Cause c =
    if_ok_map c.no_run_due.result _ _
    (λ d said. no_run_answer Replay (typed.program c.args.checked.now) c.args.options c.args.fails.now c.in_ok-events.events.items c.args.trace.now c.in-Err-Cause.no_run d.status d.text.items d.report
    c.in_ok-events.ensures (rw (c.told_of.ensures, c.as_slice.ensures.value, c.in-Err-Cause.field-0-is) at c.in-Err-Cause.ensures.refused) said)
    (rw (c.in-Err-Cause.field-0-is) at c.no_run_due.ensures)
