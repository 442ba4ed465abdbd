use Rattle.checked_tree.specs.StatementViews as typed
use Rattle.accepted_runs.proofs.Programs.{can_run}
use Rattle.caf_run.proofs.Trees.{run_tree}
use Rattle.caf_run.proofs.WhatIsDue.{if_ok_map}
use Rattle.caf_run.proofs.due.run_due.Goals as goal

pub returns-in-Ok : goal.returns-in-Ok
returns-in-Ok g c =
    if_ok_map c.report_due.result _ _
    (λ d told x traced accepts. run_tree x (typed.program c.args.checked.now) c.args.options c.args.fails.now c.in_ok-events.events.items traced c.in-Ok.report d.status d.text.items d.report accepts
    c.in_ok-events.ensures (rw (c.told_of.ensures, c.as_slice.ensures.value) at c.in-Ok.ensures.report) c.in-Ok.ensures.status told.0 told.1 told.2)
    c.report_due.ensures

-- each accepted program can be run
pub unreachable-requires : goal.unreachable-requires
unreachable-requires g c =
    let accepted = c.requires.accepted in
    let refused = rw (c.in-Err-Cause.field-0-is) at c.in-Err-Cause.ensures.refused in
    refused.cannot (can_run accepted.0 (typed.program c.args.checked.now) accepted.1)
