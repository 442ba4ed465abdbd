use Rattle.std.proofs.Common.{subst}
use Rattle.fortran_lines.specs.Causes.{IfCause}
use Rattle.fortran_tree.specs.UnitViews.{program}
use Rattle.source_reader.specs.Refusals.{IsRefused}
use Rattle.caf_run.proofs.WhatIsDue.{read_bytes, misread_bytes, if_ok_map}
use Rattle.caf_run.proofs.due.bytes_due.Goals as goal

pub returns-in-Ok : goal.returns-in-Ok
returns-in-Ok g c =
    if_ok_map c.tree_due.result _ _
    (λ d t. read_bytes c.args.bytes.now (program c.in-Ok.tree) c.args.task.now c.args.trace.now d.status d.text.items d.report c.in-Ok.ensures.read t)
    c.tree_due.ensures

pub returns-in-Err-Cause : goal.returns-in-Err-Cause
returns-in-Err-Cause g c =
    if_ok_map c.refused_due.result _ _
    (λ d s. misread_bytes c.args.bytes.now c.in-Err-Cause.fault c.number.result c.args.task.now c.args.trace.now d.status c.at.result d.text.items d.report
    (subst (λ r. IfCause r (λ f. IsRefused c.args.bytes.now f)) c.in-Err-Cause.field-0-is c.in-Err-Cause.ensures.refused)
    (search (c.number.ensures, c.in-Err-Cause.field-0-is)) (search (c.at.ensures, c.in-Err-Cause.field-0-is)) s.0 s.1 s.2)
    c.refused_due.ensures
