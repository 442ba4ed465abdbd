use Rattle.std.proofs.Common.{sym, subst}
use Rattle.caf_run.specs.Dues.{TreeDue}
use Rattle.caf_run.specs.declared.task.Task.TheVariants as tasks
use Rattle.caf_run.proofs.WhatIsDue.{if_ok_map}
use Rattle.caf_run.proofs.due.accepted_due.Goals as goal

pub returns-in-Run : goal.returns-in-Run
returns-in-Run g c =
    if_ok_map c.run_due.result _ _
    (λ d due x accepts. subst (λ t. TreeDue x t c.args.trace.now d.status d.text.items d.report) (sym c.in-Run.is)
    (subst (λ v. TreeDue x (tasks.Run c.in-Run.options v) c.args.trace.now d.status d.text.items d.report) c.as_slice.ensures (due x c.args.trace.now accepts)))
    c.run_due.ensures
