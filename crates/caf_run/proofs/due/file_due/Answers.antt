use Rattle.std.proofs.Common.{sym, subst, arith}
use Rattle.caf_words.specs.Words.Origin.{from_file}
use Rattle.caf_run.specs.Reading.{HasBytesIfTold}
use Rattle.caf_run.proofs.WhatIsDue.{fault_file, whole_source, if_ok_map}
use Rattle.caf_run.proofs.due.file_due.Goals as goal

pub returns-in-Ok-clause-due : goal.returns-in-Ok-clause-due
returns-in-Ok-clause-due g c =
    if_ok_map c.bytes_due.result _ _
    (λ d b. whole_source (g.S.Source.files c.args.source.now) (from_file c.args.name.now) c.args.task.now c.args.trace.now (g.S.Source.left c.read_file.new.source) (g.S.Source.faults c.args.source.now) (g.S.Source.faults c.read_file.new.source)
    c.as_slice.result.now d.status d.text.items d.report
    (subst (HasBytesIfTold (g.S.Source.files c.args.source.now) c.args.name.now) (sym c.as_slice.ensures.value) c.in-Ok.ensures.whole)
    c.requires.few (omega (arith, c.in-Ok.ensures.fits)) (λ _ _. c.in-Ok.ensures.end) b)
    c.bytes_due.ensures

pub returns-in-Err-Fault-clause-due : goal.returns-in-Err-Fault-clause-due
returns-in-Err-Fault-clause-due g c =
    if_ok_map c.said.result _ _
    (λ d s. fault_file (g.S.Source.files c.args.source.now) c.args.name.now c.args.task.now c.args.trace.now (g.S.Source.left c.read_file.new.source) (g.S.Source.faults c.args.source.now) (g.S.Source.faults c.read_file.new.source)
    d.status d.text.items d.report (search (c.in-Err-Fault.ensures.fault, c.in-Err-Fault.field-0-is)) s.0 s.1 s.2)
    c.said.ensures
