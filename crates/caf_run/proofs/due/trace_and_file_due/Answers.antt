use Rattle.std.proofs.Common.{sym, subst}
use Rattle.caf_words.specs.Words.{words_in}
use Rattle.caf_run.specs.Dues.{IsDue}
use Rattle.caf_run.specs.Reading.{HasBytesIfTold}
use Rattle.caf_run.proofs.Tasks.{trace_place, traced_input, traced_named}
use Rattle.caf_run.proofs.TraceDue.{due_later, fault_named, long_named, trace_given}
use Rattle.caf_run.proofs.WhatIsDue.{if_ok_map}
use Rattle.caf_run.proofs.due.trace_and_file_due.Goals as goal

pub word_at-name-requires : goal.word_at-name-requires
word_at-name-requires g c = trace_place c.args.words.now c.args.task.now c.args.places c.requires.asks

pub task_due-requires-clause-asks : goal.task_due-requires-clause-asks
task_due-requires-clause-asks g c κs within = traced_input (words_in c.args.words.now) c.args.task.now c.args.places c.requires.asks

pub task_due-requires-clause-trace : goal.task_due-requires-clause-trace
task_due-requires-clause-trace g c κs within =
    trace_given (words_in c.args.words.now) _ c.args.task.now c.args.places c.word_at-name.result.now c.as_slice.result.now c.requires.asks c.word_at-name.ensures
    (subst (λ v. HasBytesIfTold v c.word_at-name.result.now c.as_slice.result.now) (sym c.in-Ok.ensures.files)
    (subst (HasBytesIfTold (g.S.Source.files c.args.source.now) c.word_at-name.result.now) (sym c.as_slice.ensures.value) c.in-Ok.ensures.whole))

pub returns-in-Ok-clause-untouched : goal.returns-in-Ok-clause-untouched
returns-in-Ok-clause-untouched g c = λ none. absurd (traced_named (words_in c.args.words.now) c.args.task.now c.args.places c.requires.asks none)

pub returns-in-Ok-clause-due : goal.returns-in-Ok-clause-due
returns-in-Ok-clause-due g c =
    if_ok_map c.task_due.result _ _
    (λ d due. due_later (words_in c.args.words.now) (g.S.Source.files c.args.source.now) (g.S.Source.left c.task_due.new.source) (g.S.Source.faults c.args.source.now) (g.S.Source.faults c.read_file.new.source)
    (g.S.Source.faults c.task_due.new.source) d.status d.text.items d.report c.in-Ok.ensures.later
    (subst (λ v. IsDue (words_in c.args.words.now) v (g.S.Source.left c.task_due.new.source) (g.S.Source.faults c.read_file.new.source) (g.S.Source.faults c.task_due.new.source) d.status d.text.items d.report)
    c.in-Ok.ensures.files due))
    c.task_due.ensures.due

pub returns-in-Err-Fault-clause-untouched : goal.returns-in-Err-Fault-clause-untouched
returns-in-Err-Fault-clause-untouched g c = λ none. absurd (traced_named (words_in c.args.words.now) c.args.task.now c.args.places c.requires.asks none)

pub returns-in-Err-Fault-clause-due : goal.returns-in-Err-Fault-clause-due
returns-in-Err-Fault-clause-due g c =
    if_ok_map c.said.result _ _
    (λ d s. fault_named (words_in c.args.words.now) c.args.task.now c.args.places c.word_at-name.result.now (g.S.Source.files c.args.source.now) (g.S.Source.left c.read_file.new.source) (g.S.Source.faults c.args.source.now)
    (g.S.Source.faults c.read_file.new.source) d.status d.text.items d.report c.requires.asks c.word_at-name.ensures (search (c.in-Err-Fault.ensures.fault, c.in-Err-Fault.field-0-is)) s.0 s.1 s.2)
    c.said.ensures

pub returns-in-Err-TooLong-clause-untouched : goal.returns-in-Err-TooLong-clause-untouched
returns-in-Err-TooLong-clause-untouched g c = λ none. absurd (traced_named (words_in c.args.words.now) c.args.task.now c.args.places c.requires.asks none)

pub returns-in-Err-TooLong-clause-due : goal.returns-in-Err-TooLong-clause-due
returns-in-Err-TooLong-clause-due g c =
    if_ok_map c.said-in-Err-TooLong.result _ _
    (λ d s. long_named (words_in c.args.words.now) c.args.task.now c.args.places c.word_at-name.result.now (g.S.Source.files c.args.source.now) (g.S.Source.left c.read_file.new.source) (g.S.Source.faults c.args.source.now)
    (g.S.Source.faults c.read_file.new.source) d.status d.text.items d.report c.requires.asks c.word_at-name.ensures (search (c.in-Err-TooLong.ensures.too_long, c.in-Err-TooLong.field-0-is)) s.0 s.1 s.2)
    c.said-in-Err-TooLong.ensures

pub returns-in-Err-NoMemory-clause-untouched : goal.returns-in-Err-NoMemory-clause-untouched
returns-in-Err-NoMemory-clause-untouched g c = λ none. absurd (traced_named (words_in c.args.words.now) c.args.task.now c.args.places c.requires.asks none)
