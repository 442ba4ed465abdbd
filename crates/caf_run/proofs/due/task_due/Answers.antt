use Rattle.std.proofs.Common.{subst}
use Rattle.caf_words.specs.Words.{words_in}
use Rattle.caf_words.specs.Words.Origin.{from_file, from_made}
use Rattle.caf_run.specs.Dues.{SourceDue}
use Rattle.caf_run.specs.Tasks.{AsksOf}
use Rattle.caf_run.proofs.Tasks.{asks_file, asks_made, last_word, place_within, made_within, task_within, no_file}
use Rattle.caf_run.proofs.WhatIsDue.{source_named, if_ok_map}
use Rattle.caf_run.proofs.due.task_due.Goals as goal

pub word_at-requires : goal.word_at-requires
word_at-requires g c =
    place_within c.args.words.now c.args.task.now c.in-File.word (asks_file (words_in c.args.words.now) c.args.task.now c.in-File.word (subst (AsksOf (words_in c.args.words.now) c.args.task.now) c.in-File.is c.requires.asks))

pub file_due-requires-clause-task : goal.file_due-requires-clause-task
file_due-requires-clause-task g c κs within = task_within (words_in c.args.words.now) c.args.task.now c.args.input c.requires.asks

pub made_due-requires-clause-task : goal.made_due-requires-clause-task
made_due-requires-clause-task g c κs within = task_within (words_in c.args.words.now) c.args.task.now c.args.input c.requires.asks

pub made_due-requires-clause-seed : goal.made_due-requires-clause-seed
made_due-requires-clause-seed g c κs within =
    let asked = asks_made (words_in c.args.words.now) c.args.task.now c.in-Made.seed c.in-Made.size (subst (AsksOf (words_in c.args.words.now) c.args.task.now) c.in-Made.is c.requires.asks) in
    let (numbers, within) = made_within (words_in c.args.words.now) c.args.task.now c.in-Made.seed c.in-Made.size asked in
    within.most_seed

pub made_due-requires-clause-size : goal.made_due-requires-clause-size
made_due-requires-clause-size g c κs within =
    let asked = asks_made (words_in c.args.words.now) c.args.task.now c.in-Made.seed c.in-Made.size (subst (AsksOf (words_in c.args.words.now) c.args.task.now) c.in-Made.is c.requires.asks) in
    let (numbers, within) = made_within (words_in c.args.words.now) c.args.task.now c.in-Made.seed c.in-Made.size asked in
    (within.least_size, within.most_size)

pub returns-in-File-clause-untouched : goal.returns-in-File-clause-untouched
returns-in-File-clause-untouched g c = λ none.
    absurd (no_file (words_in c.args.words.now) c.args.task.now c.in-File.word
    (asks_file (words_in c.args.words.now) c.args.task.now c.in-File.word (subst (AsksOf (words_in c.args.words.now) c.args.task.now) c.in-File.is c.requires.asks)) none)

pub returns-in-File-clause-due : goal.returns-in-File-clause-due
returns-in-File-clause-due g c =
    let r = asks_file (words_in c.args.words.now) c.args.task.now c.in-File.word (subst (AsksOf (words_in c.args.words.now) c.args.task.now) c.in-File.is c.requires.asks) in
    if_ok_map c.file_due.result _ _
    (λ d f. source_named (words_in c.args.words.now) c.args.task.now (from_file r.file) c.args.trace.now (g.S.Source.files c.args.source.now) (g.S.Source.left c.file_due.new.source) (g.S.Source.faults c.args.source.now)
    (g.S.Source.faults c.file_due.new.source) d.status d.text.items d.report r.asked c.requires.trace c.requires.few
    (subst (λ name. SourceDue (g.S.Source.files c.args.source.now) (from_file name) c.args.task.now c.args.trace.now (g.S.Source.left c.file_due.new.source) (g.S.Source.faults c.args.source.now) (g.S.Source.faults c.file_due.new.source) d.status d.text.items d.report)
    (last_word (words_in c.args.words.now) c.args.task.now c.in-File.word c.word_at.result.now r c.word_at.ensures) f))
    c.file_due.ensures.due

pub returns-in-Made-clause-due : goal.returns-in-Made-clause-due
returns-in-Made-clause-due g c =
    let asked = asks_made (words_in c.args.words.now) c.args.task.now c.in-Made.seed c.in-Made.size (subst (AsksOf (words_in c.args.words.now) c.args.task.now) c.in-Made.is c.requires.asks) in
    if_ok_map c.made_due.result _ _
    (λ d f. source_named (words_in c.args.words.now) c.args.task.now (from_made c.in-Made.seed c.in-Made.size) c.args.trace.now (g.S.Source.files c.args.source.now) (g.S.Source.left c.args.source.now) (g.S.Source.faults c.args.source.now)
    (g.S.Source.faults c.args.source.now) d.status d.text.items d.report asked c.requires.trace c.requires.few
    (f (g.S.Source.files c.args.source.now) (g.S.Source.left c.args.source.now) (g.S.Source.faults c.args.source.now) (g.S.Source.faults c.args.source.now)))
    c.made_due.ensures
