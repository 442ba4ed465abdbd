use Rattle.std.proofs.Common.{subst}
use Rattle.caf_words.specs.Words.{words_in, Means}
use Rattle.caf_run.proofs.Tasks.{check_asked}
use Rattle.caf_run.proofs.WhatIsDue.{make_named, if_ok_map}
use Rattle.caf_run.proofs.due.command_due.Goals as goal

pub task_due-requires-in-Check-clause-asks : goal.task_due-requires-in-Check-clause-asks
task_due-requires-in-Check-clause-asks g c κs within = check_asked (words_in c.args.words.now) c.in-Check.word (subst (Means (words_in c.args.words.now)) c.in-Check.is c.requires.means)

pub returns-in-Make-clause-due : goal.returns-in-Make-clause-due
returns-in-Make-clause-due g c =
    if_ok_map c.make_due.result _ _
    (λ d s. make_named (words_in c.args.words.now) c.in-Make.seed c.in-Make.size (g.S.Source.files c.args.source.now) (g.S.Source.left c.args.source.now) (g.S.Source.faults c.args.source.now) (g.S.Source.faults c.args.source.now)
    d.status d.text.items d.report (subst (Means (words_in c.args.words.now)) c.in-Make.is c.requires.means) s.0 s.1 s.2)
    c.make_due.ensures
