use Rattle.std.proofs.Common.{subst}
use Rattle.caf_words.specs.Words.{words_in, IsRefusalOf}
use Rattle.caf_run.proofs.WhatIsDue.{usage_wrong, if_ok_map}
use Rattle.caf_run.proofs.due.what_is_due.Goals as goal

pub returns-in-Err-Cause-clause-due : goal.returns-in-Err-Cause-clause-due
returns-in-Err-Cause-clause-due g c =
    if_ok_map c.usage_due.result _ _
    (λ d s. usage_wrong (words_in c.args.words.now) c.in-Err-Cause.usage.word (g.S.Source.files c.args.source.now) (g.S.Source.left c.args.source.now) (g.S.Source.faults c.args.source.now) (g.S.Source.faults c.args.source.now)
    d.status d.text.items d.report (subst (IsRefusalOf (words_in c.args.words.now)) c.in-Err-Cause.field-0-is c.in-Err-Cause.ensures.refused) s.0 s.1 s.2)
    c.usage_due.ensures
