use Rattle.std.proofs.Common.{◌≤◌, ◌∙◌, length, sym, subst}
use Rattle.caf_words.specs.Words.Origin.{from_made}
use Rattle.made_laws.proofs.Lengths.{made_is_short}
use Rattle.caf_run.proofs.WhatIsDue.{whole_source, if_ok_map}
use Rattle.caf_run.proofs.due.made_due.Goals as goal

pub bytes_due-requires-clause-short : goal.bytes_due-requires-clause-short
bytes_due-requires-clause-short g c κs within =
    subst (λ v. length v ≤ 1048576) (sym (c.as_slice.ensures.value ∙ c.in_ok-bytes.ensures)) (made_is_short c.args.seed c.args.size c.requires.size.1)

pub returns : goal.returns
returns g c =
    if_ok_map c.bytes_due.result _ _
    (λ d b files left faults faults'. whole_source files (from_made c.args.seed c.args.size) c.args.task.now c.args.trace.now left faults faults' c.as_slice.result.now d.status d.text.items d.report
    (c.as_slice.ensures.value ∙ c.in_ok-bytes.ensures) c.requires.few
    (subst (λ v. length v ≤ 1048576) (sym (c.as_slice.ensures.value ∙ c.in_ok-bytes.ensures)) (made_is_short c.args.seed c.args.size c.requires.size.1)) (λ file e. cc (e)) b)
    c.bytes_due.ensures
