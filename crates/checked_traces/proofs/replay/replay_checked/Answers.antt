use Rattle.std.proofs.Common.{◌∙◌, subst}
use Rattle.trace_forms.specs.Files.{lines_of, Written, IsBadLine}
use Rattle.checked_traces.proofs.replay.replay_checked.Goals as goal

pub returns-in-Ok-clause-report : goal.returns-in-Ok-clause-report
returns-in-Ok-clause-report c =
    let named = c.as_slice.ensures ∙ c.in_ok-names.ensures in
    (c.in-Ok.trace, (subst (λ names. Written c.args.bytes.now names c.in-Ok.trace.entries) named c.in-Ok.ensures.written, c.in_ok-report-in-Ok.ensures.run), c.in_ok-report-in-Ok.ensures.report)

pub returns-in-Err-Cause-clause-refused : goal.returns-in-Err-Cause-clause-refused
returns-in-Err-Cause-clause-refused c =
    let bad = c.in-Err-Cause.ensures.bad in
    rw c.in-Err-Cause.field-0-is
    (subst (λ names. IsBadLine (lines_of c.args.bytes.now) names c.in-Err-Cause.bad.line) (c.as_slice.ensures ∙ c.in_ok-names.ensures) (rw c.in-Err-Cause.field-0-is at bad))
