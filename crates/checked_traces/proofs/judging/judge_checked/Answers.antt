use Rattle.std.proofs.Common.{◌∙◌, subst}
use Rattle.checked_tree.specs.StatementViews.{program}
use Rattle.lane_parts.specs.FirstLanes.{fails_at}
use Rattle.trace_forms.specs.Files.{lines_of, Written, IsBadLine}
use Rattle.checked_run.proofs.Programs.{cause_too}
use Rattle.checked_traces.proofs.Told.{told_as}
use Rattle.checked_traces.proofs.judging.judge_checked.Goals as goal

pub returns-in-Ok-clause-run : goal.returns-in-Ok-clause-run
returns-in-Ok-clause-run c =
    let named = c.as_slice.ensures ∙ c.in_ok-names.ensures in
    (subst (λ names. Written c.args.bytes.now names c.in-Ok.trace.entries) named c.in-Ok.ensures.written, c.in_ok-race-in-Ok.ensures.run)

pub returns-in-Err-Cause-clause-refused : goal.returns-in-Err-Cause-clause-refused
returns-in-Err-Cause-clause-refused c =
    let bad = c.in-Err-Cause.ensures.bad in
    rw c.in-Err-Cause.field-0-is
    (subst (λ names. IsBadLine (lines_of c.args.bytes.now) names c.in-Err-Cause.bad.line) (c.as_slice.ensures ∙ c.in_ok-names.ensures) (rw c.in-Err-Cause.field-0-is at bad))
