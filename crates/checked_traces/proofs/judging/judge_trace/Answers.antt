use Rattle.checked_tree.specs.StatementViews.{program}
use Rattle.image_core.proofs.Readiness.{if_ok_map}
use Rattle.checked_run.proofs.Programs.{cause_too}
use Rattle.checked_traces.proofs.Told.{if_err_map}
use Rattle.checked_traces.proofs.judging.judge_trace.Goals as goal

pub judge_begun-requires-clause-begins : goal.judge_begun-requires-clause-begins
judge_begun-requires-clause-begins c = (program c.args.checked.now, c.in-Ok.ensures.begins)

pub returns-in-Ok-clause-run : goal.returns-in-Ok-clause-run
returns-in-Ok-clause-run c = if_ok_map c.judge_begun.result _ _ (λ race run. run (program c.args.checked.now) c.in-Ok.ensures.begins) c.judge_begun.ensures.run

pub returns-in-Ok-clause-refused : goal.returns-in-Ok-clause-refused
returns-in-Ok-clause-refused c =
    if_err_map c.judge_begun.result _ _ (λ refusal is. cause_too refusal _ _ (λ cause told. told (program c.args.checked.now) c.in-Ok.ensures.begins) is) c.judge_begun.ensures.refused
