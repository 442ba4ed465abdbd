use Rattle.std.proofs.Common.{◌∙◌}
use Rattle.checked_tree.specs.StatementViews.{program}
use Rattle.image_core.proofs.Readiness.{if_ok_map}
use Rattle.checked_run.proofs.Programs.{cause_too}
use Rattle.checked_traces.proofs.Told.{if_err_map}
use Rattle.checked_traces.proofs.replay.replay_trace.Goals as goal

pub replay_begun-requires-clause-begins : goal.replay_begun-requires-clause-begins
replay_begun-requires-clause-begins c = (program c.args.checked.now, c.in-Ok.ensures.begins)

pub returns-in-Ok-clause-run : goal.returns-in-Ok-clause-run
returns-in-Ok-clause-run c = if_ok_map c.replay_begun.result _ _ (λ report run. run (program c.args.checked.now) c.in-Ok.ensures.begins) c.replay_begun.ensures.run

pub returns-in-Ok-clause-report : goal.returns-in-Ok-clause-report
returns-in-Ok-clause-report c =
    if_ok_map c.replay_begun.result _ _ (λ report is. is (program c.args.checked.now) c.in-Ok.ensures.begins c.requires.names (c.as_slice.ensures.value ∙ c.in_ok-listed.ensures)) c.replay_begun.ensures.report

pub returns-in-Ok-clause-refused : goal.returns-in-Ok-clause-refused
returns-in-Ok-clause-refused c =
    if_err_map c.replay_begun.result _ _ (λ refusal is. cause_too refusal _ _ (λ cause told. told (program c.args.checked.now) c.in-Ok.ensures.begins) is) c.replay_begun.ensures.refused
