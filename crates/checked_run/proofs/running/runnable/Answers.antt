use Rattle.checked_tree.specs.StatementViews.{program}
use Rattle.checked_run.proofs.Programs.{cause_too, does_too, cannot_too}
use Rattle.checked_run.proofs.running.runnable.Goals as goal

pub returns-in-Ok-clause-does : goal.returns-in-Ok-clause-does
returns-in-Ok-clause-does c = does_too (program c.args.checked.now) c.in_ok-code.code c.in_ok-code.ensures c.in-Ok.ensures.does

pub returns-in-Err-clause-refused : goal.returns-in-Err-clause-refused
returns-in-Err-clause-refused c = cause_too c.in-Err.refusal _ _ (λ u x. cannot_too (program c.args.checked.now) c.in_ok-code.code c.in_ok-code.ensures u.line x) c.in-Err.ensures.refused
