use Rattle.std.proofs.lemmas.Result.{on_ok_weaker}
use Rattle.work_maker.proofs.Joining.{next_line, last_line}
use Rattle.work_maker.proofs.source.push_closing.Goals as goal

pub returns : goal.returns
returns c = on_ok_weaker c.push_line-6.result (λ h. next_line _ _ _ c.in_ok-push_line.ensures (next_line _ _ _ c.in_ok-push_ended.ensures (next_line _ _ _ c.in_ok-push_line-2.ensures (next_line _ _ _ c.in_ok-push_line-3.ensures (next_line _ _ _ c.in_ok-push_line-4.ensures (next_line _ _ _ c.in_ok-push_line-5.ensures (last_line _ _ h))))))) c.push_line-6.ensures
