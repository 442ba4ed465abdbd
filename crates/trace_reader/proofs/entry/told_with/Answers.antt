use Rattle.std.proofs.Common.{◌∙◌}
use Rattle.std.proofs.lemmas.Result.{IfOk-weaker}
use Rattle.trace_reader.proofs.entry.told_with.Goals as goal

pub returns : goal.returns
returns c = IfOk-weaker c.with_reply.result _ _ (λ r e reply has form is.
    let same = c.in_ok-reply.ensures reply has form is in
    e ∙ (λ i. record { ask = c.args.ask.now; reply = same i })) c.with_reply.ensures
