use Rattle.std.proofs.Common.{sym, ◌∙◌, subst}
use Rattle.std.proofs.lemmas.Result.{IfOk-weaker}
use Rattle.trace_forms.specs.Replies.{HasForm}
use Rattle.trace_reader.proofs.entry.read_exchange.Goals as goal

pub returns : goal.returns
returns c = IfOk-weaker c.told_with-told.result _ _ (λ r e of_team ask reply shows has_ask has_reply form is.
    let a = c.in_ok-ask.ensures of_team ask reply shows has_ask form is in
    let text = c.reply_in.ensures reply a.1 in
    e reply has_reply (subst (λ z. HasForm z reply) (sym a.0) form) text
    ∙ (λ i. record { ask = a.0 i; reply = reply })) c.told_with-told.ensures
