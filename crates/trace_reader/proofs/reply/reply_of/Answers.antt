use Rattle.std.proofs.Common.{ap, sym, ◌∙◌, subst}
use Rattle.std.proofs.lemmas.Result.{IfOk-weaker}
use Rattle.caf_events.specs.declared.reply.Reply.TheVariants as replies
use Rattle.trace_text.specs.TraceText.{reply_text}
use Rattle.trace_forms.specs.Ranges.{ReplyHasText}
use Rattle.trace_fields.proofs.Parts.{passed_half}
use Rattle.trace_reader.specs.Kinds.{IsOfKind}
use Rattle.trace_reader.proofs.Replies.{of_old, of_number, of_count, of_none}
use Rattle.trace_reader.proofs.reply.reply_of.Goals as goal

pub returns-in-Values : goal.returns-in-Values
returns-in-Values c = IfOk-weaker c.values_reply.result _ _ (λ r h reply has kind is. h reply has
    (subst (λ k. IsOfKind k reply) c.in-Values.is kind) is) c.values_reply.ensures

pub returns-in-Indices : goal.returns-in-Indices
returns-in-Indices c = IfOk-weaker c.indices_reply.result _ _ (λ r h reply has kind is. h reply has
    (subst (λ k. IsOfKind k reply) c.in-Indices.is kind) is) c.indices_reply.ensures

pub returns-in-Taken : goal.returns-in-Taken
returns-in-Taken c = IfOk-weaker c.taken_reply.result _ _ (λ r h reply has kind is. h reply has
    (subst (λ k. IsOfKind k reply) c.in-Taken.is kind) is) c.taken_reply.ensures

pub returns-in-Left : goal.returns-in-Left
returns-in-Left c = IfOk-weaker c.left_reply.result _ _ (λ r h reply has kind is. h reply has
    (subst (λ k. IsOfKind k reply) c.in-Left.is kind) is) c.left_reply.ensures

pub returns-in-Round : goal.returns-in-Round
returns-in-Round c reply has kind is = c.round_reply.ensures reply has
    (subst (λ k. IsOfKind k reply) c.in-Round.is kind) is

pub returns-in-Old : goal.returns-in-Old
returns-in-Old c reply has kind is =
    let v = of_old reply (subst (λ k. IsOfKind k reply) c.in-Old.is kind) in
    ap replies.Old (c.value_of.ensures v.0 (subst ReplyHasText v.1 has) (is ∙ ap reply_text v.1)) ∙ sym v.1

pub returns-in-Number : goal.returns-in-Number
returns-in-Number c reply has kind is =
    let v = of_number reply (subst (λ k. IsOfKind k reply) c.in-Number.is kind) in
    let h = subst ReplyHasText v.1 has in
    ap replies.Number (passed_half v.0 _ h (c.signed_half_of.ensures v.0 h (is ∙ ap reply_text v.1))) ∙ sym v.1

pub returns-in-Count : goal.returns-in-Count
returns-in-Count c reply has kind is =
    let v = of_count reply (subst (λ k. IsOfKind k reply) c.in-Count.is kind) in
    ap replies.Count (c.long_of.ensures v.0 (subst ReplyHasText v.1 has) (is ∙ ap reply_text v.1)) ∙ sym v.1

pub returns-in-Word : goal.returns-in-Word
returns-in-Word c reply has kind is = absurd (of_none reply (subst (λ k. IsOfKind k reply) c.in-Word.is kind))
