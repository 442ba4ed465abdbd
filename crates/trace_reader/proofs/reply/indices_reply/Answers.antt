use Rattle.std.proofs.Common.{ap, sym, ◌∙◌, subst}
use Rattle.caf_events.specs.declared.reply.Reply.TheVariants as replies
use Rattle.trace_text.specs.TraceText.{reply_text}
use Rattle.trace_forms.specs.Ranges.{ReplyHasText}
use Rattle.trace_reader.proofs.Replies.{of_indices}
use Rattle.trace_reader.proofs.reply.indices_reply.Goals as goal

pub returns : goal.returns
returns c reply has kind is =
    let v = of_indices reply kind in
    ap replies.Indices (c.in_ok-indices.ensures v.0 (subst ReplyHasText v.1 has) (is ∙ ap reply_text v.1)) ∙ sym v.1
