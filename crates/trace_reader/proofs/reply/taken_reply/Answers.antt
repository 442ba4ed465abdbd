use Rattle.std.proofs.Common.{ap, sym, ◌∙◌, subst}
use Rattle.caf_events.specs.declared.reply.Reply.TheVariants as replies
use Rattle.trace_text.specs.TraceText.{reply_text}
use Rattle.trace_forms.specs.Ranges.{ReplyHasText}
use Rattle.trace_fields.proofs.Parts.{passed_half}
use Rattle.trace_reader.proofs.Replies.{of_taken, taken_cut}
use Rattle.trace_reader.proofs.reply.taken_reply.Goals as goal

pub returns : goal.returns
returns c reply has kind is =
    let t = of_taken reply kind in
    let h = subst ReplyHasText t.3 has in
    let cut = taken_cut t.0 t.1 h.0 t.2 _ _ _ c.cut_at.ensures (is ∙ ap reply_text t.3) in
    let z = passed_half t.0 _ h.0 (c.signed_half_of.ensures t.0 h.0 cut.0) in
    let vs = c.in_ok-values.ensures t.1 h.1 cut.1 in
    (λ i. replies.Taken (z i) (vs i)) ∙ sym t.3
