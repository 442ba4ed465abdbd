use Rattle.std.proofs.Common.{ap, sym, ◌∙◌, subst}
use Rattle.caf_events.specs.declared.reply.Reply.TheVariants as replies
use Rattle.trace_text.specs.TraceText.{reply_text}
use Rattle.trace_forms.specs.Ranges.{ReplyHasText}
use Rattle.trace_fields.proofs.Parts.{passed_half}
use Rattle.trace_reader.proofs.Replies.{of_left, left_cut}
use Rattle.trace_reader.proofs.reply.left_reply.Goals as goal

pub returns : goal.returns
returns c reply has kind is =
    let l = of_left reply kind in
    let h = subst ReplyHasText l.2 has in
    let cut = left_cut l.0 l.1 h.0 _ _ _ _ _ c.cut_at.ensures c.cut_at-2.ensures (is ∙ ap reply_text l.2) in
    let z = passed_half l.0 _ h.0 (c.signed_half_of.ensures l.0 h.0 cut.0) in
    let ts = c.from_vec.ensures ∙ c.in_ok-teams.ensures l.1 h.1 cut.1 in
    (λ i. replies.Left (z i) (ts i)) ∙ sym l.2
