use Rattle.std.proofs.Common.{ap, sym, ◌∙◌, subst}
use Rattle.std.proofs.lemmas.Result.{IfOk-weaker}
use Rattle.trace_reader.specs.Kinds.{IsOfKind, word_by}
use Rattle.trace_reader.proofs.Replies.{by_word, by_kind}
use Rattle.trace_reader.proofs.reply.read_reply.Goals as goal

pub returns-in-Some : goal.returns-in-Some
returns-in-Some c reply has form is = by_word c.args.ask.now reply c.in-Some.reply form has
    (ap word_by (sym is) ∙ sym c.reply_word.ensures ∙ c.in-Some.is)

pub returns-in-None : goal.returns-in-None
returns-in-None c = IfOk-weaker c.reply_of.result _ _ (λ r h reply has form is. h reply has
    (subst (λ k. IsOfKind k reply) (sym c.reply_kind.ensures) (by_kind c.args.ask.now reply form
    (ap word_by (sym is) ∙ sym c.reply_word.ensures ∙ c.in-None.is))) is) c.reply_of.ensures
