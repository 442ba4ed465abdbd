use Rattle.std.proofs.Common.{◌∷◌, ◌++◌, drop, ap, sym, ◌∙◌, subst}
use Rattle.std.proofs.lemmas.Result.{IfOk-weaker}
use Rattle.caf_events.specs.declared.ask.Ask.TheVariants as asks
use Rattle.trace_text.specs.TraceText.{operands_text}
use Rattle.trace_forms.specs.Ranges.{AskHasText}
use Rattle.trace_forms.specs.Replies.{HasForm}
use Rattle.trace_fields.specs.declared.words.OwnWord.TheVariants as own
use Rattle.trace_fields.proofs.Parts.{passed}
use Rattle.trace_reader.specs.Reading.{reply_part}
use Rattle.trace_reader.proofs.Boards.{on_own, print_done, limit_text, limit_long}
use Rattle.trace_reader.proofs.ask.own_ask.Goals as goal

pub returns-in-Print : goal.returns-in-Print
returns-in-Print c = IfOk-weaker c.print_ask.result _ _ (λ r is of_team names ask reply place has form at e.
    let m = on_own own.Print _ _ ask c.own_word.ensures c.in-Print.is at place in
    let done = print_done m.0 reply (subst (λ a. HasForm a reply) m.1 form) in
    let t = is m.0 (ap (drop 1) (e ∙ (λ i. operands_text of_team names (m.1 i) ++ (32 ∷ reply_part (done i))))) in
    (t.0 ∙ sym m.1, t.1 ∙ sym (ap reply_part done))) c.print_ask.ensures

pub returns-in-Memory : goal.returns-in-Memory
returns-in-Memory c of_team names ask reply place has form at e =
    let m = on_own own.Memory _ _ ask c.own_word.ensures c.in-Memory.is at place in
    (sym m, ap (drop 1) (e ∙ ap (λ a. operands_text of_team names a ++ (32 ∷ reply_part reply)) m))

pub returns-in-Fail : goal.returns-in-Fail
returns-in-Fail c of_team names ask reply place has form at e =
    let m = on_own own.Fail _ _ ask c.own_word.ensures c.in-Fail.is at place in
    (sym m, ap (drop 1) (e ∙ ap (λ a. operands_text of_team names a ++ (32 ∷ reply_part reply)) m))

pub returns-in-ErrorStop : goal.returns-in-ErrorStop
returns-in-ErrorStop c of_team names ask reply place has form at e =
    let m = on_own own.ErrorStop _ _ ask c.own_word.ensures c.in-ErrorStop.is at place in
    let h = subst (AskHasText names) m.1 has in
    let t = c.next_signed.ensures m.0 (reply_part reply) h (ap (drop 1) (e ∙ ap (λ a. operands_text of_team names a
    ++ (32 ∷ reply_part reply)) m.1)) in
    (ap asks.ErrorStop (passed m.0 _ h t.0) ∙ sym m.1, t.1)

pub returns-in-Fault : goal.returns-in-Fault
returns-in-Fault c of_team names ask reply place has form at e =
    let m = on_own own.Fault _ _ ask c.own_word.ensures c.in-Fault.is at place in
    let t = c.next_fault.ensures m.0 (reply_part reply) (ap (drop 1) (e ∙ ap (λ a. operands_text of_team names a
    ++ (32 ∷ reply_part reply)) m.1)) in
    (t.0 ∙ sym m.1, t.1)

pub returns-in-Limit : goal.returns-in-Limit
returns-in-Limit c of_team names ask reply place has form at e =
    let m = on_own own.Limit _ _ ask c.own_word.ensures c.in-Limit.is at place in
    let long = limit_long names m.0 m.1 (subst (AskHasText names) m.2 has) in
    let t = c.next_limit.ensures m.0 m.1 (reply_part reply) long (ap (drop 1) (e
    ∙ ap (λ a. operands_text of_team names a
    ++ (32 ∷ reply_part reply)) m.2 ∙ limit_text of_team names m.0 m.1 (reply_part reply))) in
    (t.0 ∙ sym m.2, t.1)
