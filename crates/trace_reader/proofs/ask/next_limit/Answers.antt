use Rattle.std.proofs.Common.{◌∷◌, ◌++◌, ap, ◌∙◌}
use Rattle.trace_text.specs.TraceText.{number_text}
use Rattle.trace_fields.specs.Words.{limit_by}
use Rattle.trace_fields.proofs.Cut.{found}
use Rattle.trace_reader.specs.Reading.{limit_ask, limit_name}
use Rattle.trace_reader.proofs.Boards.{limit_back, limit_clean}
use Rattle.trace_reader.proofs.ask.next_limit.Goals as goal

pub returns : goal.returns
returns c limit number behind long e =
    let at = found 32 _ _ _ (limit_name limit) (number_text number ++ (32 ∷ behind)) c.next_field.ensures
    (limit_clean limit) e in
    let is = c.limit_word-limit.ensures ∙ ap limit_by at.0 ∙ limit_back limit in
    let k = c.next_long-number.ensures number behind long at.1 in
    (c.limit_of.ensures ∙ (λ i. limit_ask (is i) (k.0 i)), k.1)
