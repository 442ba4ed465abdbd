use Rattle.std.proofs.Common.{◌∷◌, ◌++◌, ap, ◌∙◌}
use Rattle.caf_events.specs.declared.ask.Ask.TheVariants as asks
use Rattle.trace_text.specs.TraceText.{atomic_word, span_text, value_text}
use Rattle.trace_fields.specs.Words.{operator_by}
use Rattle.trace_fields.proofs.Cut.{found}
use Rattle.trace_fields.proofs.Operators.{operator_back, operator_clean}
use Rattle.trace_reader.proofs.memory.atomic_ask.Goals as goal

pub returns : goal.returns
returns c op span x y behind has at_x at_y e =
    let y_text = value_text y ++ (32 ∷ behind) in
    let x_text = value_text x ++ (32 ∷ y_text) in
    let word = found 32 _ _ _ (atomic_word op) (span_text c.args.names.now span ++
    (32 ∷ x_text)) c.next_field.ensures (operator_clean op) e in
    let is = c.operator_named-op.ensures ∙ ap operator_by word.0 ∙ operator_back op in
    let s = c.in_ok-span.ensures span x_text has word.1 in
    let first = c.next_value-x.ensures x y_text at_x s.1 in
    let second = c.next_value-y.ensures y behind at_y first.1 in
    (λ i. asks.Atomic c.args.owner (is i) (s.0 i) (first.0 i) (second.0 i), second.1)
