use Rattle.std.proofs.Common.{◌∷◌, ◌++◌, ap, ◌∙◌}
use Rattle.caf_events.specs.declared.ask.Ask.TheVariants as asks
use Rattle.trace_text.specs.TraceText.{number_text, values_text, gather_word, kind_word}
use Rattle.trace_fields.specs.Words.{gather_by, kind_by}
use Rattle.trace_fields.proofs.Cut.{found}
use Rattle.trace_fields.proofs.Operators.{gather_back, gather_clean, kind_back, kind_clean}
use Rattle.trace_reader.proofs.board.gather_ask.Goals as goal

pub returns : goal.returns
returns c of_team team op root kind values behind shows half at_root each e =
    let last = values_text values ++ (32 ∷ behind) in
    let third = kind_word kind ++ (32 ∷ last) in
    let second = number_text root ++ (32 ∷ third) in
    let a = c.next_team-team.ensures of_team team (gather_word op ++ (32 ∷ second)) shows half e in
    let word = found 32 _ _ _ (gather_word op) second c.next_field.ensures (gather_clean op) a.1 in
    let is = c.gather_named-op.ensures ∙ ap gather_by word.0 ∙ gather_back op in
    let r = c.next_half-root.ensures root third at_root word.1 in
    let name = found 32 _ _ _ (kind_word kind) last c.next_field-2.ensures (kind_clean kind) r.1 in
    let named = c.kind_named-kind.ensures ∙ ap kind_by name.0 ∙ kind_back kind in
    let v = c.in_ok-values.ensures values behind each name.1 in
    (λ i. asks.Gather (a.0 i) (is i) (r.0 i) (named i) (v.0 i), v.1)
