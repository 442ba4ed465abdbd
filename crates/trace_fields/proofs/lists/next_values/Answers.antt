use Rattle.std.proofs.lemmas.Result.{IfOk-weaker}
use Rattle.trace_text.specs.TraceText.{values_text}
use Rattle.trace_forms.proofs.Fields.{values_field}
use Rattle.trace_fields.proofs.Cut.{found}
use Rattle.trace_fields.proofs.Parts.{no_blank}
use Rattle.trace_fields.proofs.lists.next_values.Goals as goal

pub returns : goal.returns
returns c = IfOk-weaker c.values_of.result _ _ (λ r is values behind h e.
    let at = found 32 _ _ _ (values_text values) behind c.next_field.ensures (no_blank (values_text values)
    (values_field.inside values h)) e in
    (is values h at.0, at.1)) c.values_of.ensures
