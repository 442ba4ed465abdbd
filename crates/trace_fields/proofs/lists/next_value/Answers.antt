use Rattle.trace_text.specs.TraceText.{value_text}
use Rattle.trace_forms.proofs.Fields.{value_field}
use Rattle.trace_fields.proofs.Cut.{found}
use Rattle.trace_fields.proofs.Parts.{no_blank}
use Rattle.trace_fields.proofs.lists.next_value.Goals as goal

pub returns : goal.returns
returns c value behind h e =
    let at = found 32 _ _ _ (value_text value) behind c.next_field.ensures (no_blank (value_text value)
    (value_field.inside value h)) e in
    (c.value_of.ensures value h at.0, at.1)
