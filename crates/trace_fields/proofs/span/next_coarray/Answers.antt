use Rattle.trace_text.specs.TraceText.{name_text}
use Rattle.trace_forms.proofs.Fields.{name_field}
use Rattle.trace_fields.proofs.Cut.{found}
use Rattle.trace_fields.proofs.Parts.{no_blank}
use Rattle.trace_fields.proofs.span.next_coarray.Goals as goal

pub returns : goal.returns
returns c coarray behind h e =
    let names = c.args.names.now in
    let at = found 32 _ _ _ (name_text names coarray) behind c.next_field.ensures (no_blank
    (name_text names coarray) ((name_field names c.requires).inside coarray h)) e in
    (c.coarray_of.ensures coarray h at.0, at.1)
