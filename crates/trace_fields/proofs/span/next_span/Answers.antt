use Rattle.std.proofs.lemmas.Result.{IfOk-weaker}
use Rattle.trace_text.specs.TraceText.{span_text}
use Rattle.trace_forms.proofs.Fields.{span_field}
use Rattle.trace_fields.proofs.Cut.{found}
use Rattle.trace_fields.proofs.Parts.{no_blank}
use Rattle.trace_fields.proofs.span.next_span.Goals as goal

pub returns : goal.returns
returns c = IfOk-weaker c.span_of.result _ _ (λ r is span behind h e.
    let names = c.args.names.now in
    let at = found 32 _ _ _ (span_text names span) behind c.next_field.ensures (no_blank (span_text names span)
    ((span_field names c.requires).inside span h)) e in
    (is span h at.0, at.1)) c.span_of.ensures
