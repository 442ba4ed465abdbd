use Rattle.std.proofs.Common.{◌∙◌}
use Rattle.trace_fields.proofs.Spans.{span_parts}
use Rattle.trace_fields.proofs.span.span_of.Goals as goal

pub returns : goal.returns
returns c span h e =
    let p = span_parts c.args.names.now c.requires span h _ _ _ _ _ c.cut_at.ensures c.cut_at-2.ensures e in
    let coarray = c.coarray_of.ensures span.coarray h.named p.0 in
    let start = c.half_of.ensures span.start h.start p.1 in
    let dims = c.in_ok-from_slice.ensures ∙ c.as_slice.ensures.value ∙ c.in_ok-dims.ensures span.dims h.dims p.2 in
    (λ i. record { coarray = coarray i; start = start i; dims = dims i })
