use Rattle.std.proofs.Common.{ap, ◌∙◌, ◌++◌}
use Rattle.trace_fields.proofs.Parts.{passed}
use Rattle.trace_fields.proofs.Shapes.{allotted_parts}
use Rattle.trace_fields.proofs.rounds.allotted_of.Goals as goal

pub returns : goal.returns
returns c a h e =
    let p = allotted_parts c.args.names.now c.requires a h _ _ _ _ _ c.cut_at.ensures c.cut_at-2.ensures e in
    let coarray = c.coarray_of.ensures a.coarray h.named p.0 in
    let co = c.in_ok-last.ensures a.codims a.last h.codims h.last p.2 in
    let last = passed a.last _ h.last co.1 in
    let dims = c.in_ok-from_slice.ensures ∙ c.as_slice.ensures.value ∙ c.in_ok-dims.ensures a.dims h.dims p.1 in
    let codims = c.in_ok-from_slice-2.ensures ∙ c.as_slice-2.ensures.value ∙ co.0
    ∙ ap (λ z. z ++ a.codims) c.new-codims.ensures.items in
    (λ i. record { coarray = coarray i; dims = dims i; codims = codims i; last = last i })
