use Rattle.std.proofs.Common.{refl, ◌∙◌, arith}
use Rattle.caf_text.specs.Numbers.{decimal_text}
use Rattle.trace_text.specs.TraceText.{number_text}
use Rattle.trace_fields.proofs.Cut.{found}
use Rattle.trace_fields.proofs.Parts.{digits_clean, size_is, passed_half}
use Rattle.trace_fields.proofs.span.dimension_of.Goals as goal

pub returns : goal.returns
returns c dim h e =
    let at = found 42 _ _ _ (number_text dim.0) (decimal_text dim.1) c.cut_at.ensures (digits_clean 42 dim.0 refl
    (omega arith)) (e ∙ size_is dim) in
    let count = c.half_of.ensures dim.0 h.0 at.0 in
    let step = passed_half dim.1 _ h.1 (c.signed_half_of.ensures dim.1 h.1 at.1) in
    (λ i. (count i, step i))
