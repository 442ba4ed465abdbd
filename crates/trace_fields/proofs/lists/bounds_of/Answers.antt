use Rattle.std.proofs.Common.{refl, ◌∙◌}
use Rattle.caf_text.specs.Numbers.{decimal_text}
use Rattle.trace_fields.proofs.Cut.{found}
use Rattle.trace_fields.proofs.Parts.{signed_clean, bounds_is, passed}
use Rattle.trace_fields.proofs.lists.bounds_of.Goals as goal

pub returns : goal.returns
returns c bounds h e =
    let at = found 58 _ _ _ (decimal_text bounds.0) (decimal_text bounds.1) c.cut_at.ensures
    (signed_clean 58 bounds.0 refl h.0) (e ∙ bounds_is bounds) in
    let lower = passed bounds.0 _ h.0 (c.signed_of.ensures bounds.0 h.0 at.0) in
    let upper = passed bounds.1 _ h.1 (c.signed_of-2.ensures bounds.1 h.1 at.1) in
    (λ i. (lower i, upper i))
