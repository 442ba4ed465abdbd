use Rattle.trace_forms.specs.Ranges.{IsDimension}
use Rattle.trace_fields.specs.Cutting.{size_text}
use Rattle.trace_fields.proofs.Items.{step, done}
use Rattle.trace_fields.proofs.Parts.{size_items, empty_is, some_is}
use Rattle.trace_fields.proofs.span.dimensions_of.Goals as goal

pub loop-rest-preserved : goal.loop-rest-preserved
loop-rest-preserved c all each e =
    step IsDimension 58 size_text size_items _ _ all (some_is _ c.loop-rest-test.ensures)
    (c.loop-rest.invariant all each e) _ _ c.cut_at.ensures _ c.dimension_of.ensures _ c.in_ok-push.ensures.items

pub returns : goal.returns
returns c all each e = done IsDimension 58 size_text size_items _ _ all (empty_is _ c.loop-rest-test.ensures)
    (c.loop-rest.invariant all each e)
