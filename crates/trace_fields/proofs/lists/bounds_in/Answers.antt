use Rattle.trace_text.specs.TraceText.{bounds_text}
use Rattle.trace_forms.specs.Ranges.{AreBounds}
use Rattle.trace_fields.proofs.Items.{step, done}
use Rattle.trace_fields.proofs.Parts.{bounds_items, empty_is, some_is}
use Rattle.trace_fields.proofs.lists.bounds_in.Goals as goal

pub loop-rest-preserved : goal.loop-rest-preserved
loop-rest-preserved c all each e =
    step AreBounds 44 bounds_text bounds_items _ _ all (some_is _ c.loop-rest-test.ensures)
    (c.loop-rest.invariant all each e) _ _ c.cut_at.ensures _ c.bounds_of.ensures _ c.in_ok-push.ensures.items

pub returns : goal.returns
returns c all each e = done AreBounds 44 bounds_text bounds_items _ _ all (empty_is _ c.loop-rest-test.ensures)
    (c.loop-rest.invariant all each e)
