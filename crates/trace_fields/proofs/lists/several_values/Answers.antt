use Rattle.trace_text.specs.TraceText.{value_text}
use Rattle.trace_forms.specs.Ranges.{IsValueInRange}
use Rattle.trace_fields.proofs.Items.{step, done}
use Rattle.trace_fields.proofs.Parts.{value_items, empty_is, some_is}
use Rattle.trace_fields.proofs.lists.several_values.Goals as goal

pub loop-rest-preserved : goal.loop-rest-preserved
loop-rest-preserved c all each e =
    step IsValueInRange 44 value_text value_items _ _ all (some_is _ c.loop-rest-test.ensures)
    (c.loop-rest.invariant all each e) _ _ c.cut_at.ensures _ c.value_of.ensures _ c.in_ok-push.ensures.items

pub returns : goal.returns
returns c all each e = done IsValueInRange 44 value_text value_items _ _ all (empty_is _ c.loop-rest-test.ensures)
    (c.loop-rest.invariant all each e)
