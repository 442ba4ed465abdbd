use Rattle.trace_text.specs.TraceText.{number_text}
use Rattle.trace_forms.specs.Ranges.{IsHalf}
use Rattle.trace_fields.proofs.Items.{step, done}
use Rattle.trace_fields.proofs.Parts.{number_items, empty_is, some_is}
use Rattle.trace_fields.proofs.lists.numbers_of.Goals as goal

pub loop-rest-preserved : goal.loop-rest-preserved
loop-rest-preserved c all each e =
    step IsHalf 44 number_text number_items _ _ all (some_is _ c.loop-rest-test.ensures)
    (c.loop-rest.invariant all each e) _ _ c.cut_at.ensures _ c.half_of.ensures _ c.in_ok-push.ensures.items

pub returns : goal.returns
returns c all each e = done IsHalf 44 number_text number_items _ _ all (empty_is _ c.loop-rest-test.ensures)
    (c.loop-rest.invariant all each e)
