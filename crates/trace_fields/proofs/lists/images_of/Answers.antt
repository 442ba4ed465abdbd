use Rattle.std.proofs.Common.{◌∙◌}
use Rattle.trace_text.specs.TraceText.{image_text}
use Rattle.trace_forms.specs.Ranges.{IsImageNumber}
use Rattle.trace_fields.proofs.Items.{step, done}
use Rattle.trace_fields.proofs.Parts.{image_items, empty_is, some_is}
use Rattle.trace_fields.proofs.lists.images_of.Goals as goal

pub loop-rest-preserved : goal.loop-rest-preserved
loop-rest-preserved c all each e =
    step IsImageNumber c.args.between image_text (image_items c.args.between c.requires) _ _ all
    (some_is _ c.loop-rest-test.ensures) (c.loop-rest.invariant all each e) _ _ c.cut_at.ensures _
    (λ x p is. let k = c.half_of.ensures x.0 p is in (λ i. record { 0 = k i })) _ c.in_ok-push.ensures.items

pub returns : goal.returns
returns c all each e =
    c.from_vec.ensures ∙ done IsImageNumber c.args.between image_text
    (image_items c.args.between c.requires) _ _ all (empty_is _ c.loop-rest-test.ensures)
    (c.loop-rest.invariant all each e)
