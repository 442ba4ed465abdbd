use Rattle.std.proofs.Common.{refl}
use Rattle.trace_fields.proofs.Parts.{empty_is, some_is, passed}
use Rattle.trace_fields.proofs.Shapes.{next_cobound, last_cobound}
use Rattle.trace_fields.proofs.lists.cobounds_in.Goals as goal

pub loop-behind-init : goal.loop-behind-init
loop-behind-init c cobounds last each signed e =
    record { left = cobounds; sum = refl; each = each; rest = c.args.field.now; cut = c.cut_at.ensures; is = e }

pub loop-behind-preserved : goal.loop-behind-preserved
loop-behind-preserved c cobounds last each signed e =
    next_cobound _ _ _ _ last signed (some_is _ c.loop-behind-test.ensures)
    (c.loop-behind.invariant cobounds last each signed e)
    _ _ c.cut_at-in-loop-behind.ensures _ c.bounds_of.ensures _ c.in_ok-push.ensures.items

pub returns : goal.returns
returns c cobounds last each signed e =
    let at = last_cobound _ _ _ _ last signed (empty_is _ c.loop-behind-test.ensures)
    (c.loop-behind.invariant cobounds last each signed e)
    _ _ c.cut_at-2.ensures in
    (at.0, passed last _ signed (c.signed_of.ensures last signed at.1))
