use Rattle.std.proofs.Common.{◌++◌, ap}
use Rattle.trace_fields.proofs.Printing.{all_printed, next_printed}
use Rattle.trace_fields.proofs.escapes.printed_of.Goals as goal

pub loop-byte-init : goal.loop-byte-init
loop-byte-init c bytes e = record { left = bytes; sum = ap (λ z. z ++ bytes) c.new-bytes.ensures.items; is = e }

pub loop-byte-preserved : goal.loop-byte-preserved
loop-byte-preserved c bytes e =
    next_printed _ _ bytes (c.loop-byte.invariant bytes e) _ _ c.in-Some.ensures.shorter c.in-Some.ensures.byte _
    c.in_ok-push.ensures.items

pub returns : goal.returns
returns c bytes e = all_printed _ _ bytes c.in_default.ensures.none (c.loop-byte.invariant bytes e)
