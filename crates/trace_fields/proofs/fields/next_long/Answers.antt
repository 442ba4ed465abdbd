use Rattle.std.proofs.Common.{refl, decimal}
use Rattle.trace_fields.proofs.Cut.{found}
use Rattle.trace_fields.proofs.Parts.{digits_clean}
use Rattle.trace_fields.proofs.fields.next_long.Goals as goal

pub returns : goal.returns
returns c n behind h e =
    let at = found 32 _ _ _ (decimal n) behind c.next_field.ensures (digits_clean 32 n refl h) e in
    (c.long_of.ensures n h at.0, at.1)
