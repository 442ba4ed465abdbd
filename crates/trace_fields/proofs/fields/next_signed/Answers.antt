use Rattle.std.proofs.Common.{refl}
use Rattle.caf_text.specs.Numbers.{decimal_text}
use Rattle.trace_fields.proofs.Cut.{found}
use Rattle.trace_fields.proofs.Parts.{signed_clean, passed}
use Rattle.trace_fields.proofs.fields.next_signed.Goals as goal

pub returns : goal.returns
returns c z behind h e =
    let at = found 32 _ _ _ (decimal_text z) behind c.next_field.ensures (signed_clean 32 z refl h) e in
    (passed z _ h (c.signed_of.ensures z h at.0), at.1)
