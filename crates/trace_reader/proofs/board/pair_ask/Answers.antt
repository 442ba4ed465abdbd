use Rattle.std.proofs.Common.{codes, ap}
use Rattle.caf_events.specs.declared.ask.Ask.TheVariants as asks
use Rattle.trace_text.specs.TraceText.{joined, image_text}
use Rattle.trace_forms.proofs.Fields.{images_field}
use Rattle.trace_fields.proofs.Cut.{found}
use Rattle.trace_fields.proofs.Parts.{no_blank}
use Rattle.trace_reader.proofs.board.pair_ask.Goals as goal

pub returns : goal.returns
returns c images behind each e =
    let at = found 32 _ _ _ (joined (codes ",") image_text images) behind c.next_field.ensures (no_blank (joined
    (codes ",") image_text images) (images_field.inside images each)) e in
    (ap asks.Pair (c.in_ok-images.ensures images each at.0), at.1)
