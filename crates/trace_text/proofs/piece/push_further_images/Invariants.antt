use Rattle.std.proofs.Common.{◌≡◌, ◌++◌, flat_map, take}
use Rattle.trace_text.specs.TraceText.{behind, image_text}
use Rattle.trace_text.proofs.piece.push_further_images.Given as goal

abbrev pub invariant-loop-image : goal.invariant-loop-image
invariant-loop-image l = l.out.items ≡ l.initial.out.items ++ flat_map (behind l.between image_text) (take l.image-index l.images)
