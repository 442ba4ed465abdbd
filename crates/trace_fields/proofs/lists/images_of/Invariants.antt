use Rattle.std.proofs.Common.{◌≡◌, List, length}
use Rattle.std.specs.Prelude.{◌∷◌, []}
use Rattle.caf_base.specs.declared.place.ImageNo.{ImageNo}
use Rattle.trace_text.specs.TraceText.{joined, image_text}
use Rattle.trace_forms.specs.Ranges.{IsImageNumber}
use Rattle.trace_theory.specs.Entries.{Each}
use Rattle.trace_fields.proofs.Items.{Left}
use Rattle.trace_fields.proofs.lists.images_of.Given as goal

-- the items so far, and what is left of the field
abbrev pub invariant-loop-rest : goal.invariant-loop-rest
invariant-loop-rest l = (all : List ImageNo) → Each IsImageNumber all → l.field ≡ joined
    (l.between ∷ []) image_text all → Left IsImageNumber l.between image_text l.images.items l.rest all

abbrev pub decreases-loop-rest : goal.decreases-loop-rest
decreases-loop-rest l = length l.rest
