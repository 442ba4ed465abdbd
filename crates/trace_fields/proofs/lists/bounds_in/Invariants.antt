use Rattle.std.proofs.Common.{◌≡◌, ℤ, List, length}
use Rattle.std.specs.Prelude.{◌∷◌, []}
use Rattle.trace_text.specs.TraceText.{joined, bounds_text}
use Rattle.trace_forms.specs.Ranges.{AreBounds}
use Rattle.trace_theory.specs.Entries.{Each}
use Rattle.trace_fields.proofs.Items.{Left}
use Rattle.trace_fields.proofs.lists.bounds_in.Given as goal

-- the items so far, and what is left of the field
abbrev pub invariant-loop-rest : goal.invariant-loop-rest
invariant-loop-rest l = (all : List (ℤ × ℤ)) → Each AreBounds all → l.field ≡ joined
    (44 ∷ []) bounds_text all → Left AreBounds 44 bounds_text l.dims.items l.rest all

abbrev pub decreases-loop-rest : goal.decreases-loop-rest
decreases-loop-rest l = length l.rest
