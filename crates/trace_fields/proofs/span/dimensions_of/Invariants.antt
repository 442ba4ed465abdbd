use Rattle.std.proofs.Common.{◌≡◌, ℕ, ℤ, List, length}
use Rattle.std.specs.Prelude.{◌∷◌, []}
use Rattle.trace_text.specs.TraceText.{joined}
use Rattle.trace_forms.specs.Ranges.{IsDimension}
use Rattle.trace_fields.specs.Cutting.{size_text}
use Rattle.trace_theory.specs.Entries.{Each}
use Rattle.trace_fields.proofs.Items.{Left}
use Rattle.trace_fields.proofs.span.dimensions_of.Given as goal

-- the items so far, and what is left of the field
abbrev pub invariant-loop-rest : goal.invariant-loop-rest
invariant-loop-rest l = (all : List (ℕ × ℤ)) → Each IsDimension all → l.field ≡ joined
    (58 ∷ []) size_text all → Left IsDimension 58 size_text l.dims.items l.rest all

abbrev pub decreases-loop-rest : goal.decreases-loop-rest
decreases-loop-rest l = length l.rest
