use Rattle.std.proofs.Common.{◌≡◌, ℕ, List, length}
use Rattle.std.specs.Prelude.{◌∷◌, []}
use Rattle.trace_text.specs.TraceText.{joined, number_text}
use Rattle.trace_forms.specs.Ranges.{IsHalf}
use Rattle.trace_theory.specs.Entries.{Each}
use Rattle.trace_fields.proofs.Items.{Left}
use Rattle.trace_fields.proofs.lists.numbers_of.Given as goal

-- the items so far, and what is left of the field
abbrev pub invariant-loop-rest : goal.invariant-loop-rest
invariant-loop-rest l = (all : List ℕ) → Each IsHalf all → l.field ≡ joined
    (44 ∷ []) number_text all → Left IsHalf 44 number_text l.numbers.items l.rest all

abbrev pub decreases-loop-rest : goal.decreases-loop-rest
decreases-loop-rest l = length l.rest
