use Rattle.std.proofs.Common.{◌≡◌, ℕ, List, ◌∷◌, ◌++◌, flat_map, length}
use Rattle.caf_events.specs.declared.round.Allotted.{Allotted}
use Rattle.trace_theory.specs.Entries.{Each}
use Rattle.trace_text.specs.TraceText.{allotted_text}
use Rattle.trace_forms.specs.Ranges.{AllottedHasText}
use Rattle.trace_fields.proofs.Rows.{Ahead}
use Rattle.trace_fields.proofs.Shapes.{item_text}
use Rattle.trace_fields.proofs.rounds.allotments_of.Given as goal

-- the coarrays so far, and what is left
abbrev pub invariant-loop-alloc : goal.invariant-loop-alloc
invariant-loop-alloc l = (list : List Allotted) (more : List ℕ) → Each (AllottedHasText l.names) list
    → 32 ∷ l.initial.rest.now ≡ flat_map (allotted_text l.names) list ++ (32 ∷ (62 ∷ more))
    → Ahead (AllottedHasText l.names) (item_text l.names) l.list l.left list more

abbrev pub decreases-loop-alloc : goal.decreases-loop-alloc
decreases-loop-alloc l = length l.left
