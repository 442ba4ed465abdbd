use Rattle.std.proofs.Common.{◌≡◌, ℕ, List, ◌∷◌, ◌++◌, flat_map, length}
use Rattle.trace_theory.specs.Entries.{Each}
use Rattle.trace_text.specs.TraceText.{name_text, spaced_name}
use Rattle.trace_forms.specs.Ranges.{HasName}
use Rattle.trace_fields.proofs.Rows.{Ahead}
use Rattle.trace_fields.proofs.rounds.coarrays_of.Given as goal

-- the coarrays so far, and what is left
abbrev pub invariant-loop-list : goal.invariant-loop-list
invariant-loop-list l = (list : List ℕ) (more : List ℕ) → Each (HasName l.names) list
    → 32 ∷ l.initial.rest.now ≡ flat_map (spaced_name l.names) list ++ (32 ∷ (62 ∷ more))
    → Ahead (HasName l.names) (name_text l.names) l.list l.left list more

abbrev pub decreases-loop-list : goal.decreases-loop-list
decreases-loop-list l = length l.left
