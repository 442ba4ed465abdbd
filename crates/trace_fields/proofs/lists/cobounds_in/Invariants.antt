use Rattle.std.proofs.Common.{◌≡◌, ℤ, List, ◌++◌, flat_map, length, codes}
use Rattle.caf_text.specs.Numbers.{decimal_text}
use Rattle.trace_theory.specs.Entries.{Each}
use Rattle.trace_text.specs.TraceText.{cobound_text}
use Rattle.trace_forms.specs.Ranges.{IsSigned, AreBounds}
use Rattle.trace_fields.proofs.Shapes.{Cobounds}
use Rattle.trace_fields.proofs.lists.cobounds_in.Given as goal

-- the cobounds so far, and the next one
abbrev pub invariant-loop-behind : goal.invariant-loop-behind
invariant-loop-behind l = (cobounds : List (ℤ × ℤ)) (last : ℤ) → Each AreBounds cobounds → IsSigned last → l.field
    ≡ flat_map cobound_text cobounds ++ (decimal_text last ++ codes ":*]")
    → Cobounds l.codims.items l.item l.behind (l.initial.codims.items ++ cobounds) last

abbrev pub decreases-loop-behind : goal.decreases-loop-behind
decreases-loop-behind l = length l.behind
