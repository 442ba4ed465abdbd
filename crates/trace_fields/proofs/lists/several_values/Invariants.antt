use Rattle.std.proofs.Common.{◌≡◌, List, length}
use Rattle.caf_base.specs.declared.value.Value.{Value}
use Rattle.trace_text.specs.TraceText.{value_text, values_text}
use Rattle.trace_forms.specs.Ranges.{IsValueInRange}
use Rattle.trace_theory.specs.Entries.{Each}
use Rattle.trace_fields.proofs.Items.{Left}
use Rattle.trace_fields.proofs.lists.several_values.Given as goal

-- the items so far, and what is left of the field
abbrev pub invariant-loop-rest : goal.invariant-loop-rest
invariant-loop-rest l = (all : List Value) → Each IsValueInRange all → l.field
    ≡ values_text all → Left IsValueInRange 44 value_text l.values.items l.rest all

abbrev pub decreases-loop-rest : goal.decreases-loop-rest
decreases-loop-rest l = length l.rest
