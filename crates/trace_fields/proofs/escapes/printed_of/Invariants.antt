use Rattle.std.proofs.Common.{◌≡◌, ℕ, List, flat_map, length}
use Rattle.trace_text.specs.TraceText.{escaped}
use Rattle.trace_fields.proofs.Printing.{Printed}
use Rattle.trace_fields.proofs.escapes.printed_of.Given as goal

-- the bytes so far, and what is left of the text
abbrev pub invariant-loop-byte : goal.invariant-loop-byte
invariant-loop-byte l = (bytes : List ℕ) → l.text ≡ flat_map escaped bytes → Printed l.bytes.items l.rest bytes

abbrev pub decreases-loop-byte : goal.decreases-loop-byte
decreases-loop-byte l = length l.rest
