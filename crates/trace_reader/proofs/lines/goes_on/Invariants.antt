use Rattle.std.proofs.Common.{◌≡◌, drop}
use Rattle.trace_forms.specs.Files.{goes_on_as_stamp}
use Rattle.trace_reader.proofs.lines.goes_on.Given as goal

-- the bytes so far are digits
abbrev pub invariant-loop-byte : goal.invariant-loop-byte
invariant-loop-byte l = goes_on_as_stamp l.text ≡ goes_on_as_stamp (drop l.byte-index l.text)
