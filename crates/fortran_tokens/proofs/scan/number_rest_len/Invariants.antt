use Rattle.std.proofs.Common.{◌≡◌, ◌+◌, drop}
use Rattle.fortran_tokens.specs.Scans.{number_rest_len}
use Rattle.fortran_tokens.proofs.scan.number_rest_len.Given as goal

-- the bytes so far are digits
abbrev pub invariant-loop-i : goal.invariant-loop-i
invariant-loop-i l = l.i + number_rest_len (drop l.i l.text) ≡ number_rest_len l.text
