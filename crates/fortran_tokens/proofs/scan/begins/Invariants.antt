use Rattle.std.proofs.Common.{◌≡◌, drop}
use Rattle.fortran_tokens.specs.Scans as spec
use Rattle.fortran_tokens.proofs.scan.begins.Given as goal

-- the letters so far begin the text
abbrev pub invariant-loop-letter : goal.invariant-loop-letter
invariant-loop-letter l = spec.begins (drop l.letter-index l.spelling) l.rest ≡ spec.begins l.spelling l.text
