use Rattle.std.proofs.Common.{◌≡◌, ℕ, ◌<◌, true, get_or}
use Rattle.fortran_tokens.specs.Bytes.{is_digit}
use Rattle.fortran_tokens.proofs.scan.digits_len.Given as goal

-- the bytes so far pass
abbrev pub invariant-loop-i : goal.invariant-loop-i
invariant-loop-i l = (k : ℕ) → k < l.i → is_digit (get_or l.text k 0) ≡ true
