use Rattle.std.proofs.Common.{◌≡◌, ℕ, ◌<◌, false, nat_eq, get_or}
use Rattle.fortran_lines.proofs.join.line_end.Given as goal

-- no line feed so far
abbrev pub invariant-loop-i : goal.invariant-loop-i
invariant-loop-i l = (k : ℕ) → k < l.i → nat_eq (get_or l.bytes k 0) 10 ≡ false
