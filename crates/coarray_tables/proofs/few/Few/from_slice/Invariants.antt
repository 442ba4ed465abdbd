use Rattle.std.proofs.Common.{◌≡◌, take}
use Rattle.coarray_tables.proofs.few.Few.from_slice.Given as goal

-- the numbers so far
abbrev pub invariant-loop-i : goal.invariant-loop-i
invariant-loop-i l = l.few ≡ take l.i l.numbers
