use Rattle.std.proofs.Common.{◌≡◌, ◌++◌, length}
use Rattle.coarray_tables.specs.Asks.{allotment}
use Rattle.coarray_tables.proofs.coarrays.Coarrays.allotment.Given as goal

-- the coarrays so far, and the numbers that are left
abbrev pub invariant-loop-number : goal.invariant-loop-number
invariant-loop-number l = l.list.items ++ allotment l.self.coarrays l.left ≡ allotment l.self.coarrays l.numbers

abbrev pub decreases-loop-number : goal.decreases-loop-number
decreases-loop-number l = length l.left
