use Rattle.std.proofs.Common.{◌≡◌, ℕ, ◌<◌, ◌≤◌, false}
use Rattle.wait_chain.specs.Counts.{is_left}
use Rattle.wait_chain.proofs.lacking.first_left.Given as goal

abbrev pub invariant-loop-number : goal.invariant-loop-number
invariant-loop-number l = (k : ℕ) → 0 < k → k ≤ l.number → is_left l.before k ≡ false
