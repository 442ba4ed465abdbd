use Rattle.std.proofs.Common.{◌≡◌, ℕ, ◌<◌, ◌≤◌, false}
use Rattle.wait_chain.specs.Counts.{lacks}
use Rattle.wait_chain.proofs.lacking.least_lacking.Given as goal

abbrev pub invariant-loop-number : goal.invariant-loop-number
invariant-loop-number l = (k : ℕ) → 0 < k → k ≤ l.number → lacks l.due l.images l.before k ≡ false
