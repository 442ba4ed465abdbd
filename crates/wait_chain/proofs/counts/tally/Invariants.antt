use Rattle.std.proofs.Common.{◌≡◌, ◌+◌, ◌≤◌, drop}
use Rattle.wait_chain.specs.Counts.{tally}
use Rattle.wait_chain.proofs.counts.tally.Given as goal

abbrev pub invariant-loop-e : goal.invariant-loop-e
invariant-loop-e l = record {
  sum : l.count + tally l.step (drop l.e-index l.before) ≡ tally l.step l.before;
  few : l.count ≤ l.e-index;
}
