use Rattle.std.proofs.Common.{◌≡◌, ◌+◌, ◌≤◌, drop}
use Rattle.race_search.specs.Steps.{tally}
use Rattle.race_search.proofs.steps.tally.Given as goal

abbrev pub invariant-loop-e : goal.invariant-loop-e
invariant-loop-e l = record {
  sum : l.count + tally l.step (drop l.e-index l.before) ≡ tally l.step l.before;
  few : l.count ≤ l.e-index;
}
