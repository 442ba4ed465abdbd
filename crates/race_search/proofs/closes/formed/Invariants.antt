use Rattle.std.proofs.Common.{◌≡◌, drop}
use Rattle.order_axioms.specs.Closes.{formed}
use Rattle.race_search.proofs.closes.formed.Given as goal

abbrev pub invariant-loop-e : goal.invariant-loop-e
invariant-loop-e l = formed l.team (drop l.e-index l.before) ≡ formed l.team l.before
