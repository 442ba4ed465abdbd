use Rattle.std.proofs.Common.{◌≡◌, drop}
use Rattle.order_axioms.specs.Closes.{is_over}
use Rattle.race_search.proofs.steps.is_over.Given as goal

abbrev pub invariant-loop-e : goal.invariant-loop-e
invariant-loop-e l = is_over l.image (drop l.e-index l.before) ≡ is_over l.image l.before
