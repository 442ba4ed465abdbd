use Rattle.std.proofs.Common.{◌≡◌, ◌≤◌, min, drop}
use Rattle.order_axioms.specs.Missed.{fewest_joined}
use Rattle.race_search.proofs.failures.fewest_joined.Given as goal

abbrev pub invariant-loop-image : goal.invariant-loop-image
invariant-loop-image l = record {
  fewest : min l.fewest (fewest_joined l.team l.before l.most (drop l.image-index l.images)) ≡ fewest_joined l.team l.before l.most l.images;
  low : l.fewest ≤ l.most;
}
