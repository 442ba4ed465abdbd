use Rattle.std.proofs.Common.{◌≡◌, max, drop}
use Rattle.order_axioms.specs.Missed.{most_joined}
use Rattle.race_search.proofs.failures.most_joined.Given as goal

abbrev pub invariant-loop-image : goal.invariant-loop-image
invariant-loop-image l = max l.most (most_joined l.team l.before (drop l.image-index l.images)) ≡ most_joined l.team l.before l.images
