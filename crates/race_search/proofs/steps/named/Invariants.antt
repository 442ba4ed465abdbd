use Rattle.std.proofs.Common.{◌≡◌, drop}
use Rattle.object_rules.specs.Happenings.{images, happened}
use Rattle.object_rules.specs.ImagePairs.{last_named_from}
use Rattle.order_axioms.specs.Closes as closes
use Rattle.race_search.proofs.steps.named.Given as goal

abbrev pub invariant-loop-e : goal.invariant-loop-e
invariant-loop-e l = last_named_from l.image l.named.items (happened images (drop l.e-index l.before)) ≡ closes.named l.image l.before
