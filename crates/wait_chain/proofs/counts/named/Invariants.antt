use Rattle.std.proofs.Common.{◌≡◌, drop}
use Rattle.object_rules.specs.Happenings.{images, happened}
use Rattle.object_rules.specs.ImagePairs.{last_named_from, last_named}
use Rattle.wait_chain.proofs.counts.named.Given as goal

abbrev pub invariant-loop-e : goal.invariant-loop-e
invariant-loop-e l = last_named_from l.image l.named.items (happened images (drop l.e-index l.before)) ≡ last_named l.image (happened images l.before)
