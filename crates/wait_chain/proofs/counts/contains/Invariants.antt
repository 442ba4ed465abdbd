use Rattle.std.proofs.Common.{◌≡◌, drop}
use Rattle.object_rules.specs.ImagePairs.{names}
use Rattle.wait_chain.proofs.counts.contains.Given as goal

abbrev pub invariant-loop-other : goal.invariant-loop-other
invariant-loop-other l = names l.image (drop l.other-index l.images) ≡ names l.image l.images
