use Rattle.std.proofs.Common.{◌≡◌, drop}
use Rattle.object_rules.specs.Happenings.{numbers_of}
use Rattle.object_rules.specs.ImagePairs.{names}
use Rattle.wait_chain.proofs.counts.names.Given as goal

abbrev pub invariant-loop-other : goal.invariant-loop-other
invariant-loop-other l = names l.image (numbers_of (drop l.other-index l.images)) ≡ names l.image (numbers_of l.images)
