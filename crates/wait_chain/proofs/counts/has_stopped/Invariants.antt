use Rattle.std.proofs.Common.{◌≡◌, drop}
use Rattle.object_rules.specs.Happenings.{control, happened, has_stopped}
use Rattle.wait_chain.proofs.counts.has_stopped.Given as goal

abbrev pub invariant-loop-e : goal.invariant-loop-e
invariant-loop-e l = has_stopped l.image (happened control (drop l.e-index l.before)) ≡ has_stopped l.image (happened control l.before)
