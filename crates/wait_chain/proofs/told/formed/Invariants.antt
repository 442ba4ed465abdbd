use Rattle.std.proofs.Common.{◌≡◌, drop}
use Rattle.wait_chain.specs.Told.{formed}
use Rattle.wait_chain.proofs.told.formed.Given as goal

abbrev pub invariant-loop-e : goal.invariant-loop-e
invariant-loop-e l = formed l.team (drop l.e-index l.before) ≡ formed l.team l.before
