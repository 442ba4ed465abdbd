use Rattle.std.proofs.Common.{◌≡◌, drop}
use Rattle.std.specs.Prelude.{None}
use Rattle.wait_chain.specs.Holders.{inside}
use Rattle.wait_chain.proofs.holders.inside.Given as goal

abbrev pub invariant-loop-e : goal.invariant-loop-e
invariant-loop-e l = inside l.construct l.inside (drop l.e-index l.before) ≡ inside l.construct None l.before
