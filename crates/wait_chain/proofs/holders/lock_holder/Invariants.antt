use Rattle.std.proofs.Common.{◌≡◌, drop}
use Rattle.std.specs.Prelude.{None}
use Rattle.wait_chain.specs.Holders.{lock_holder}
use Rattle.wait_chain.proofs.holders.lock_holder.Given as goal

abbrev pub invariant-loop-e : goal.invariant-loop-e
invariant-loop-e l = lock_holder l.cell l.holder (drop l.e-index l.before) ≡ lock_holder l.cell None l.before
