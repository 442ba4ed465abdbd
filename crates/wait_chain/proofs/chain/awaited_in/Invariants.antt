use Rattle.std.proofs.Common.{◌≡◌, drop}
use Rattle.wait_chain.specs.Awaited.{awaited_in}
use Rattle.wait_chain.specs.Reports.{as_waits}
use Rattle.wait_chain.proofs.chain.awaited_in.Given as goal

abbrev pub invariant-loop-wait : goal.invariant-loop-wait
invariant-loop-wait l = awaited_in (as_waits (drop l.wait-index l.waits)) l.image ≡ awaited_in (as_waits l.waits) l.image
