use Rattle.std.proofs.Common.{◌≡◌, ◌++◌, drop, map}
use Rattle.unit_scopes.proofs.coshape.lower_cobounds.Given as goal

abbrev pub invariant-loop-next : goal.invariant-loop-next
invariant-loop-next l = l.all ++ map (λ d. d.0) (drop l.next-index l.cobounds) ≡ map (λ d. d.0) l.cobounds
