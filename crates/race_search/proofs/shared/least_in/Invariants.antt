use Rattle.std.proofs.Common.{take}
use Rattle.race_search.specs.Partners.{LeastIn}
use Rattle.race_search.proofs.shared.least_in.Given as goal

abbrev pub invariant-loop-x : goal.invariant-loop-x
invariant-loop-x l = LeastIn (take l.x-index l.xs) l.ys l.least
