use Rattle.std.proofs.Common.{◌≡◌, ℕ, take}
use Rattle.object_rules.specs.ImagePairs.{names}
use Rattle.order_axioms.specs.Closes.{gone_by}
use Rattle.race_search.specs.Steps.{closed_by}
use Rattle.race_search.proofs.closes.gone_images.Given as goal

abbrev pub invariant-loop-at : goal.invariant-loop-at
invariant-loop-at l = (j : ℕ) → names j l.gone.items ≡ gone_by (closed_by l.n l.before l.close) (take l.at l.before) j
