use Rattle.std.proofs.Common.{◌≡◌, ℕ, List, drop}
use Rattle.order_axioms.specs.Closes.{told}
use Rattle.race_search.proofs.closes.told.Given as goal

abbrev pub invariant-loop-formed : goal.invariant-loop-formed
invariant-loop-formed l = (js : List ℕ) → told l.team (drop l.formed-index l.teams) js ≡ told l.team l.teams js
