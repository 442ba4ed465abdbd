use Rattle.std.proofs.Common.{◌≡◌, ℕ, List, drop}
use Rattle.wait_chain.specs.Told.{told}
use Rattle.wait_chain.proofs.told.told.Given as goal

abbrev pub invariant-loop-formed : goal.invariant-loop-formed
invariant-loop-formed l = (js : List ℕ) → told l.team (drop l.formed-index l.teams) js ≡ told l.team l.teams js
