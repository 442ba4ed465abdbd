use Rattle.std.proofs.Common.{◌≡◌, ℕ, List, drop}
use Rattle.unit_names.specs.Found.{under, joined}
use Rattle.unit_names.specs.Levels.{under_listed}
use Rattle.unit_names.proofs.levels.add_names.Given as goal

abbrev pub invariant-loop-name : goal.invariant-loop-name
invariant-loop-name l = (n : List ℕ) → joined (under l.into n) (under_listed (drop l.name-index l.names) l.from n) ≡ joined (under l.initial.into n) (under_listed l.names l.from n)
