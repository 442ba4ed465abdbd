use Rattle.std.proofs.Common.{◌≡◌, ℕ, List, drop, map}
use Rattle.unit_tree.specs.FileViews as view
use Rattle.unit_names.specs.Found.{under, joined}
use Rattle.unit_names.specs.Levels.{under_listed}
use Rattle.unit_names.specs.Accessible.{under_own}
use Rattle.unit_names.proofs.lists.add_own.Given as goal

abbrev pub invariant-loop-name : goal.invariant-loop-name
invariant-loop-name l = (n : List ℕ) → joined (under l.into n) (under_own (under_listed (drop l.name-index l.names) l.from) (map view.rename l.renames) n) ≡ joined (under l.initial.into n) (under_own (under_listed l.names l.from) (map view.rename l.renames) n)
