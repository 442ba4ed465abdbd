use Rattle.std.proofs.Common.{◌≡◌, ℕ, List, drop, map}
use Rattle.unit_tree.specs.FileViews as view
use Rattle.unit_names.specs.Found.{under, joined}
use Rattle.unit_names.specs.Levels.{reached}
use Rattle.unit_names.specs.Accessible.{under_renames}
use Rattle.unit_names.proofs.lists.add_renames.Given as goal

abbrev pub invariant-loop-rename : goal.invariant-loop-rename
invariant-loop-rename l = (n : List ℕ) → joined (under l.into n) (under_renames (reached l.blocks l.levels) (map view.rename (drop l.rename-index l.renames)) n) ≡ joined (under l.initial.into n) (under_renames (reached l.blocks l.levels) (map view.rename l.renames) n)
