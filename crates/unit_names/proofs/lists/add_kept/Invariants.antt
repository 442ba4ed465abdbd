use Rattle.std.proofs.Common.{◌≡◌, ℕ, List, drop, map}
use Rattle.unit_tree.specs.FileViews as view
use Rattle.unit_names.specs.Found.{under, joined}
use Rattle.unit_names.specs.Levels.{reached}
use Rattle.unit_names.specs.Accessible.{under_own}
use Rattle.unit_names.proofs.lists.add_kept.Given as goal

abbrev pub invariant-loop-level : goal.invariant-loop-level
invariant-loop-level l = (n : List ℕ) → joined (under l.into n) (under_own (reached l.blocks (drop l.level-index l.levels)) (map view.rename l.renames) n) ≡ joined (under l.initial.into n) (under_own (reached l.blocks l.levels) (map view.rename l.renames) n)
