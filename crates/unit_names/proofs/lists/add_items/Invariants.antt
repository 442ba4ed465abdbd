use Rattle.std.proofs.Common.{◌≡◌, ℕ, List, drop, map}
use Rattle.unit_tree.specs.FileViews as view
use Rattle.unit_names.specs.Found.{under, joined}
use Rattle.unit_names.specs.Levels.{reached}
use Rattle.unit_names.specs.Accessible.{under_items}
use Rattle.unit_names.proofs.lists.add_items.Given as goal

abbrev pub invariant-loop-one : goal.invariant-loop-one
invariant-loop-one l = (n : List ℕ) → joined (under l.into n) (under_items (reached l.blocks l.levels) (map view.only_item (drop l.one-index l.items)) n) ≡ joined (under l.initial.into n) (under_items (reached l.blocks l.levels) (map view.only_item l.items) n)
