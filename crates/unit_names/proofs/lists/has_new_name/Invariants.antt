use Rattle.std.proofs.Common.{◌≡◌, drop, map}
use Rattle.unit_tree.specs.FileViews as view
use Rattle.unit_names.specs.Accessible.{is_renamed}
use Rattle.unit_names.proofs.lists.has_new_name.Given as goal

abbrev pub invariant-loop-rename : goal.invariant-loop-rename
invariant-loop-rename l = is_renamed (map view.rename (drop l.rename-index l.renames)) l.name ≡ is_renamed (map view.rename l.renames) l.name
