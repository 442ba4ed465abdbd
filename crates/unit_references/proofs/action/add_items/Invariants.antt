use Rattle.std.proofs.Common.{◌≡◌, ◌++◌, drop, map}
use Rattle.fortran_tree.specs.ActionViews as view
use Rattle.unit_references.specs.References as names
use Rattle.unit_references.proofs.action.add_items.Given as goal

abbrev pub invariant-loop-item : goal.invariant-loop-item
invariant-loop-item l = l.refs ++ names.each names.item (map view.item (drop l.item-index l.items)) ≡ l.initial.refs ++ names.each names.item (map view.item l.items)
