use Rattle.std.proofs.Common.{◌≡◌, ◌++◌, drop, map}
use Rattle.fortran_tree.specs.ActionViews.{item}
use Rattle.rule_definitions.specs.Statements.{item_literals}
use Rattle.numbering_rules.proofs.numbering.add_items.Given as goal

abbrev pub invariant-loop-item : goal.invariant-loop-item
invariant-loop-item l = l.literals.items ++ item_literals (map item (drop l.item-index l.items)) ≡ l.initial.literals.items ++ item_literals (map item l.items)
