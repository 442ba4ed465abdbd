use Rattle.std.proofs.Common.{◌≡◌, ◌++◌, drop, map}
use Rattle.std.specs.Option.{option_map}
use Rattle.checked_tree.specs.StatementViews.{item as item_seen}
use Rattle.fortran_tree.specs.ActionViews.{item}
use Rattle.rule_definitions.specs.Actions.{printed_all}
use Rattle.part_rules.specs.Views.{list_of}
use Rattle.shared_rules.proofs.Turns.{behind}
use Rattle.print_rules.proofs.print.judge_items.Given as goal

abbrev pub invariant-loop-item : goal.invariant-loop-item
invariant-loop-item l =
    (l.list.breaks.items ++ (printed_all l.scope l.number (map item (drop l.item-index l.items))).breaks ≡ (printed_all l.scope l.first (map item l.items)).breaks)
    × (behind (option_map (map item_seen) (option_map list_of l.list.meaning)) (printed_all l.scope l.number (map item (drop l.item-index l.items))).meaning ≡ (printed_all l.scope l.first (map item l.items)).meaning)
