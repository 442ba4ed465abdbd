use Rattle.std.proofs.Common.{◌≡◌, false, map}
use Rattle.std.specs.Option.{option_map}
use Rattle.checked_tree.specs.ExpressionViews.{argument}
use Rattle.rule_definitions.specs.Judgements.{all_made}
use Rattle.scope_table.specs.Symbols.{symbol}
use Rattle.part_rules.specs.Brackets.{actual_seen}
use Rattle.part_rules.specs.Views.{list_of}
use Rattle.call_rules.specs.Pairs.{argument_list, dummies_after, over_after}
use Rattle.call_rules.proofs.actual.paired_all.Given as goal

abbrev pub invariant-loop-actual : goal.invariant-loop-actual
invariant-loop-actual l =
    (map symbol l.left ≡ dummies_after (map symbol l.dummies) (map actual_seen l.yielded))
    × (l.over ≡ over_after (map symbol l.dummies) false (map actual_seen l.yielded))
    × (l.list.breaks.items ≡ (all_made (argument_list l.scope (map symbol l.dummies) false (map actual_seen l.yielded))).breaks)
    × (option_map (map argument) (option_map list_of l.list.meaning) ≡ (all_made (argument_list l.scope (map symbol l.dummies) false (map actual_seen l.yielded))).meaning)
