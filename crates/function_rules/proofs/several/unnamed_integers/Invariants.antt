use Rattle.std.proofs.Common.{◌≡◌, map}
use Rattle.std.specs.Option.{option_map}
use Rattle.checked_tree.specs.ExpressionViews.{expression}
use Rattle.rule_definitions.specs.IntrinsicFunctions as rules
use Rattle.rule_definitions.specs.Judgements.{all_made}
use Rattle.part_rules.specs.Brackets.{actual_seen}
use Rattle.part_rules.specs.Views.{list_of}
use Rattle.function_rules.proofs.several.unnamed_integers.Given as goal

abbrev pub invariant-loop-actual : goal.invariant-loop-actual
invariant-loop-actual l =
    (l.list.breaks.items ≡ (all_made (map rules.unnamed_integer (map actual_seen l.yielded))).breaks)
    × (option_map (map expression) (option_map list_of l.list.meaning) ≡ (all_made (map rules.unnamed_integer (map actual_seen l.yielded))).meaning)
