use Rattle.std.proofs.Common.{◌≡◌}
use Rattle.std.specs.Prelude.{map}
use Rattle.std.specs.Option.{option_map}
use Rattle.checked_tree.specs.ExpressionViews.{expression}
use Rattle.rule_definitions.specs.Judgements.{all_made}
use Rattle.rule_definitions.specs.Parts.{integer}
use Rattle.part_rules.specs.Views.{list_of, placed}
use Rattle.expr_rules.proofs.selector.cosubscripts.Given as goal

abbrev pub invariant-loop-part : goal.invariant-loop-part
invariant-loop-part l =
    (l.list.breaks.items ≡ (all_made (map (integer 31) (map placed l.yielded))).breaks)
    × (option_map (map expression) (option_map list_of l.list.meaning) ≡ (all_made (map (integer 31) (map placed l.yielded))).meaning)
