use Rattle.std.proofs.Common.{◌≡◌}
use Rattle.std.specs.Prelude.{map}
use Rattle.std.specs.Option.{option_map}
use Rattle.checked_tree.specs.ExpressionViews.{subscript}
use Rattle.rule_definitions.specs.Expressions.{subscript_of}
use Rattle.rule_definitions.specs.Judgements.{all_made}
use Rattle.part_rules.specs.Brackets.{actual_seen}
use Rattle.part_rules.specs.Views.{list_of}
use Rattle.expr_rules.proofs.subscript.subscripts.Given as goal

abbrev pub invariant-loop-actual : goal.invariant-loop-actual
invariant-loop-actual l =
    (l.list.breaks.items ≡ (all_made (map subscript_of (map actual_seen l.yielded))).breaks)
    × (option_map (map subscript) (option_map list_of l.list.meaning) ≡ (all_made (map subscript_of (map actual_seen l.yielded))).meaning)
