use Rattle.std.proofs.Common.{◌≡◌}
use Rattle.std.specs.Prelude.{map}
use Rattle.std.specs.List.{flat_map}
use Rattle.checked_tree.specs.ExpressionViews.{expression}
use Rattle.specifier_rules.specs.Variables.{single_seen}
use Rattle.specifier_rules.proofs.result.elements.Given as goal

abbrev pub invariant-loop-subscript : goal.invariant-loop-subscript
invariant-loop-subscript l = map expression l.elements.items ≡ flat_map single_seen l.yielded
