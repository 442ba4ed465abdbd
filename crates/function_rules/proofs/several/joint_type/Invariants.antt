use Rattle.std.proofs.Common.{◌≡◌, drop}
use Rattle.checked_tree.specs.ExpressionViews.{expressions}
use Rattle.rule_definitions.specs.IntrinsicFunctions as rules
use Rattle.function_rules.proofs.several.joint_type.Given as goal

abbrev pub invariant-loop-value : goal.invariant-loop-value
invariant-loop-value l = rules.joint_type (expressions (drop l.value-index l.values)) ≡ rules.joint_type (expressions l.values)
