use Rattle.std.proofs.Common.{◌≡◌, drop, take, map}
use Rattle.fortran_tree.specs.ExpressionViews as tree
use Rattle.checked_tree.specs.ExpressionViews.{expression}
use Rattle.rule_definitions.specs.Expressions as rules
use Rattle.part_rules.specs.Brackets.{actual_seen}
use Rattle.part_rules.specs.Views.{judgement, placed}
use Rattle.specifier_rules.specs.Views.{written}
use Rattle.expr_rules.specs.Chains.{argument_judged, chain_judged, specifier_judged}
use Rattle.expr_rules.proofs.expr.+judge.Given as goal

abbrev pub invariant-judge_links-loop-link : goal.invariant-judge_links-loop-link
invariant-judge_links-loop-link l =
    chain_judged l.scope (judgement expression l.all) l.at (drop l.link-index l.links) ≡ chain_judged l.scope (judgement expression l.initial.all) l.at l.links

abbrev pub invariant-judge_brackets-loop-subscript : goal.invariant-judge_brackets-loop-subscript
invariant-judge_brackets-loop-subscript l = map actual_seen l.actuals.items ≡ map (λ x. rules.judged_bracket l.scope (tree.section_subscript x)) (take l.subscript-index l.subscripts)

abbrev pub invariant-judge_list-loop-value : goal.invariant-judge_list-loop-value
invariant-judge_list-loop-value l = map placed l.parts.items ≡ map (λ x. rules.placed l.scope (tree.expression x)) (take l.value-index l.values)

abbrev pub invariant-judge_arguments-loop-argument : goal.invariant-judge_arguments-loop-argument
invariant-judge_arguments-loop-argument l = map actual_seen l.actuals.items ≡ map (argument_judged l.scope) (take l.argument-index l.arguments)

abbrev pub invariant-judge_specifiers-loop-specifier : goal.invariant-judge_specifiers-loop-specifier
invariant-judge_specifiers-loop-specifier l = map written l.all.items ≡ map (specifier_judged l.scope) (take l.specifier-index l.specifiers)
