use Rattle.std.proofs.Common.{◌≡◌, ap, ◌∙◌, subst, arith}
use Rattle.std.proofs.lemmas.Grind.{common_steps}
use Rattle.std.specs.Prelude.{IfOk, map}
use Rattle.std.specs.Option.{option_map}
use Rattle.checked_tree.specs.ExpressionViews.{expression, optional_expression}
use Rattle.fortran_tree.specs.ExpressionViews as tree
use Rattle.rule_definitions.specs.Expressions as rules
use Rattle.part_rules.specs.Brackets.{actual_seen}
use Rattle.part_rules.specs.Views.{judgement, placed}
use Rattle.specifier_rules.specs.Views.{written}
use Rattle.expr_rules.specs.Chains.{argument_judged, argument_with, specifier_judged, specifier_with}
use Rattle.expr_rules.proofs.Items.{chain_found, triplet_found, turn}
use Rattle.expr_rules.proofs.expr.+judge.Goals as goal

pub judge_brackets-loop-subscript-preserved : goal.judge_brackets-loop-subscript-preserved
judge_brackets-loop-subscript-preserved t' c =
    ap (map actual_seen) c.in_ok-push.ensures.items
    ∙ turn actual_seen (λ x. rules.judged_bracket c.args.scope.now (tree.section_subscript x)) c.args.subscripts.now c.loop-subscript.actuals.items c.loop-subscript.subscript-index c.subscript-item.result c.in_ok-actual.actual
    c.subscript-item.is c.loop-subscript-test.true c.loop-subscript.invariant c.in_ok-actual.ensures

pub judge_list-loop-value-preserved : goal.judge_list-loop-value-preserved
judge_list-loop-value-preserved t' c =
    ap (map placed) c.in_ok-push.ensures.items
    ∙ turn placed (λ x. rules.placed c.args.scope.now (tree.expression x)) c.args.values.now c.loop-value.parts.items c.loop-value.value-index c.value-item.result c.in_ok-part.part
    c.value-item.is c.loop-value-test.true c.loop-value.invariant c.in_ok-part.ensures

pub judge_arguments-loop-argument-preserved : goal.judge_arguments-loop-argument-preserved
judge_arguments-loop-argument-preserved t' c =
    ap (map actual_seen) c.in_ok-push.ensures.items
    ∙ turn actual_seen (argument_judged c.args.scope.now) c.args.arguments.now c.loop-argument.actuals.items c.loop-argument.argument-index c.argument-item.result c.in_ok-actual.actual
    c.argument-item.is c.loop-argument-test.true c.loop-argument.invariant (c.in_ok-actual.ensures ∙ ap (argument_with c.argument-item.result.keyword) c.in_ok-part.ensures)

pub judge_specifiers-loop-specifier-preserved : goal.judge_specifiers-loop-specifier-preserved
judge_specifiers-loop-specifier-preserved t' c =
    ap (map written) c.in_ok-push.ensures.items
    ∙ turn written (specifier_judged c.args.scope.now) c.args.specifiers.now c.loop-specifier.all.items c.loop-specifier.specifier-index c.specifier-item.result c.in_ok-specified.specified
    c.specifier-item.is c.loop-specifier-test.true c.loop-specifier.invariant (c.in_ok-specified.ensures ∙ ap (specifier_with c.specifier-item.result.name) c.in_ok-value.ensures)

pub judge-returns-in_ok-first-in-Binary-clause-breaks : goal.judge-returns-in_ok-first-in-Binary-clause-breaks
judge-returns-in_ok-first-in-Binary-clause-breaks t' c =
    let s = c.args.scope.now in
    let l : c.deref-in-Binary.result.now ≡ c.in-Binary.left.value = grind (arith, common_steps) in
    let r : c.deref-in-Binary-2.result.now ≡ c.in-Binary.right.value = grind (arith, common_steps) in
    subst (λ bs. IfOk c.judge_links.result (λ j. j.breaks.items ≡ bs))
    (ap (λ j. j.breaks)
    (chain_found s c.args.expr.now c.in-Binary.operator c.in-Binary.left c.in-Binary.right c.in-Binary.links c.in-Binary.at (placed c.in_ok-left_part-in-Binary.left_part) c.deref-in-Binary-2.result.now (judgement expression c.in_ok-first-in-Binary.first) c.as_slice-in-Binary.result.now
    c.in-Binary.is (c.in_ok-left_part-in-Binary.ensures ∙ ap (λ x. rules.placed s (tree.expression x)) l) r c.in_ok-first-in-Binary.ensures c.as_slice-in-Binary.ensures.value))
    c.judge_links.ensures.breaks

pub judge-returns-in_ok-first-in-Binary-clause-meaning : goal.judge-returns-in_ok-first-in-Binary-clause-meaning
judge-returns-in_ok-first-in-Binary-clause-meaning t' c =
    let s = c.args.scope.now in
    let l : c.deref-in-Binary.result.now ≡ c.in-Binary.left.value = grind (arith, common_steps) in
    let r : c.deref-in-Binary-2.result.now ≡ c.in-Binary.right.value = grind (arith, common_steps) in
    subst (λ o. IfOk c.judge_links.result (λ j. option_map expression j.meaning ≡ o))
    (ap (λ j. j.meaning)
    (chain_found s c.args.expr.now c.in-Binary.operator c.in-Binary.left c.in-Binary.right c.in-Binary.links c.in-Binary.at (placed c.in_ok-left_part-in-Binary.left_part) c.deref-in-Binary-2.result.now (judgement expression c.in_ok-first-in-Binary.first) c.as_slice-in-Binary.result.now
    c.in-Binary.is (c.in_ok-left_part-in-Binary.ensures ∙ ap (λ x. rules.placed s (tree.expression x)) l) r c.in_ok-first-in-Binary.ensures c.as_slice-in-Binary.ensures.value))
    c.judge_links.ensures.meaning

pub judge_bracket-returns-in-Ok-judge_bound : goal.judge_bracket-returns-in-Ok-judge_bound
judge_bracket-returns-in-Ok-judge_bound t' c =
    subst (λ x. IfOk c.triplet_at.result (λ a. actual_seen a ≡ x))
    (triplet_found c.args.scope.now c.args.subscript.now c.in-Triplet.lower c.in-Triplet.upper c.in-Triplet.stride c.in-Triplet.at (judgement optional_expression c.in_ok-low-in-Triplet.low) (judgement optional_expression c.in-Ok.bound) (judgement optional_expression c.in-Ok-judge_bound.bound)
    c.in-Triplet.is c.in_ok-low-in-Triplet.ensures c.in-Ok.ensures c.in-Ok-judge_bound.ensures)
    c.triplet_at.ensures
