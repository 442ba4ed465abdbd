use Rattle.std.proofs.Common.{ap, ◌∙◌, map}
use Rattle.std.proofs.lemmas.Result.{IfOk-weaker}
use Rattle.checked_tree.specs.ExpressionViews.{expression, form, form_arithmetic, form_logic, subscripts}
use Rattle.rule_definitions.specs.Constants as k
use Rattle.constant_values.specs.Chains.{arithmetic_value, logic_value}
use Rattle.constant_values.specs.Views.{integer_of, truth_of, subscript, plain_subscript}
use Rattle.constant_values.proofs.Expressions.{arithmetic_seen, logic_seen, designator_seen, items_begin, items_turn}
use Rattle.constant_values.proofs.expression.+known.Goals as goal

pub known-returns-in_ok-value-in-Arithmetic : goal.known-returns-in_ok-value-in-Arithmetic
known-returns-in_ok-value-in-Arithmetic t c =
    let s = c.args.scope.now in
    let w = c.in-Arithmetic in
    let p = c.in_ok-left-in-Arithmetic.left in
    let q = c.in_ok-right-in-Arithmetic.right in
    let y = c.args.expr.now.of_type in
    arithmetic_seen s (form c.args.expr.now.form) w.links.items w.operator (expression w.left.value) (expression w.right.value) y p q _ _
    (ap form w.is ∙ form_arithmetic w.operator w.left w.right w.links)
    (c.in_ok-left-in-Arithmetic.ensures ∙ ap (λ e. integer_of (k.known s (expression e)).constancy) c.deref-in-Arithmetic.ensures)
    (c.in_ok-right-in-Arithmetic.ensures ∙ ap (λ e. integer_of (k.known s (expression e)).constancy) c.deref-in-Arithmetic-2.ensures)
    (c.in_ok-value-in-Arithmetic.ensures ∙ ap (λ l. arithmetic_value s l w.operator p q y) c.deref-in-Arithmetic-3.ensures.value)
    c.number-in-Arithmetic.ensures

pub known-returns-in_ok-value-in-Logic : goal.known-returns-in_ok-value-in-Logic
known-returns-in_ok-value-in-Logic t c =
    let s = c.args.scope.now in
    let w = c.in-Logic in
    let p = c.in_ok-left-in-Logic.left in
    let q = c.in_ok-right-in-Logic.right in
    logic_seen s (form c.args.expr.now.form) w.links.items w.operator (expression w.left.value) (expression w.right.value) c.args.expr.now.of_type p q _ _
    (ap form w.is ∙ form_logic w.operator w.left w.right w.links)
    (c.in_ok-left-in-Logic.ensures ∙ ap (λ e. truth_of (k.known s (expression e)).constancy) c.deref-in-Logic.ensures)
    (c.in_ok-right-in-Logic.ensures ∙ ap (λ e. truth_of (k.known s (expression e)).constancy) c.deref-in-Logic-2.ensures)
    (c.in_ok-value-in-Logic.ensures ∙ ap (λ l. logic_value s l w.operator p q) c.deref-in-Logic-3.ensures.value)
    c.truth-in-Logic.ensures

pub known_designator-returns : goal.known_designator-returns
known_designator-returns t c =
    let s = c.args.scope.now in
    IfOk-weaker c.known_part.result _ _
    (λ r e. designator_seen s c.args.part.now c.as_slice.result.now c.is_some.result _
    (ap (map subscript) c.as_slice.ensures ∙ c.in_ok-sections.ensures ∙ ap (λ l. map plain_subscript (k.known_subscripts s (subscripts l))) c.deref.ensures.value)
    c.is_some.ensures e)
    c.known_part.ensures

pub known_items-loop-expr-init : goal.known_items-loop-expr-init
known_items-loop-expr-init t c =
    items_begin c.args.scope.now c.no_items-list.result.values c.no_items-list.result.count c.args.exprs.now c.no_items-list.ensures.values c.no_items-list.ensures.count

pub known_items-loop-expr-preserved : goal.known_items-loop-expr-preserved
known_items-loop-expr-preserved t c =
    items_turn c.args.scope.now c.loop-expr.list.values c.add_item.new.list.values c.loop-expr.list.count c.add_item.new.list.count c.args.exprs.now c.loop-expr.expr-index c.expr-item.result _
    c.expr-item.is c.loop-expr-test.true c.in_ok-item.ensures c.in_ok-add_item.ensures.values c.in_ok-add_item.ensures.count c.loop-expr.invariant
