use Rattle.std.proofs.Common.{◌≡◌, ◌∙◌, [], ◌∷◌, OnOk, ap, rules}
use Rattle.std.proofs.lemmas.Result.{on_ok_weaker}
use Rattle.checked_tree.specs.declared.expr.WrittenOrder.TheVariants as orders
use Rattle.checked_tree.specs.Expressions as tree
use Rattle.checked_tree.specs.ExpressionViews as view
use Rattle.checked_tree.specs.ExpressionViews.{form_arithmetic, form_logic, result_variable_is, intrinsic_size, intrinsic_lbound, intrinsic_ubound, intrinsic_get_team}
use Rattle.image_acts.specs.Acts as a
use Rattle.image_acts.specs.Acts.{bounded}
use Rattle.tree_meaning.specs.Sequences.{◌▸◌, doing}
use Rattle.tree_meaning.specs.Expressions.{expression, optional}
use Rattle.expr_code.specs.Drafts.{written}
use Rattle.expr_code.specs.Environments.{environment}
use Rattle.expr_code.specs.Functions.{extent_by, team_of_level, bounds_of_array}
use Rattle.expr_code.proofs.Forms.{written_arithmetic, written_logic, result_placed}
use Rattle.expr_code.proofs.Functions.{size_written, lbound_written, ubound_written, get_team_written, of_function}
use Rattle.expr_code.proofs.expr.+expression.Goals as goal

pub push_expr-returns-in_ok-push_expr-in-Arithmetic-2 : goal.push_expr-returns-in_ok-push_expr-in-Arithmetic-2
push_expr-returns-in_ok-push_expr-in-Arithmetic-2 t c = rw (c.in-Arithmetic.is, form_arithmetic, written_arithmetic) (search (rules, on_ok_weaker))

pub push_expr-returns-in_ok-push_expr-in-Logic-2 : goal.push_expr-returns-in_ok-push_expr-in-Logic-2
push_expr-returns-in_ok-push_expr-in-Logic-2 t c = rw (c.in-Logic.is, form_logic, written_logic) (search (rules, on_ok_weaker))

pub push_result_place-returns : goal.push_result_place-returns
push_result_place-returns t c = rw (result_variable_is, result_placed) (search (rules, on_ok_weaker))

pub push_intrinsic-returns-in_ok-push_optional-in-Same-order-1 : goal.push_intrinsic-returns-in_ok-push_optional-in-Same-order-1
push_intrinsic-returns-in_ok-push_optional-in-Same-order-1 t c =
    let e = environment c.args.env.now in
    let x = view.expression c.in-Size.array.value in
    let y = view.optional_expression c.in-Size.dim in
    let same : view.intrinsic c.args.intrinsic.now ≡ tree.size x y orders.Same = ap view.intrinsic c.in-Size.is ∙ intrinsic_size _ _ _ ∙ ap (λ o. tree.size x y o) c.in-Same-order-1.is in
    let done : OnOk c.push_extent.result (c.push_extent.new.draft ≡ written c.args.line (bounds_of_array e x ▸ optional e y ▸ extent_by y) c.args.draft.now) = search (rules, on_ok_weaker) in
    on_ok_weaker c.push_extent.result (of_function e _ (tree.size x y orders.Same) c.args.kind c.args.line (bounds_of_array e x ▸ optional e y ▸ extent_by y) c.args.draft.now _ same (size_written e x y orders.Same c.args.kind c.args.line c.args.draft.now)) done

pub push_intrinsic-returns-in_ok-push_bounds-in-Reversed-order-1 : goal.push_intrinsic-returns-in_ok-push_bounds-in-Reversed-order-1
push_intrinsic-returns-in_ok-push_bounds-in-Reversed-order-1 t c =
    let e = environment c.args.env.now in
    let x = view.expression c.in-Size.array.value in
    let y = view.optional_expression c.in-Size.dim in
    let same : view.intrinsic c.args.intrinsic.now ≡ tree.size x y orders.Reversed = ap view.intrinsic c.in-Size.is ∙ intrinsic_size _ _ _ ∙ ap (λ o. tree.size x y o) c.in-Reversed-order-1.is in
    let done : OnOk c.push_extent-in-Reversed-order-1.result (c.push_extent-in-Reversed-order-1.new.draft ≡ written c.args.line (optional e y ▸ bounds_of_array e x ▸ extent_by y) c.args.draft.now) = search (rules, on_ok_weaker) in
    on_ok_weaker c.push_extent-in-Reversed-order-1.result (of_function e _ (tree.size x y orders.Reversed) c.args.kind c.args.line (optional e y ▸ bounds_of_array e x ▸ extent_by y) c.args.draft.now _ same (size_written e x y orders.Reversed c.args.kind c.args.line c.args.draft.now)) done

pub push_intrinsic-returns-in_ok-push_expr-in-Same-order-2 : goal.push_intrinsic-returns-in_ok-push_expr-in-Same-order-2
push_intrinsic-returns-in_ok-push_expr-in-Same-order-2 t c =
    let e = environment c.args.env.now in
    let x = view.expression c.in-Lbound.array.value in
    let y = view.expression c.in-Lbound.dim.value in
    let same : view.intrinsic c.args.intrinsic.now ≡ tree.lbound x y orders.Same = ap view.intrinsic c.in-Lbound.is ∙ intrinsic_lbound _ _ _ ∙ ap (λ o. tree.lbound x y o) c.in-Same-order-2.is in
    let done : OnOk c.push-in-Same-order-2.result (c.push-in-Same-order-2.new.self ≡ written c.args.line (bounds_of_array e x ▸ expression e y ▸ doing (bounded a.lower_bound ∷ [])) c.args.draft.now) = search (rules, on_ok_weaker) in
    on_ok_weaker c.push-in-Same-order-2.result (of_function e _ (tree.lbound x y orders.Same) c.args.kind c.args.line (bounds_of_array e x ▸ expression e y ▸ doing (bounded a.lower_bound ∷ [])) c.args.draft.now _ same (lbound_written e x y orders.Same c.args.kind c.args.line c.args.draft.now)) done

pub push_intrinsic-returns-in_ok-push_bounds-in-Reversed-order-2 : goal.push_intrinsic-returns-in_ok-push_bounds-in-Reversed-order-2
push_intrinsic-returns-in_ok-push_bounds-in-Reversed-order-2 t c =
    let e = environment c.args.env.now in
    let x = view.expression c.in-Lbound.array.value in
    let y = view.expression c.in-Lbound.dim.value in
    let same : view.intrinsic c.args.intrinsic.now ≡ tree.lbound x y orders.Reversed = ap view.intrinsic c.in-Lbound.is ∙ intrinsic_lbound _ _ _ ∙ ap (λ o. tree.lbound x y o) c.in-Reversed-order-2.is in
    let done : OnOk c.push-in-Reversed-order-2.result (c.push-in-Reversed-order-2.new.self ≡ written c.args.line (expression e y ▸ bounds_of_array e x ▸ doing (bounded a.lower_bound ∷ [])) c.args.draft.now) = search (rules, on_ok_weaker) in
    on_ok_weaker c.push-in-Reversed-order-2.result (of_function e _ (tree.lbound x y orders.Reversed) c.args.kind c.args.line (expression e y ▸ bounds_of_array e x ▸ doing (bounded a.lower_bound ∷ [])) c.args.draft.now _ same (lbound_written e x y orders.Reversed c.args.kind c.args.line c.args.draft.now)) done

pub push_intrinsic-returns-in_ok-push_expr-in-Same-order-3 : goal.push_intrinsic-returns-in_ok-push_expr-in-Same-order-3
push_intrinsic-returns-in_ok-push_expr-in-Same-order-3 t c =
    let e = environment c.args.env.now in
    let x = view.expression c.in-Ubound.array.value in
    let y = view.expression c.in-Ubound.dim.value in
    let same : view.intrinsic c.args.intrinsic.now ≡ tree.ubound x y orders.Same = ap view.intrinsic c.in-Ubound.is ∙ intrinsic_ubound _ _ _ ∙ ap (λ o. tree.ubound x y o) c.in-Same-order-3.is in
    let done : OnOk c.push-in-Same-order-3.result (c.push-in-Same-order-3.new.self ≡ written c.args.line (bounds_of_array e x ▸ expression e y ▸ doing (bounded a.upper_bound ∷ [])) c.args.draft.now) = search (rules, on_ok_weaker) in
    on_ok_weaker c.push-in-Same-order-3.result (of_function e _ (tree.ubound x y orders.Same) c.args.kind c.args.line (bounds_of_array e x ▸ expression e y ▸ doing (bounded a.upper_bound ∷ [])) c.args.draft.now _ same (ubound_written e x y orders.Same c.args.kind c.args.line c.args.draft.now)) done

pub push_intrinsic-returns-in_ok-push_bounds-in-Reversed-order-3 : goal.push_intrinsic-returns-in_ok-push_bounds-in-Reversed-order-3
push_intrinsic-returns-in_ok-push_bounds-in-Reversed-order-3 t c =
    let e = environment c.args.env.now in
    let x = view.expression c.in-Ubound.array.value in
    let y = view.expression c.in-Ubound.dim.value in
    let same : view.intrinsic c.args.intrinsic.now ≡ tree.ubound x y orders.Reversed = ap view.intrinsic c.in-Ubound.is ∙ intrinsic_ubound _ _ _ ∙ ap (λ o. tree.ubound x y o) c.in-Reversed-order-3.is in
    let done : OnOk c.push-in-Reversed-order-3.result (c.push-in-Reversed-order-3.new.self ≡ written c.args.line (expression e y ▸ bounds_of_array e x ▸ doing (bounded a.upper_bound ∷ [])) c.args.draft.now) = search (rules, on_ok_weaker) in
    on_ok_weaker c.push-in-Reversed-order-3.result (of_function e _ (tree.ubound x y orders.Reversed) c.args.kind c.args.line (expression e y ▸ bounds_of_array e x ▸ doing (bounded a.upper_bound ∷ [])) c.args.draft.now _ same (ubound_written e x y orders.Reversed c.args.kind c.args.line c.args.draft.now)) done

pub push_intrinsic-returns-in-GetTeam : goal.push_intrinsic-returns-in-GetTeam
push_intrinsic-returns-in-GetTeam t c =
    let e = environment c.args.env.now in
    let x = view.optional_expression c.in-GetTeam.level in
    let same : view.intrinsic c.args.intrinsic.now ≡ tree.get_team x = ap view.intrinsic c.in-GetTeam.is ∙ intrinsic_get_team _ in
    on_ok_weaker c.push_team_of_level.result
    (of_function e _ (tree.get_team x) c.args.kind c.args.line (team_of_level e x) c.args.draft.now _ same (ap (λ p. written c.args.line p c.args.draft.now) (get_team_written e x c.args.kind)))
    c.push_team_of_level.ensures
