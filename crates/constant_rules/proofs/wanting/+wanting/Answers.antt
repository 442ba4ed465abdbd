use Rattle.std.proofs.Common.{ap, sym, ◌∙◌}
use Rattle.std.proofs.lemmas.Result.{IfOk-weaker}
use Rattle.fortran_tree.specs.ExpressionViews.{expression, expression_binary}
use Rattle.rule_definitions.specs.Declarations.{lacks_value}
use Rattle.constant_rules.specs.Wanting.{link_lacks_value}
use Rattle.constant_rules.proofs.Lacking.{links_left}
use Rattle.constant_rules.proofs.wanting.+wanting.Goals as goal

pub lacks_value-returns-else-branch-3 : goal.lacks_value-returns-else-branch-3
lacks_value-returns-else-branch-3 t c =
    let s = c.args.scope.now in
    let w = c.in-Binary in
    IfOk-weaker c.link_lacks_value.result _ _
    (λ r e. links_left s w.links.items w.at w.operator (expression w.left.value) (expression w.right.value) _ r
    (ap expression w.is ∙ expression_binary w.operator w.left w.right w.links w.at)
    (sym (c.in_ok-lacks_value-in-Binary.ensures ∙ ap (λ x. lacks_value s (expression x)) c.deref-in-Binary.ensures) ∙ c.if-branch-2.false)
    (sym (c.in_ok-lacks_value-in-Binary-2.ensures ∙ ap (λ x. lacks_value s (expression x)) c.deref-in-Binary-2.ensures) ∙ c.if-branch-3.false)
    (e ∙ ap (link_lacks_value s) c.deref-in-Binary-3.ensures.value))
    c.link_lacks_value.ensures
