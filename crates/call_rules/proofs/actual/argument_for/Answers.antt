use Rattle.std.proofs.Common.{ap, sym, ◌∙◌}
use Rattle.checked_tree.specs.ExpressionViews.{argument, argument_value, expression}
use Rattle.checked_tree.specs.declared.expr.Argument.TheVariants as arguments
use Rattle.checked_tree.specs.declared.expr.TypedExpr.{roll-TypedExpr}
use Rattle.call_rules.specs.Pairs.{argument_as}
use Rattle.call_rules.proofs.Values.{value_form}
use Rattle.call_rules.proofs.actual.argument_for.Goals as goal

pub returns-in_default : goal.returns-in_default
returns-in_default c =
    ap (λ f. argument (arguments.Value (roll-TypedExpr (record { form = f; of_type = c.args.value.of_type; rank = c.args.value.rank })))) c.into_form.ensures
    ∙ argument_value c.args.value
    ∙ sym (value_form c.args.value.form c.args.value.of_type c.args.value.rank (λ d e. c.in_default.not-Designator d (c.into_form.ensures ∙ e)))
    ∙ ap (λ b. argument_as b (expression c.args.value)) (sym c.if-takes_value.false)
