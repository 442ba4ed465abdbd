use Rattle.std.proofs.Common.{ap, ◌∙◌, sym}
use Rattle.checked_tree.specs.ExpressionViews.{form}
use Rattle.rule_definitions.specs.Constants.{is_constant}
use Rattle.constant_rules.proofs.Lacking.{inquirable_variable, inquirable_constant}
use Rattle.constant_rules.proofs.inquired.is_inquirable.Goals as goal

pub returns-then-is_variable : goal.returns-then-is_variable
returns-then-is_variable c =
    inquirable_variable c.args.scope.now (form c.args.meaning.now.form) c.args.meaning.now.of_type c.args.meaning.now.rank (sym c.is_variable.ensures ∙ c.if-is_variable.true)

pub returns : goal.returns
returns c =
    inquirable_constant c.args.scope.now (form c.args.meaning.now.form) c.args.meaning.now.of_type c.args.meaning.now.rank c.is_constant.result (sym c.is_variable.ensures ∙ c.if-is_variable.false)
    (c.is_constant.ensures ∙ ap is_constant c.in_ok-value.ensures)
