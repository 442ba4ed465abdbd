use Rattle.std.proofs.Common.{sym, ◌∙◌}
use Rattle.fortran_tree.specs.ExpressionViews.{arguments}
use Rattle.rule_definitions.specs.Declarations.{is_argument_inquired}
use Rattle.constant_rules.proofs.Lacking.{refused_none}
use Rattle.constant_rules.proofs.inquired.is_refused_reference.Goals as goal

pub returns : goal.returns
returns c =
    refused_none _ _ (is_argument_inquired c.args.scope.now (arguments c.args.arguments.now)) (sym c.names_function.ensures ∙ c.if-names_function.false) (sym c.names_huge.ensures ∙ c.if-names_huge.false)
