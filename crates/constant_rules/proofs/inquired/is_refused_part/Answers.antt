use Rattle.std.proofs.Common.{sym, ◌∙◌}
use Rattle.fortran_tree.specs.ExpressionViews.{section_subscripts}
use Rattle.rule_definitions.specs.Declarations.{is_subscript_inquired}
use Rattle.constant_rules.proofs.Lacking.{refused_none}
use Rattle.constant_rules.proofs.inquired.is_refused_part.Goals as goal

pub returns : goal.returns
returns c =
    refused_none _ _ (is_subscript_inquired c.args.scope.now (section_subscripts c.args.subscripts.now)) (sym c.is_called.ensures ∙ c.if-is_called.false) (sym c.names_huge.ensures ∙ c.if-names_huge.false)
