use Rattle.std.proofs.Common.{rules, append_assoc}
use Rattle.std.proofs.lemmas.Result.{IfOk-equal}
use Rattle.fortran_tree.specs.ExpressionViews.{expression_function_reference, expression_binary, designator_is, image_selector_is, section_subscript_triplet}
use Rattle.unit_references.proofs.Behind.{chain_names}
use Rattle.unit_references.proofs.expr.+expression.Goals as goal

pub add_expr-returns-in_ok-add_name-in-FunctionReference : goal.add_expr-returns-in_ok-add_name-in-FunctionReference
add_expr-returns-in_ok-add_name-in-FunctionReference t c = rw (c.in-FunctionReference.is, expression_function_reference) (search (rules, IfOk-equal, append_assoc))

pub add_expr-returns-in_ok-add_expr-in-Binary-2 : goal.add_expr-returns-in_ok-add_expr-in-Binary-2
add_expr-returns-in_ok-add_expr-in-Binary-2 t c = rw (c.in-Binary.is, expression_binary, chain_names) (search (rules, IfOk-equal, append_assoc))

pub add_designator-returns : goal.add_designator-returns
add_designator-returns t c = rw (designator_is) (search (rules, IfOk-equal, append_assoc))

pub add_selector-returns-in_ok-add_exprs-in-Some : goal.add_selector-returns-in_ok-add_exprs-in-Some
add_selector-returns-in_ok-add_exprs-in-Some t c = rw (c.in-Some.is, image_selector_is) (search (rules, IfOk-equal, append_assoc))

pub add_subscript-returns-in_ok-add_part-in-Triplet-2 : goal.add_subscript-returns-in_ok-add_part-in-Triplet-2
add_subscript-returns-in_ok-add_part-in-Triplet-2 t c = rw (c.in-Triplet.is, section_subscript_triplet) (search (rules, IfOk-equal, append_assoc))
