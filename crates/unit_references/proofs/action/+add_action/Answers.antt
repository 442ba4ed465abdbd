use Rattle.std.proofs.Common.{rules, append_assoc}
use Rattle.std.proofs.lemmas.Result.{IfOk-equal}
use Rattle.fortran_tree.specs.ActionViews.{action_if}
use Rattle.unit_references.proofs.action.+add_action.Goals as goal

pub returns-in_ok-add_expr-in-If : goal.returns-in_ok-add_expr-in-If
returns-in_ok-add_expr-in-If t c = rw (c.in-If.is, action_if) (search (rules, IfOk-equal, append_assoc))
