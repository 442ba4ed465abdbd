use Rattle.std.proofs.Common.{rules, append_assoc}
use Rattle.std.proofs.lemmas.Result.{IfOk-equal}
use Rattle.fortran_tree.specs.StatementViews.{statement_if}
use Rattle.numbering_rules.proofs.numbering.+literals.Goals as goal

pub add_literals_of-returns-in_ok-add_else_if_literals-in-If :
    goal.add_literals_of-returns-in_ok-add_else_if_literals-in-If
add_literals_of-returns-in_ok-add_else_if_literals-in-If t c = rw (c.in-If.is, statement_if) (search (rules, IfOk-equal, append_assoc))
