use Rattle.std.proofs.Common.{rules, append_assoc}
use Rattle.std.proofs.lemmas.Result.{IfOk-equal}
use Rattle.fortran_tree.specs.ActionViews.{action_print}
use Rattle.numbering_rules.proofs.numbering.+add_action_literals.Goals as goal

pub returns-in_ok-add_format-in-Print : goal.returns-in_ok-add_format-in-Print
returns-in_ok-add_format-in-Print t c = rw (c.in-Print.is, action_print) (search (rules, IfOk-equal, append_assoc))
