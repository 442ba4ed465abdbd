use Rattle.std.proofs.Common.{◌∙◌, ◌∷◌}
use Rattle.statement_reader.specs.Parts as f
use Rattle.program_tree.proofs.Wholes.{else_whole, if_whole}
use Rattle.program_tree.proofs.construct.whole_if.Goals as goal

pub returns-in-Else : goal.returns-in-Else
returns-in-Else c = λ es. else_whole c.args.construct c.in-Else.first c.in-Else.at c.args.body c.args.end es c.in-Else.is

pub returns-in_ok-first-in_default : goal.returns-in_ok-first-in_default
returns-in_ok-first-in_default c = λ es. c.in_ok-first-in_default.ensures (f.end_if_part c.args.end ∷ es) ∙ if_whole c.in_ok-first-in_default.first c.args.end es
