use Rattle.program_tree.proofs.Wholes.{critical_whole}
use Rattle.program_tree.proofs.construct.whole_critical.Goals as goal

pub returns : goal.returns
returns c = λ es. critical_whole c.args.construct c.in-Critical.specifier c.in-Critical.at c.args.body c.args.end es c.in-Critical.is
