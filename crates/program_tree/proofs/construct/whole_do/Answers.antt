use Rattle.program_tree.proofs.Wholes.{do_whole}
use Rattle.program_tree.proofs.construct.whole_do.Goals as goal

pub returns : goal.returns
returns c = λ es. do_whole c.args.construct c.in-Do.construct c.in-Do.control c.in-Do.at c.args.body c.args.end es c.in-Do.is
