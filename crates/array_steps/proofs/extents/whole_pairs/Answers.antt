use Rattle.array_steps.proofs.Pairs.{whole}
use Rattle.array_steps.proofs.extents.whole_pairs.Goals as goal

pub returns : goal.returns
returns c = whole c.args.numbers.now
