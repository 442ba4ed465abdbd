use Rattle.coarray_tables.proofs.Keeping.{whole}
use Rattle.coarray_tables.proofs.shape.whole.Goals as goal

pub returns : goal.returns
returns c = whole c.args.bounds.now
