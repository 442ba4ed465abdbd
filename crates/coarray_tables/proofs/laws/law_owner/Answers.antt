use Rattle.coarray_tables.proofs.Agreeing.{owner_agrees}
use Rattle.coarray_tables.proofs.laws.law_owner.Goals as goal

pub returns : goal.returns
returns c = owner_agrees
