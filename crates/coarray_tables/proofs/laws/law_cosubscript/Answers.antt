use Rattle.coarray_tables.proofs.Agreeing.{cosubscript_agrees}
use Rattle.coarray_tables.proofs.laws.law_cosubscript.Goals as goal

pub returns : goal.returns
returns c = cosubscript_agrees
