use Rattle.coarray_tables.proofs.Agreeing.{freed_agrees}
use Rattle.coarray_tables.proofs.laws.law_note_freed.Goals as goal

pub returns : goal.returns
returns c = freed_agrees
