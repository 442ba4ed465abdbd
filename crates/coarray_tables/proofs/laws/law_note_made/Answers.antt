use Rattle.coarray_tables.proofs.Agreeing.{note_agrees}
use Rattle.coarray_tables.proofs.laws.law_note_made.Goals as goal

pub returns : goal.returns
returns c = note_agrees
