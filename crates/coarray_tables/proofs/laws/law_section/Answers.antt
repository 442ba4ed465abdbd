use Rattle.coarray_tables.proofs.Agreeing.{section_agrees}
use Rattle.coarray_tables.proofs.laws.law_section.Goals as goal

pub returns : goal.returns
returns c = section_agrees
