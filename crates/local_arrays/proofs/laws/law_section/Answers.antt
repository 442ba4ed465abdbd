use Rattle.local_arrays.proofs.CoreLaws.{section_agrees}
use Rattle.local_arrays.proofs.laws.law_section.Goals as goal

pub returns : goal.returns
returns c = section_agrees
