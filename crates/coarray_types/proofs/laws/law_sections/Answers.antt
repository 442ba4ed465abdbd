use Rattle.coarray_types.proofs.SectionLemmas.{section_places, section_wide}
use Rattle.coarray_types.proofs.laws.law_sections.Goals as goal

pub returns-clause-cells : goal.returns-clause-cells
returns-clause-cells c = section_places

pub returns-clause-wide : goal.returns-clause-wide
returns-clause-wide c = section_wide 1
