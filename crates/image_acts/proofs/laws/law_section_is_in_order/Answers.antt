use Rattle.image_acts.proofs.Sections.{within_in_order}
use Rattle.image_acts.proofs.laws.law_section_is_in_order.Goals as goal

pub returns : goal.returns
returns c = within_in_order
