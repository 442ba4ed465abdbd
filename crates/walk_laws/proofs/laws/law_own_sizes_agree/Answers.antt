use Rattle.walk_laws.proofs.OwnSizes.{own_size_there}
use Rattle.walk_laws.proofs.laws.law_own_sizes_agree.Goals as goal

pub returns : goal.returns
returns c p coarrays n t own lawful i k low = own_size_there coarrays n p own t lawful i k low
