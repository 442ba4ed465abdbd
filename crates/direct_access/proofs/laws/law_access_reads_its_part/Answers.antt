use Rattle.direct_access.proofs.Reading.{access_law}
use Rattle.direct_access.proofs.laws.law_access_reads_its_part.Goals as goal

pub returns : goal.returns
returns c = access_law
