use Rattle.wait_chain.proofs.Tellings.{members_told}
use Rattle.wait_chain.proofs.laws.law_members_told.Goals as goal

pub returns : goal.returns
returns c coarrays n t class team round i lawful joined = members_told coarrays n t lawful class team round i joined
