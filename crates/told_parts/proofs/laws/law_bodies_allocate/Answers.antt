use Rattle.told_parts.proofs.AllocatingWalks.{start_so}
use Rattle.told_parts.proofs.laws.law_bodies_allocate.Goals as goal

pub returns : goal.returns
returns c f procedures limit line first acts = start_so f procedures limit acts line first
