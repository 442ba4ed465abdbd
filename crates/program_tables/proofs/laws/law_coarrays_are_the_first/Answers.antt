use Rattle.program_tables.proofs.Kept.{owns_are}
use Rattle.program_tables.proofs.laws.law_coarrays_are_the_first.Goals as goal

pub returns : goal.returns
returns c = owns_are
