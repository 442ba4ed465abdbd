use Rattle.accepted_fits.proofs.Programs.{accepted_allocates}
use Rattle.accepted_fits.proofs.laws.law_accepted_allocates.Goals as goal

pub returns : goal.returns
returns c x p accepts coarrays declared = accepted_allocates x p accepts coarrays declared
