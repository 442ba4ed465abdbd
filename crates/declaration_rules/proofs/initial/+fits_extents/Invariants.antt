use Rattle.std.proofs.Common.{length}
use Rattle.declaration_rules.proofs.initial.+fits_extents.Given as goal

abbrev pub decreases-fits_extents : goal.decreases-fits_extents
decreases-fits_extents l = length l.bounds.now
