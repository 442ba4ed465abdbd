use Rattle.told_parts.proofs.Rounds.{pairs_safe}
use Rattle.told_parts.proofs.Allocations.{allocating_safe, deallocating_safe}
use Rattle.told_parts.proofs.laws.law_parts_name_told.Goals as goal

pub returns-clause-images : goal.returns-clause-images
returns-clause-images c rest h = (pairs_safe rest (record { names = h })).names

pub returns-clause-allocate : goal.returns-clause-allocate
returns-clause-allocate c xs n rest h = (allocating_safe xs n rest (record { names = h })).names

pub returns-clause-deallocate : goal.returns-clause-deallocate
returns-clause-deallocate c xs rest h = (deallocating_safe xs rest (record { names = h })).names
