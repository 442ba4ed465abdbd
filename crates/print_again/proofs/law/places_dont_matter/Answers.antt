use Rattle.print_again.proofs.Tokens.{places_dont_matter, places_may_change, canonical_is_read}
use Rattle.print_again.proofs.PrintAgain.{unplaced_is_read}
use Rattle.print_again.proofs.law.places_dont_matter.Goals as goal

pub returns-clause-one : goal.returns-clause-one
returns-clause-one c = places_dont_matter

pub returns-clause-moved : goal.returns-clause-moved
returns-clause-moved c = places_may_change

pub returns-clause-canonical : goal.returns-clause-canonical
returns-clause-canonical c = canonical_is_read

pub returns-clause-unplaced : goal.returns-clause-unplaced
returns-clause-unplaced c = unplaced_is_read
