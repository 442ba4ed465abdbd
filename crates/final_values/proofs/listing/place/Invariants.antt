use Rattle.std.proofs.Common.{◌≡◌, drop}
use Rattle.final_values.specs.Listings.{place_from, place_in}
use Rattle.final_values.proofs.listing.place.Given as goal

abbrev pub invariant-loop-place : goal.invariant-loop-place
invariant-loop-place l = place_from l.place (drop l.place l.coarrays) l.variable ≡ place_in l.coarrays l.variable
