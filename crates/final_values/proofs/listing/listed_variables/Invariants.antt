use Rattle.std.proofs.Common.{◌≡◌, ◌++◌, drop}
use Rattle.checked_tree.specs.StatementViews.{program}
use Rattle.final_values.specs.Listings.{listed_from, listed_of}
use Rattle.final_values.proofs.listing.listed_variables.Given as goal

abbrev pub invariant-loop-place : goal.invariant-loop-place
invariant-loop-place l = l.listed.items ++ listed_from l.checked.coarrays l.place (drop l.place l.checked.main.variables.items) ≡ listed_of (program l.checked)
