use Rattle.std.proofs.Common.{◌≡◌, take, map}
use Rattle.tree_meaning.specs.Start.{own_in}
use Rattle.tree_meaning.specs.Configured.{own_of}
use Rattle.tree_meaning.proofs.start.first_coarrays.Given as goal

abbrev pub invariant-loop-coarray : goal.invariant-loop-coarray
invariant-loop-coarray l = map own_of l.all.items ≡ map (own_in l.variables) (take l.coarray-index l.coarrays)
