use Rattle.std.proofs.Common.{◌≡◌, take, Option}
use Rattle.std.specs.Prelude.{sum_by}
use Rattle.tree_meaning.specs.declared.start.OwnCoarray.{OwnCoarray}
use Rattle.tree_meaning.specs.Start.{own_size}
use Rattle.tree_meaning.specs.Configured.{own_of}
use Rattle.tree_meaning.proofs.start.sum_of_coarrays.Given as goal

abbrev pub invariant-loop-coarray : goal.invariant-loop-coarray
invariant-loop-coarray l = l.total ≡ sum_by (λ (x : Option OwnCoarray). own_size (own_of x)) (take l.coarray-index l.coarrays)
