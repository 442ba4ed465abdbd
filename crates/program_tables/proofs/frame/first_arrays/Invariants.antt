use Rattle.std.proofs.Common.{◌≡◌, take, map}
use Rattle.tree_meaning.specs.Configured.{local_of}
use Rattle.program_tables.specs.Tables.{kept_array}
use Rattle.program_tables.proofs.frame.first_arrays.Given as goal

abbrev pub invariant-loop-array : goal.invariant-loop-array
invariant-loop-array l = l.all.items ≡ map kept_array (map local_of (take l.array-index l.arrays))
