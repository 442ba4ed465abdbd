use Rattle.std.proofs.Common.{◌≡◌, take, map}
use Rattle.tree_meaning.specs.Start.{array_of}
use Rattle.tree_meaning.specs.Configured.{local_of}
use Rattle.tree_meaning.proofs.start.variable_arrays.Given as goal

abbrev pub invariant-loop-variable : goal.invariant-loop-variable
invariant-loop-variable l = map local_of l.arrays.items ≡ map array_of (take l.variable-index l.variables)
