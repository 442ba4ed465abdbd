use Rattle.std.proofs.Common.{◌≡◌, take, map, ◌++◌}
use Rattle.tree_meaning.specs.Start.{constant_array}
use Rattle.tree_meaning.specs.Configured.{local_of}
use Rattle.tree_meaning.proofs.start.with_constants.Given as goal

abbrev pub invariant-loop-constant : goal.invariant-loop-constant
invariant-loop-constant l = map local_of l.arrays.items ≡ map local_of l.initial.arrays.items ++ map constant_array (take l.constant-index l.constants)
