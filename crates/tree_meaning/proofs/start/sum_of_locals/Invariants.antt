use Rattle.std.proofs.Common.{◌≡◌, take}
use Rattle.std.specs.Prelude.{sum_by}
use Rattle.tree_meaning.specs.Environment.{local_cells_of}
use Rattle.tree_meaning.proofs.start.sum_of_locals.Given as goal

abbrev pub invariant-loop-variable : goal.invariant-loop-variable
invariant-loop-variable l = l.total ≡ sum_by local_cells_of (take l.variable-index l.variables)
