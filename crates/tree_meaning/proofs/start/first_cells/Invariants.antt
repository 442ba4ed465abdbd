use Rattle.std.proofs.Common.{◌≡◌, take, map}
use Rattle.tree_meaning.specs.Start.{cell_of}
use Rattle.tree_meaning.proofs.start.first_cells.Given as goal

abbrev pub invariant-loop-variable : goal.invariant-loop-variable
invariant-loop-variable l = l.cells.items ≡ map cell_of (take l.variable-index l.variables)
