use Rattle.std.proofs.Common.{◌≡◌, ◌++◌, ◌-◌}
use Rattle.final_values.specs.Finals.{cells_from}
use Rattle.final_values.proofs.holding.cells.Given as goal

abbrev pub invariant-loop-place : goal.invariant-loop-place
invariant-loop-place l = l.values ++ cells_from l.memory.made l.memory.history l.coarray l.place (l.size - l.place) ≡ cells_from l.memory.made l.memory.history l.coarray 0 l.size
