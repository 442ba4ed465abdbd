use Rattle.std.proofs.Common.{◌≡◌, replicate}
use Rattle.control_board.specs.Values.{no_values}
use Rattle.control_board.proofs.forming.new_tables.Given as goal

abbrev pub invariant-loop : goal.invariant-loop
invariant-loop l = l.tables.items ≡ replicate l.counter (replicate l.n no_values)
