use Rattle.std.proofs.Common.{◌≡◌, replicate}
use Rattle.control_board.specs.Values.{no_values}
use Rattle.control_board.proofs.brought.Table.new.Given as goal

abbrev pub invariant-loop : goal.invariant-loop
invariant-loop l = l.rows.items ≡ replicate (l.counter) no_values
