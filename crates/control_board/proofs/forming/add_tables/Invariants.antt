use Rattle.std.proofs.Common.{◌≡◌, ◌+◌, ◌++◌, length}
use Rattle.std.specs.Prelude.{vec_len, vec_capacity}
use Rattle.control_board.proofs.forming.add_tables.Given as goal

abbrev pub invariant-loop-table : goal.invariant-loop-table
invariant-loop-table l = (l.tables.items ≡ l.initial.tables.items ++ l.yielded) × (vec_len l.tables ≡ vec_len l.initial.tables + length l.yielded) × (vec_capacity l.tables ≡ vec_capacity l.initial.tables)
