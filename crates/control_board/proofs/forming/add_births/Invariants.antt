use Rattle.std.proofs.Common.{◌≡◌, ◌+◌, ◌++◌, replicate}
use Rattle.std.specs.Prelude.{vec_len, vec_capacity}
use Rattle.control_board.proofs.forming.add_births.Given as goal

abbrev pub invariant-loop : goal.invariant-loop
invariant-loop l = (l.births.items ≡ l.initial.births.items ++ replicate l.counter l.round) × (vec_len l.births ≡ vec_len l.initial.births + l.counter) × (vec_capacity l.births ≡ vec_capacity l.initial.births)
