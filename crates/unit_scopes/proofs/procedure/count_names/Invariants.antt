use Rattle.std.proofs.Common.{◌≡◌, ◌+◌, drop, length}
use Rattle.scope_table.specs.Pending.{declared_names}
use Rattle.unit_scopes.proofs.procedure.count_names.Given as goal

abbrev pub invariant-loop-next : goal.invariant-loop-next
invariant-loop-next l = l.count + length (declared_names (drop l.next-index l.declarations)) ≡ length (declared_names l.declarations)
