use Rattle.std.proofs.Common.{◌≤◌, length}
use Rattle.unit_names.proofs.levels.staying.Given as goal

abbrev pub invariant-loop : goal.invariant-loop
invariant-loop l = l.count ≤ length l.levels
