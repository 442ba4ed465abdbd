use Rattle.std.proofs.Common.{◌≡◌, ◌≤◌, drop}
use Rattle.rule_definitions.specs.Constants.{all_bounds}
use Rattle.unit_scopes.specs.Limits.{cells_from}
use Rattle.unit_scopes.proofs.limit.cells_between.Given as goal

abbrev pub invariant-loop-next : goal.invariant-loop-next
invariant-loop-next l = (cells_from l.all (all_bounds (drop l.next-index l.bounds)) ≡ cells_from 1 (all_bounds l.bounds)) × (l.all ≤ 65537)
