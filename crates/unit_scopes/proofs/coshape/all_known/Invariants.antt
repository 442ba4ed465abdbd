use Rattle.std.proofs.Common.{◌≡◌, ◌++◌, drop}
use Rattle.std.specs.Option.{option_map}
use Rattle.rule_definitions.specs.Constants.{all_bounds}
use Rattle.unit_scopes.proofs.coshape.all_known.Given as goal

abbrev pub invariant-loop-next : goal.invariant-loop-next
invariant-loop-next l = option_map (λ k. l.all ++ k) (all_bounds (drop l.next-index l.bounds)) ≡ all_bounds l.bounds
