use Rattle.std.proofs.Common.{◌≡◌, ◌++◌, drop, map}
use Rattle.fortran_tree.specs.UnitViews as view
use Rattle.unit_references.specs.References as names
use Rattle.unit_references.proofs.unit.add_prefixes.Given as goal

abbrev pub invariant-loop-prefix : goal.invariant-loop-prefix
invariant-loop-prefix l = l.refs ++ names.each names.prefix_spec (map view.prefix_spec (drop l.prefix-index l.prefixes)) ≡ l.initial.refs ++ names.each names.prefix_spec (map view.prefix_spec l.prefixes)
