use Rattle.std.proofs.Common.{◌≡◌, false, drop, map}
use Rattle.fortran_tree.specs.UnitViews.{prefix_spec}
use Rattle.rule_definitions.specs.Units.{types_of}
use Rattle.unit_scopes.specs.Headings.{is_second}
use Rattle.unit_scopes.proofs.heading.has_second_type.Given as goal

abbrev pub invariant-loop-next : goal.invariant-loop-next
invariant-loop-next l = is_second l.has_one (types_of (map prefix_spec (drop l.next-index l.prefixes))) ≡ is_second false (types_of (map prefix_spec l.prefixes))
