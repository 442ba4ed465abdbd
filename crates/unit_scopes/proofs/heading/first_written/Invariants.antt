use Rattle.std.proofs.Common.{◌≡◌, drop, map}
use Rattle.fortran_tree.specs.UnitViews.{prefix_spec}
use Rattle.rule_definitions.specs.Units.{types_of}
use Rattle.unit_scopes.specs.Headings.{first_written}
use Rattle.unit_scopes.proofs.heading.first_written.Given as goal

abbrev pub invariant-loop-next : goal.invariant-loop-next
invariant-loop-next l = first_written (types_of (map prefix_spec (drop l.next-index l.prefixes))) ≡ first_written (types_of (map prefix_spec l.prefixes))
