use Rattle.std.proofs.Common.{◌≡◌, ◌++◌, drop, map}
use Rattle.fortran_tree.specs.StatementViews as view
use Rattle.unit_references.specs.References as names
use Rattle.unit_references.proofs.statement.add_ranges.Given as goal

abbrev pub invariant-loop-range : goal.invariant-loop-range
invariant-loop-range l = l.refs ++ names.each names.case_range (map view.case_range (drop l.range-index l.ranges)) ≡ l.initial.refs ++ names.each names.case_range (map view.case_range l.ranges)
