use Rattle.std.proofs.Common.{◌≡◌, drop, map}
use Rattle.fortran_tree.specs.UnitViews.{prefix_spec}
use Rattle.rule_definitions.specs.Judgements.{first_of}
use Rattle.rule_definitions.specs.Units.{type_breaks, types_of}
use Rattle.unit_scopes.proofs.heading.judge_prefixes.Given as goal

abbrev pub invariant-loop-next : goal.invariant-loop-next
invariant-loop-next l = first_of l.first (type_breaks l.scope (types_of (map prefix_spec (drop l.next-index l.prefixes)))) ≡ first_of l.initial.first (type_breaks l.scope (types_of (map prefix_spec l.prefixes)))
