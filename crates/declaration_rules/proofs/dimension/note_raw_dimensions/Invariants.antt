use Rattle.std.proofs.Common.{◌≡◌, ◌&&◌, drop, map}
use Rattle.rule_definitions.specs.Judgements.{first_of, is_nothing}
use Rattle.declaration_rules.specs.Shapes.{raw_dimensions_asked, asked_dimension}
use Rattle.declaration_rules.proofs.dimension.note_raw_dimensions.Given as goal

abbrev pub invariant-loop-next : goal.invariant-loop-next
invariant-loop-next l =
    (first_of l.first (raw_dimensions_asked (map asked_dimension (drop l.next-index l.written))) ≡ first_of l.initial.first (raw_dimensions_asked (map asked_dimension l.written)))
    × ((l.are_clean && is_nothing (raw_dimensions_asked (map asked_dimension (drop l.next-index l.written)))) ≡ is_nothing (raw_dimensions_asked (map asked_dimension l.written)))
