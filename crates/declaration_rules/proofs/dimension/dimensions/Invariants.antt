use Rattle.std.proofs.Common.{◌≡◌, ◌++◌, drop, map}
use Rattle.rule_definitions.specs.Judgements.{first_of}
use Rattle.declaration_rules.specs.Shapes.{dimensions_asked, known_dimension, asked_dimension}
use Rattle.declaration_rules.proofs.dimension.dimensions.Given as goal

abbrev pub invariant-loop-next : goal.invariant-loop-next
invariant-loop-next l =
    (first_of l.first (dimensions_asked l.allocates (map asked_dimension (drop l.next-index l.written))) ≡ first_of l.initial.first (dimensions_asked l.allocates (map asked_dimension l.written)))
    × (l.all ++ map (λ x. known_dimension l.allocates (asked_dimension x)) (drop l.next-index l.written) ≡ map (λ x. known_dimension l.allocates (asked_dimension x)) l.written)
