use Rattle.std.proofs.Common.{◌≡◌, ◌++◌, drop, map}
use Rattle.rule_definitions.specs.Judgements.{first_of}
use Rattle.declaration_rules.specs.Bounds.{asked_bounds}
use Rattle.unit_scopes.specs.Coshapes.{cobounds_breaks, known_cobounds}
use Rattle.unit_scopes.proofs.coshape.known_all.Given as goal

abbrev pub invariant-loop-next : goal.invariant-loop-next
invariant-loop-next l =
    (first_of l.first (cobounds_breaks (map asked_bounds (drop l.next-index l.written))) ≡ first_of l.initial.first (cobounds_breaks (map asked_bounds l.written)))
    × (l.all ++ map known_cobounds (map asked_bounds (drop l.next-index l.written)) ≡ map known_cobounds (map asked_bounds l.written))
