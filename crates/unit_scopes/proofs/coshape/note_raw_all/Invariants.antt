use Rattle.std.proofs.Common.{◌≡◌, ◌&&◌, drop, map}
use Rattle.rule_definitions.specs.Judgements.{first_of, is_nothing}
use Rattle.declaration_rules.specs.Bounds.{asked_bounds}
use Rattle.unit_scopes.specs.Coshapes.{raw_all_asked}
use Rattle.unit_scopes.proofs.coshape.note_raw_all.Given as goal

abbrev pub invariant-loop-next : goal.invariant-loop-next
invariant-loop-next l =
    (first_of l.first (raw_all_asked (map asked_bounds (drop l.next-index l.written))) ≡ first_of l.initial.first (raw_all_asked (map asked_bounds l.written)))
    × ((l.are_clean && is_nothing (raw_all_asked (map asked_bounds (drop l.next-index l.written)))) ≡ is_nothing (raw_all_asked (map asked_bounds l.written)))
