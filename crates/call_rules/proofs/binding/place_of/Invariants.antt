use Rattle.std.proofs.Common.{◌≡◌, drop, map}
use Rattle.call_rules.specs.Bindings.{binding_seen, place_from}
use Rattle.call_rules.proofs.binding.place_of.Given as goal

abbrev pub invariant-loop-place : goal.invariant-loop-place
invariant-loop-place l = place_from l.place (map binding_seen (drop l.place l.bindings)) l.number ≡ place_from 0 (map binding_seen l.bindings) l.number
