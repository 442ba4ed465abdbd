use Rattle.std.proofs.Common.{◌≡◌, ◌<◌, ◌++◌, map}
use Rattle.trace_theory.specs.Entries.{Each}
use Rattle.turn_gate.specs.Passes.{kept_known}
use Rattle.turn_gate.proofs.gate.give_all.Given as goal

abbrev pub invariant-loop-pass : goal.invariant-loop-pass
invariant-loop-pass g l =
    ((l.first.table_id ≡ l.initial.first.table_id) × (l.first.id ≡ l.initial.first.id))
    × ((l.first.me.0.images ≡ l.initial.first.me.0.images) × (l.first.me.1 ≡ l.initial.first.me.1))
    × (map kept_known l.passes.items ++ l.first.me.0.kept ≡ map kept_known l.initial.passes.items ++ l.initial.first.me.0.kept)
    × Each (λ p. (p.gate ≡ l.lock.table.shared.table_id) × (0 < p.image)) l.passes.items

abbrev pub decreases-loop-pass : goal.decreases-loop-pass
decreases-loop-pass g l = goal.left-loop-pass g l
