use Rattle.std.proofs.Common.{ℕ, ◌<◌}
use Rattle.turn_gate.specs.Gates.{At}
use Rattle.image_turns.specs.Waits.{Waits}
use Rattle.crew.specs.Crews.{GoOn}
use Rattle.crew.specs.declared.member.Member.{Member}
use Rattle.crew.proofs.worker.run_out.Given as goal

abbrev pub invariant-loop-j : goal.invariant-loop-j
invariant-loop-j g l =
    GoOn g.M.Walker l.gates.board l.gates.memories.items l.initial.members.items l.members.items
    × ((k : ℕ) (m : Member g.row.M.Denot) → k < l.j → At l.members.items k m → Waits g.O.Object g.B.Object l.gates.board l.gates.memories.items g.M.Walker m.run m.passes)
