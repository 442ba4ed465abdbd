use Rattle.image_turns.specs.Turns.{StaysOn}
use Rattle.image_turns.proofs.turns.run_some.Given as goal

abbrev pub invariant-loop : goal.invariant-loop
invariant-loop g l = StaysOn g.M.Walker l.gates.board l.gates.memories.items l.initial.run l.initial.passes l.run l.passes
