use Rattle.crew.specs.Crews.{GoOn}
use Rattle.crew.proofs.worker.run_round.Given as goal

abbrev pub invariant-loop-j : goal.invariant-loop-j
invariant-loop-j g l = GoOn g.M.Walker l.gates.board l.gates.memories.items l.initial.members.items l.members.items
