use Rattle.crew.specs.Crews.{GoOn}
use Rattle.crew.proofs.worker.run_members.Given as goal

abbrev pub invariant-loop : goal.invariant-loop
invariant-loop g l = GoOn g.M.Walker l.gates.board l.gates.memories.items l.initial.members.items l.members.items
