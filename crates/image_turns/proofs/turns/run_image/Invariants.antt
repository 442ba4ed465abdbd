use Rattle.image_turns.specs.Turns.{HasMade, StaysOn}
use Rattle.image_turns.proofs.turns.run_image.Given as goal

abbrev pub invariant-loop : goal.invariant-loop
invariant-loop g l =
    record {
      stays : StaysOn g.M.Walker l.gates.board l.gates.memories.items l.initial.run l.initial.passes l.run l.passes;
      tells : HasMade l.initial.run.events.items l.run.events.items l.moved;
    }
