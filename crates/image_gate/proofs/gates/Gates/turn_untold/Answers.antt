use Rattle.image_gate.proofs.Turning.{still_of}
use Rattle.image_gate.proofs.gates.Gates.turn_untold.Goals as goal

pub returns-in-Memory-clause-passes : goal.returns-in-Memory-clause-passes
returns-in-Memory-clause-passes g c =
    still_of g.O.Object c.args.self.now.board c.args.self.now.memories.items c.args.passes.now.board.image _ c.args.passes.now.board _ c.args.passes.now.memories.items _ _ _ _ _ c.requires.passes c.turn_at_memory.ensures.board c.turn_at_memory.ensures.memory
