use Rattle.image_turns.proofs.Staying.{stays_both, stays_same}
use Rattle.image_turns.proofs.turns.run_some.Goals as goal

pub loop-init : goal.loop-init
loop-init g c = stays_same g.M.Walker c.args.gates.now.board c.args.gates.now.memories.items c.args.run.now c.args.passes.now c.requires.passes

pub returns-in_err-advance : goal.returns-in_err-advance
returns-in_err-advance g c =
    let gates = c.args.gates.now in
    record { stays = stays_both g.M.Walker gates.board gates.memories.items c.args.run.now c.loop.run c.advance.new.run c.args.passes.now c.loop.passes c.advance.new.passes c.loop.invariant c.advance.ensures.stays }

pub returns-then-not-branch : goal.returns-then-not-branch
returns-then-not-branch g c =
    let gates = c.args.gates.now in
    record { stays = stays_both g.M.Walker gates.board gates.memories.items c.args.run.now c.loop.run c.advance.new.run c.args.passes.now c.loop.passes c.advance.new.passes c.loop.invariant c.advance.ensures.stays }

pub returns-then-waits : goal.returns-then-waits
returns-then-waits g c =
    let gates = c.args.gates.now in
    record { stays = stays_both g.M.Walker gates.board gates.memories.items c.args.run.now c.loop.run c.advance.new.run c.args.passes.now c.loop.passes c.advance.new.passes c.loop.invariant c.advance.ensures.stays }

pub loop-preserved : goal.loop-preserved
loop-preserved g c =
    let gates = c.args.gates.now in
    stays_both g.M.Walker gates.board gates.memories.items c.args.run.now c.loop.run c.advance.new.run c.args.passes.now c.loop.passes c.advance.new.passes c.loop.invariant c.advance.ensures.stays
