use Rattle.std.proofs.Common.{subst}
use Rattle.image_turns.specs.Turns.{HasMade}
use Rattle.image_turns.proofs.Staying.{stays_both}
use Rattle.image_turns.proofs.Telling.{made_more}
use Rattle.image_turns.proofs.turns.run_image.Goals as goal

pub returns-in_err-advance-clause-stays : goal.returns-in_err-advance-clause-stays
returns-in_err-advance-clause-stays g c =
    let gates = c.args.gates.now in
    stays_both g.M.Walker gates.board gates.memories.items c.args.run.now c.loop.run c.advance.new.run c.args.passes.now c.loop.passes c.advance.new.passes c.loop.invariant.stays c.advance.ensures.stays

pub returns-then-not-branch-clause-stays : goal.returns-then-not-branch-clause-stays
returns-then-not-branch-clause-stays g c =
    let gates = c.args.gates.now in
    stays_both g.M.Walker gates.board gates.memories.items c.args.run.now c.loop.run c.advance.new.run c.args.passes.now c.loop.passes c.advance.new.passes c.loop.invariant.stays c.advance.ensures.stays

pub loop-preserved : goal.loop-preserved
loop-preserved g c =
    let gates = c.args.gates.now in
    record {
      stays = stays_both g.M.Walker gates.board gates.memories.items c.args.run.now c.loop.run c.advance.new.run c.args.passes.now c.loop.passes c.advance.new.passes c.loop.invariant.stays c.advance.ensures.stays;
      tells = made_more c.args.run.now.events.items c.loop.run.events.items c.advance.new.run.events.items c.loop.moved c.loop.invariant.tells
          (subst (HasMade c.loop.run.events.items c.advance.new.run.events.items) c.if-not-branch.false c.in_ok-advance.ensures.tells);
    }
