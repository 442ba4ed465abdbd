use Rattle.std.proofs.Common.{subst}
use Rattle.image_core.specs.Prepared.{move_of, AsksAt}
use Rattle.image_core.proofs.Readiness.{at_place}
use Rattle.image_turns.proofs.Staying.{stays_alone}
use Rattle.image_turns.proofs.Waiting.{waits_nowhere}
use Rattle.caf_base.specs.declared.place.Place.{Place}
use Rattle.caf_base.specs.declared.place.Place.TheVariants as places
use Rattle.image_turns.proofs.turns.advance.Goals as goal

pub returns-in-Ask-Own-clause-stays : goal.returns-in-Ask-Own-clause-stays
returns-in-Ask-Own-clause-stays g c =
    let gates = c.args.gates.now in
    let move = move_of g.M.Walker c.args.run.now in
    stays_alone g.M.Walker gates.board gates.memories.items c.args.run.now c.step_alone.new.run c.args.passes.now
    (subst (λ q. AsksAt q move) c.in-Ask-Own.field-0-is (at_place move c.in-Ask-Own.field-0 c.in-Ask-Own.ensures)) c.step_alone.ensures.image c.step_alone.ensures.alone c.requires.passes

pub returns-in-Ask-Memory-2-clause-waits : goal.returns-in-Ask-Memory-2-clause-waits
returns-in-Ask-Memory-2-clause-waits g c same =
    let gates = c.args.gates.now in
    let move = move_of g.M.Walker c.args.run.now in
    let q : Place = places.Memory c.in-Ask-Memory.owner in
    waits_nowhere g.O.Object g.B.Object gates.board gates.memories.items g.M.Walker c.args.run.now c.args.passes.now q
    (subst (λ p. AsksAt p move) c.in-Ask-Memory.field-0-is (at_place move c.in-Ask-Memory.field-0 c.in-Ask-Memory.ensures)) (λ e. absurd (cc))
    (λ there. absurd (let t = c.serves.ensures.1 there in let f = c.if-serves.false in cc))
