use Rattle.std.proofs.Common.{◌≡◌, ◌∙◌, ap, sym, subst}
use Rattle.caf_events.specs.Walkers.{IsAtAsk}
use Rattle.caf_events.proofs.Walking.{at_ask}
use Rattle.caf_events.specs.declared.reply.Reply.TheVariants as replies
use Rattle.image_core.specs.Prepared.{move_of}
use Rattle.image_core.proofs.direct.step_alone.Goals as goal

pub make_room-requires : goal.make_room-requires
make_room-requires g c = at_ask (move_of g.M.Walker c.args.run.now) c.in-Some.ask.now (c.requires.kept.asked c.in-Some.ask.now c.in-Some.ensures)

pub line-requires : goal.line-requires
line-requires g c =
    subst (λ d. IsAtAsk (g.M.Walker.step d)) (sym c.make_room.ensures.machine)
    (at_ask (move_of g.M.Walker c.args.run.now) c.in-Some.ask.now (c.requires.kept.asked c.in-Some.ask.now c.in-Some.ensures))

pub take-requires-in-Ok-clause-hears : goal.take-requires-in-Ok-clause-hears
take-requires-in-Ok-clause-hears g c =
    let hears = c.requires.hears c.in-Some.ask.now (c.requires.kept.asked c.in-Some.ask.now c.in-Some.ensures) in
    let reply : c.new-event.result.reply ≡ replies.Done = ap (λ e. e.reply) c.new-event.ensures ∙ ap (λ t. t.reply) c.in-Ok.ensures in
    subst (g.M.Walker.hears (g.M.Walker.config c.make_room.new.self.machine)) (sym reply) (subst (λ d. g.M.Walker.hears d replies.Done) (sym c.make_room.ensures.machine) hears)
