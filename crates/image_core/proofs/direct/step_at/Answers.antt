use Rattle.caf_events.proofs.Walking.{at_ask}
use Rattle.image_core.specs.Prepared.{move_of}
use Rattle.image_core.proofs.direct.step_at.Goals as goal

pub make_room-requires : goal.make_room-requires
make_room-requires g c = at_ask (move_of g.M.Walker c.args.run.now) c.in-Some.ask.now (c.requires.kept.asked c.in-Some.ask.now c.in-Some.ensures)
