use Rattle.std.proofs.Common.{◌∙◌, sym}
use Rattle.image_core.proofs.Looking.{can_kept}
use Rattle.image_core.proofs.parts.PartsOf.look.Goals as goal

pub returns-in-Some-clause-can : goal.returns-in-Some-clause-can
returns-in-Some-clause-can g c =
    c.place_is_ready.ensures
    ∙ can_kept g.M.Walker g.O.Object g.B.Object c.args.self.now c.args.image.0 c.requires.image.0 c.requires.image.1 c.in_ok-place.place c.in_ok-place.ensures.place c.in-Some.ask.now
    (c.ask_next.ensures.asked.each c.args.image.0 c.in-Some.ask.now c.in-Some.ensures)

pub returns-in-None-clause-can : goal.returns-in-None-clause-can
returns-in-None-clause-can g c = sym (c.in_ok-place.ensures.kept c.in-None.ensures)
