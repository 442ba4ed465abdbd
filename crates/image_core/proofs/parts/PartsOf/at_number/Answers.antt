use Rattle.std.proofs.Common.{◌∙◌, sym}
use Rattle.core_runs.specs.Moments.{rules}
use Rattle.image_core.specs.Parts.{moment}
use Rattle.image_core.proofs.Knowing.{none_drawn, one_drawn}
use Rattle.image_core.proofs.parts.PartsOf.at_number.Goals as goal

pub returns-then-outlook-eq0-clause-picked : goal.returns-then-outlook-eq0-clause-picked
returns-then-outlook-eq0-clause-picked g c = none_drawn (rules g.M.Walker g.O.Object g.B.Object) (moment g.M.Walker g.O.Object g.B.Object c.args.self.now) c.look_at_all.new.outlook c.look_at_all.ensures.knows c.in_ok-look_at_all.ensures.all c.if-outlook-eq0.true

pub returns-clause-picked : goal.returns-clause-picked
returns-clause-picked g c = one_drawn (rules g.M.Walker g.O.Object g.B.Object) (moment g.M.Walker g.O.Object g.B.Object c.args.self.now) c.look_at_all.new.outlook c.look_at_all.ensures.knows c.in_ok-look_at_all.ensures.all c.args.number c.candidate_at-image.result c.candidate_at-image.ensures.it

pub returns-clause-can : goal.returns-clause-can
returns-clause-can g c = sym (c.look_at_all.ensures.knows.known c.candidate_at-image.result (c.in_ok-look_at_all.ensures.all c.candidate_at-image.result)) ∙ c.candidate_at-image.ensures.can
