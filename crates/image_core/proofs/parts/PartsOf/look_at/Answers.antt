use Rattle.std.proofs.Common.{◌∙◌, sym, subst}
use Rattle.core_runs.specs.Moments.{rules}
use Rattle.image_core.specs.NextAsks.{AreNextAsks}
use Rattle.image_core.specs.Parts.{moment}
use Rattle.image_core.proofs.Knowing.{learned}
use Rattle.image_core.proofs.parts.PartsOf.look_at.Goals as goal

pub returns-clause-knows : goal.returns-clause-knows
returns-clause-knows g c =
    let r = rules g.M.Walker g.O.Object g.B.Object in
    let m = moment g.M.Walker g.O.Object g.B.Object c.args.self.now in
    learned r m c.args.outlook.now c.requires.knows c.learn.new.self c.args.image.0 c.in_ok-place.place
    c.learn.ensures.well c.learn.ensures.images c.learn.ensures.files (c.learn.ensures.here ∙ c.in_ok-place.ensures.can) c.learn.ensures.others c.learn.ensures.stale c.learn.ensures.filed_here c.learn.ensures.filed c.in_ok-place.ensures.place
    (subst (λ v. AreNextAsks r m v.kept.items) (sym c.learn.ensures.asks) c.look.ensures.asked)
