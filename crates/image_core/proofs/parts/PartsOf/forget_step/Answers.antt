use Rattle.std.proofs.Common.{sym, ap, ◌∙◌, subst, length}
use Rattle.core_runs.specs.Moments.{item_at, rules}
use Rattle.run_outlook.specs.Outlooks.{IsFiled}
use Rattle.image_core.specs.Parts.{moment}
use Rattle.image_core.proofs.Knowing.{forgot, other_fresh, stepped, stepped_beside}
use Rattle.image_core.proofs.parts.PartsOf.forget_step.Goals as goal

pub returns-then-not-left_others : goal.returns-then-not-left_others
returns-then-not-left_others g c m e s at knows =
    let r = rules g.M.Walker g.O.Object g.B.Object in
    let o = c.forget_image.new.self in
    let o' = c.forget_place.new.self in
    let one = forgot r m c.args.outlook.now knows o c.forget_image.ensures.well c.forget_image.ensures.images c.forget_image.ensures.can c.forget_image.ensures.asks c.forget_image.ensures.files c.forget_image.ensures.kept
    (λ j fresh. c.forget_image.ensures.filed j (other_fresh o.stale.words.items c.args.image.0 j c.forget_image.ensures.stale fresh)) in
    let all = forgot r m o one o' c.forget_place.ensures.well c.forget_place.ensures.images c.forget_place.ensures.can c.forget_place.ensures.asks (ap (λ v. length v.items) c.forget_place.ensures.filed) c.forget_place.ensures.kept
    (λ j fresh q. subst (λ v. IsFiled v.items q j) (sym c.forget_place.ensures.filed)) in
    stepped r m o' all (moment g.M.Walker g.O.Object g.B.Object c.args.self.now) c.args.image.0 e s (c.forget_place.ensures.kept c.args.image.0 c.forget_image.ensures.stale)
    (ap (λ v. item_at v.kept.items c.args.image.0) (c.forget_place.ensures.asks ∙ c.forget_image.ensures.asks) ∙ c.requires.asks) c.args.place at c.forget_place.ensures.forgotten

pub returns-else-not-left_others : goal.returns-else-not-left_others
returns-else-not-left_others g c m e s at knows =
    let r = rules g.M.Walker g.O.Object g.B.Object in
    let o = c.forget_image.new.self in
    let one = forgot r m c.args.outlook.now knows o c.forget_image.ensures.well c.forget_image.ensures.images c.forget_image.ensures.can c.forget_image.ensures.asks c.forget_image.ensures.files c.forget_image.ensures.kept
    (λ j fresh. c.forget_image.ensures.filed j (other_fresh o.stale.words.items c.args.image.0 j c.forget_image.ensures.stale fresh)) in
    stepped_beside r m o one (moment g.M.Walker g.O.Object g.B.Object c.args.self.now) c.args.image.0 e s c.forget_image.ensures.stale
    (ap (λ v. item_at v.kept.items c.args.image.0) c.forget_image.ensures.asks ∙ c.requires.asks) c.args.place at (c.left_others.ensures c.if-not-left_others.false)
