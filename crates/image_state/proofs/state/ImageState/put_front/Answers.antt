use Rattle.std.proofs.Common.{◌∙◌, ◌+◌, ap, refl, w64}
use Rattle.std.proofs.lemmas.Int.{to_z-of_z}
use Rattle.image_stores.specs.Rows.{Held, set_first}
use Rattle.image_state.specs.Kept.{Kept, main_with, beside_of}
use Rattle.image_state.specs.contracts.state.ImageState.{the_view}
use Rattle.image_state.proofs.Frames.{front_put}
use Rattle.image_state.proofs.state.ImageState.put_front.Goals as goal

pub returns : goal.returns
returns c =
    let k : Kept = the_view c.self.inside in
    front_put c.self.inside.values.values c.self.inside.frames.rows c.set.new.self.rows (main_with c.self.inside.main.items c.self.inside.main_need) c.self.inside.locals.frames c.self.inside.used c.self.inside.local (beside_of k.core) c.args.x c.args.v k c.args.self.now c.self.view_is refl c.requires.inside
    (ap (λ (h : Held). h.rows) c.set.ensures ∙ ap (λ z. set_first c.self.inside.frames.rows (c.args.x + 2) z) (to_z-of_z w64 c.args.v c.ranges.v))
