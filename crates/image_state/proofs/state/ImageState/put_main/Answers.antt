use Rattle.std.proofs.Common.{◌∙◌, ap, refl, slice_set, w64}
use Rattle.std.proofs.lemmas.Int.{to_z-of_z}
use Rattle.image_state.specs.Kept.{Kept, beside_of}
use Rattle.image_state.specs.contracts.state.ImageState.{the_view}
use Rattle.image_state.proofs.Frames.{main_put}
use Rattle.image_state.proofs.state.ImageState.put_main.Goals as goal

pub returns : goal.returns
returns c =
    let k : Kept = the_view c.self.inside in
    main_put c.self.inside.values.values c.self.inside.frames.rows c.self.inside.main.items c.put_in.new.cells.items c.self.inside.main_need c.self.inside.locals.frames c.self.inside.used c.self.inside.local (beside_of k.core) c.args.x c.args.v k c.args.self.now c.self.view_is refl
    (c.put_in.ensures ∙ ap (λ z. slice_set c.self.inside.main.items c.args.x z) (to_z-of_z w64 c.args.v c.ranges.v))
