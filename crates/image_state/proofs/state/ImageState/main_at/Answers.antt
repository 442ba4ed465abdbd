use Rattle.std.proofs.Common.{◌∙◌, ap, sym, pos, Some, arith, w64, rules}
use Rattle.std.proofs.lemmas.Int.{to_z-of_z}
use Rattle.std.proofs.lemmas.Option.{slice_get-get_or, slice_get_past}
use Rattle.image_state.specs.Kept.{Kept, main_with, beside_of}
use Rattle.image_state.specs.contracts.state.ImageState.{the_view}
use Rattle.image_state.proofs.Frames.{host_get}
use Rattle.image_state.proofs.state.ImageState.main_at.Goals as goal

pub returns-then-x-len : goal.returns-then-x-len
returns-then-x-len c =
    let k : Kept = the_view c.self.inside in
    sym (host_get c.self.inside.values.values c.self.inside.frames.rows (main_with c.self.inside.main.items c.self.inside.main_need) c.self.inside.locals.frames c.self.inside.used c.self.inside.local (beside_of k.core) c.args.self.now.core c.args.x (ap (λ (k : Kept). k.core) c.self.view_is)
    ∙ slice_get_past c.self.inside.main.items c.args.x (omega arith))

pub returns : goal.returns
returns c =
    let k : Kept = the_view c.self.inside in
    ap Some (to_z-of_z w64 c.read.result (search rules)) ∙ ap Some c.read.ensures ∙ sym (slice_get-get_or c.self.inside.main.items c.args.x (pos 0) (omega arith))
    ∙ sym (host_get c.self.inside.values.values c.self.inside.frames.rows (main_with c.self.inside.main.items c.self.inside.main_need) c.self.inside.locals.frames c.self.inside.used c.self.inside.local (beside_of k.core) c.args.self.now.core c.args.x (ap (λ (k : Kept). k.core) c.self.view_is))
