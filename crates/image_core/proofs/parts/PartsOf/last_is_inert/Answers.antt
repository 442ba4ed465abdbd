use Rattle.std.proofs.Common.{◌≡◌, ◌-◌, ◌<◌, length, sym, ◌∙◌, subst, arith}
use Rattle.std.specs.Prelude.{slice_get, Some, []}
use Rattle.core_runs.specs.Moments.{rules}
use Rattle.image_core.specs.Parts.{moment}
use Rattle.image_core.proofs.Inertness.{leaves_others}
use Rattle.run_outlook.proofs.Slices.{map_index, map_length}
use Rattle.image_core.proofs.parts.PartsOf.last_is_inert.Goals as goal

pub returns-in-Some : goal.returns-in-Some
returns-in-Some g c inert =
    let low = c.requires.0 in
    let high = c.requires.1 in
    let images = c.args.self.now.images.items in
    let within : c.args.image.0 - 1 < length images = omega arith in
    let list = map_index (λ r. r.events.items) images (c.args.image.0 - 1) c.index.result.now [] within c.index.ensures in
    leaves_others (rules g.M.Walker g.O.Object g.B.Object) (moment g.M.Walker g.O.Object g.B.Object c.args.self.now) c.args.image.0 c.in-Some.event.now
    (map_length (λ r. r.events.items) images ∙ sym (map_length (λ r. g.M.Walker.config r.machine) images)) low
    (subst (λ es. Some c.in-Some.event.now ≡ slice_get es (length es - 1)) (c.deref.ensures.value ∙ sym list) c.in-Some.ensures.value)
    (c.is_inert.ensures inert)
