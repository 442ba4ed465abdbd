use Rattle.std.proofs.Common.{◌≡◌, ◌-◌, ◌<◌, [], length, ap, sym, ◌∙◌, subst, suc, arith}
use Rattle.std.specs.Prelude.{slice_get, Some}
use Rattle.core_runs.specs.Lists.{list_at}
use Rattle.core_runs.specs.Moments.{item_at, rules}
use Rattle.image_core.specs.Parts.{moment}
use Rattle.image_core.proofs.MemoryInertness.{leaves_others_there}
use Rattle.run_outlook.proofs.Slices.{map_get, map_index, map_length}
use Rattle.image_core.proofs.parts.PartsOf.last_is_inert_at.Goals as goal

pub returns-in-Some : goal.returns-in-Some
returns-in-Some g c inert =
    let low = c.requires.0 in
    let high = c.requires.1 in
    let now = moment g.M.Walker g.O.Object g.B.Object c.args.self.now in
    let images = c.args.self.now.images.items in
    let memories = c.args.self.now.memories.items in
    let at = c.args.owner.0 - 1 in
    let owner_is : c.args.owner.0 ≡ suc at = omega arith in
    let within : c.args.image.0 - 1 < length images = omega arith in
    let owner_within : at < length memories = omega arith in
    let list = map_index (λ r. r.events.items) images (c.args.image.0 - 1) c.index.result.now [] within c.index.ensures in
    let owned : list_at now.histories c.args.owner.0 ≡ g.O.Object.history c.index-memory.result.now =
    ap (list_at now.histories) owner_is ∙ map_index g.O.Object.history memories at c.index-memory.result.now [] owner_within c.index-memory.ensures in
    leaves_others_there (rules g.M.Walker g.O.Object g.B.Object) now c.args.image.0 c.args.owner (g.O.Object.made c.index-memory.result.now) c.in-Some.event.now
    (map_length (λ r. r.events.items) images ∙ sym (map_length (λ r. g.M.Walker.config r.machine) images)) low (omega arith)
    (let many = map_length g.O.Object.history memories in omega arith)
    (ap (item_at now.memories) owner_is ∙ map_get g.O.Object.made memories at c.index-memory.result.now owner_within c.index-memory.ensures)
    (subst (λ es. Some c.in-Some.event.now ≡ slice_get es (length es - 1)) (c.deref.ensures.value ∙ sym list) c.in-Some.ensures.value)
    (λ h is ready due. c.is_inert.ensures inert h (sym owned ∙ is) ready due)
