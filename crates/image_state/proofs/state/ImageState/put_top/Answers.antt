use Rattle.std.proofs.Common.{◌≡◌, ◌∙◌, ℤ, List, ap, subst}
use Rattle.std.specs.Prelude.{Option}
use Rattle.image_acts.specs.Core.{Local}
use Rattle.image_acts.specs.Frames.{array_in, with_array_in}
use Rattle.image_acts.specs.Places.{place_in}
use Rattle.image_code.specs.Table.{scope_of}
use Rattle.array_values.specs.Values.{elements_on_top}
use Rattle.local_arrays.specs.Arrays.{HasCells, overwritten}
use Rattle.local_arrays.specs.Frames.{array_of}
use Rattle.image_state.specs.Acting.{with_core}
use Rattle.image_state.specs.Kept.{Kept}
use Rattle.image_state.proofs.KeptLaws.{array_is, invariant_put, put_by}
use Rattle.image_state.proofs.state.ImageState.put_top.Goals as goal

pub put-requires : goal.put-requires
put-requires c = subst (λ (o : Option Local). HasCells o (place_in c.args.place.now)) (array_is c.self.inside c.args.self.now c.self.view_is c.self.invariant (scope_of c.args.scope) c.args.x) c.requires

pub invariant_of-self : goal.invariant_of-self
invariant_of-self c = invariant_put c.self.inside c.args.self.now c.self.view_is c.self.invariant (scope_of c.args.scope) c.args.x (overwritten (place_in c.args.place.now) c.elements.result.now (array_of (scope_of c.args.scope) c.args.x c.self.inside.locals.frames)) c.put.new.self c.put.ensures

pub returns : goal.returns
returns c =
    let e : c.elements.result.now ≡ elements_on_top c.args.self.now.core.arrays = c.elements.ensures ∙ ap (λ (k : Kept). elements_on_top k.core.arrays) c.self.view_is in
    put_by c.self.inside c.args.self.now c.self.view_is c.self.invariant (scope_of c.args.scope) c.args.x (overwritten (place_in c.args.place.now) c.elements.result.now) c.put.new.self c.put.ensures
    ∙ ap (λ (vs : List ℤ). with_core c.args.self.now (with_array_in (scope_of c.args.scope) c.args.x (overwritten (place_in c.args.place.now) vs (array_in (scope_of c.args.scope) c.args.x c.args.self.now.core)) c.args.self.now.core)) e
