use Rattle.std.proofs.Common.{◌≡◌, ◌∙◌, ◌≤◌, ◌<◌, ℤ, List, ap, subst}
use Rattle.std.specs.Prelude.{Some, OnOk, OnErr}
use Rattle.image_acts.specs.Frames.{arrays_of_frames, cells_in_frames, with_array_in}
use Rattle.image_code.specs.Table.{scope_of}
use Rattle.array_values.specs.Values.{elements_on_top}
use Rattle.local_arrays.specs.Arrays.{from_one}
use Rattle.local_arrays.specs.Frames.{with_array}
use Rattle.local_arrays.proofs.FrameLaws.{on_ok}
use Rattle.image_state.specs.Acting.{with_core}
use Rattle.image_state.specs.Kept.{Kept}
use Rattle.image_state.proofs.KeptLaws.{invariant_tried, put, fits, crowded}
use Rattle.image_state.proofs.state.ImageState.renew_top.Goals as goal

pub invariant_of-self : goal.invariant_of-self
invariant_of-self c = invariant_tried c.self.inside c.args.self.now c.self.view_is c.self.invariant c.renew.result (scope_of c.args.scope) c.args.x (Some (from_one c.elements.result.now)) c.renew.new.self c.renew.ensures.ok c.renew.ensures.kept

pub returns-clause-ok : goal.returns-clause-ok
returns-clause-ok c =
    let e : c.elements.result.now ≡ elements_on_top c.args.self.now.core.arrays = c.elements.ensures ∙ ap (λ (k : Kept). elements_on_top k.core.arrays) c.self.view_is in
    on_ok c.renew.result (λ h. put c.self.inside c.args.self.now c.self.view_is c.self.invariant (scope_of c.args.scope) c.args.x (Some (from_one c.elements.result.now)) c.renew.new.self h ∙ ap (λ (vs : List ℤ). with_core c.args.self.now (with_array_in (scope_of c.args.scope) c.args.x (Some (from_one vs)) c.args.self.now.core)) e) c.renew.ensures.ok

pub returns-clause-room : goal.returns-clause-room
returns-clause-room c =
    let e : c.elements.result.now ≡ elements_on_top c.args.self.now.core.arrays = c.elements.ensures ∙ ap (λ (k : Kept). elements_on_top k.core.arrays) c.self.view_is in
    subst (λ (vs : List ℤ). OnOk c.renew.result (cells_in_frames (with_array (scope_of c.args.scope) c.args.x (Some (from_one vs)) (arrays_of_frames c.args.self.now.core)) ≤ c.args.self.now.core.array_room)) e (fits c.self.inside c.args.self.now c.self.view_is c.self.invariant c.renew.result (scope_of c.args.scope) c.args.x (Some (from_one c.elements.result.now)) c.renew.ensures.room)

pub returns-clause-full : goal.returns-clause-full
returns-clause-full c =
    let e : c.elements.result.now ≡ elements_on_top c.args.self.now.core.arrays = c.elements.ensures ∙ ap (λ (k : Kept). elements_on_top k.core.arrays) c.self.view_is in
    subst (λ (vs : List ℤ). OnErr c.renew.result (c.args.self.now.core.array_room < cells_in_frames (with_array (scope_of c.args.scope) c.args.x (Some (from_one vs)) (arrays_of_frames c.args.self.now.core)))) e (crowded c.self.inside c.args.self.now c.self.view_is c.self.invariant c.renew.result (scope_of c.args.scope) c.args.x (Some (from_one c.elements.result.now)) c.renew.ensures.full)
