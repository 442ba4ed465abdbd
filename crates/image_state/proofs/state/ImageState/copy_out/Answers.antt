use Rattle.std.proofs.Common.{◌≡◌, ◌∙◌, ℤ, List, ap, sym, arith}
use Rattle.std.specs.Prelude.{Some, None}
use Rattle.image_acts.specs.Core.{elements_in, with_array}
use Rattle.image_acts.specs.Frames.{local_size}
use Rattle.image_code.specs.Table.{scope_of}
use Rattle.array_values.specs.Extents.{listed}
use Rattle.array_values.specs.Values.{Values}
use Rattle.local_arrays.specs.Frames.{array_of}
use Rattle.image_state.specs.contracts.state.ImageState.{the_view}
use Rattle.image_state.specs.Acting.{with_core}
use Rattle.image_state.specs.Kept.{Kept}
use Rattle.image_state.proofs.KeptLaws.{array_is}
use Rattle.image_state.proofs.SectionLaws.{elements_there_are, size_there}
use Rattle.image_state.proofs.state.ImageState.copy_out.Goals as goal

pub begin_with-requires-clause-room : goal.begin_with-requires-clause-room
begin_with-requires-clause-room c =
    let e = ap local_size (array_is c.self.inside c.args.self.now c.self.view_is c.self.invariant (scope_of c.args.scope) c.args.x) ∙ size_there (array_of (scope_of c.args.scope) c.args.x c.self.inside.locals.frames) c.in-Some.elements.now c.in-Some.ensures.some in
    let r = c.requires.room in
    let a = ap (λ (k : Kept). elements_in k.core.arrays) c.self.view_is in
    let s = c.self.invariant.4 in
    omega arith

pub returns-in-Some : goal.returns-in-Some
returns-in-Some c = λ l h.
    let e = elements_there_are (array_of (scope_of c.args.scope) c.args.x c.self.inside.locals.frames) l c.in-Some.elements.now c.in-Some.ensures.some (sym (array_is c.self.inside c.args.self.now c.self.view_is c.self.invariant (scope_of c.args.scope) c.args.x) ∙ h) in
    ap (λ (x : Values). the_view (record c.self.inside { arrays = x })) c.begin_with.ensures
    ∙ ap (λ (k : Kept). with_core k (with_array (record { extents = listed c.args.extents; elements = c.in-Some.elements.now }) k.core)) c.self.view_is
    ∙ ap (λ (vs : List ℤ). with_core c.args.self.now (with_array (record { extents = listed c.args.extents; elements = vs }) c.args.self.now.core)) e

pub returns-in_default : goal.returns-in_default
returns-in_default c = λ l h. (let e : Some l ≡ None = sym h ∙ array_is c.self.inside c.args.self.now c.self.view_is c.self.invariant (scope_of c.args.scope) c.args.x ∙ c.in_default.ensures.none in absurd (cc))
