use Rattle.std.proofs.Common.{◌∙◌, ap, sym}
use Rattle.std.specs.Prelude.{Option}
use Rattle.image_acts.specs.Core.{Local, with_array}
use Rattle.image_acts.specs.Frames.{array_in}
use Rattle.image_acts.specs.Places.{extents_of, place_in}
use Rattle.image_code.specs.Table.{scope_of}
use Rattle.array_values.specs.Values.{Values}
use Rattle.local_arrays.specs.Arrays.{loaded}
use Rattle.local_arrays.specs.Frames.{array_of}
use Rattle.image_state.specs.contracts.state.ImageState.{the_view}
use Rattle.image_state.specs.Acting.{with_core}
use Rattle.image_state.specs.Kept.{Kept}
use Rattle.image_state.proofs.KeptLaws.{array_is}
use Rattle.image_state.proofs.SectionLaws.{there_loaded, not_loaded}
use Rattle.image_state.proofs.state.ImageState.load_section.Goals as goal

pub returns-in-Some : goal.returns-in-Some
returns-in-Some c = λ vs h.
    let g = ap (λ (o : Option Local). loaded o (place_in c.args.place.now)) (sym (array_is c.self.inside c.args.self.now c.self.view_is c.self.invariant (scope_of c.args.scope) c.args.x)) ∙ h in
    let e = there_loaded (array_of (scope_of c.args.scope) c.args.x c.self.inside.locals.frames) (place_in c.args.place.now) c.in-Some.elements.now vs c.in-Some.ensures.some g in
    ap (λ (x : Values). the_view (record c.self.inside { arrays = x })) (c.put_section.ensures.same vs e)
    ∙ ap (λ (k : Kept). with_core k (with_array (record { extents = extents_of (place_in c.args.place.now); elements = vs }) k.core)) c.self.view_is

pub returns-in_default : goal.returns-in_default
returns-in_default c = λ vs h. absurd (not_loaded (array_in (scope_of c.args.scope) c.args.x c.args.self.now.core) (place_in c.args.place.now) vs (array_is c.self.inside c.args.self.now c.self.view_is c.self.invariant (scope_of c.args.scope) c.args.x ∙ c.in_default.ensures.none) h)
