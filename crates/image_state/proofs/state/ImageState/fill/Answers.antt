use Rattle.std.proofs.Common.{subst, length, replicate}
use Rattle.std.specs.Prelude.{Option}
use Rattle.image_acts.specs.Core.{Local}
use Rattle.image_acts.specs.Places.{offsets, place_in}
use Rattle.image_code.specs.Table.{scope_of}
use Rattle.local_arrays.specs.Arrays.{HasCells, overwritten}
use Rattle.local_arrays.specs.Frames.{array_of}
use Rattle.image_state.proofs.KeptLaws.{array_is, invariant_put, put_by}
use Rattle.image_state.proofs.state.ImageState.fill.Goals as goal

pub fill-requires : goal.fill-requires
fill-requires c = subst (λ (o : Option Local). HasCells o (place_in c.args.place.now)) (array_is c.self.inside c.args.self.now c.self.view_is c.self.invariant (scope_of c.args.scope) c.args.x) c.requires

pub invariant_of-self : goal.invariant_of-self
invariant_of-self c = invariant_put c.self.inside c.args.self.now c.self.view_is c.self.invariant (scope_of c.args.scope) c.args.x (overwritten (place_in c.args.place.now) (replicate (length (offsets (place_in c.args.place.now))) c.args.value.now) (array_of (scope_of c.args.scope) c.args.x c.self.inside.locals.frames)) c.fill.new.self c.fill.ensures

pub returns : goal.returns
returns c = put_by c.self.inside c.args.self.now c.self.view_is c.self.invariant (scope_of c.args.scope) c.args.x (overwritten (place_in c.args.place.now) (replicate (length (offsets (place_in c.args.place.now))) c.args.value.now)) c.fill.new.self c.fill.ensures
