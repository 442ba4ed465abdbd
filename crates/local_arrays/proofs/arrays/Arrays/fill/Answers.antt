use Rattle.std.proofs.Common.{ap, sym, subst, length, reverse, replicate, vec_capacity}
use Rattle.std.specs.Prelude.{Option}
use Rattle.image_acts.specs.Core.{Local}
use Rattle.image_acts.specs.Places.{place_in, offsets}
use Rattle.image_code.specs.Table.{scope_of}
use Rattle.local_arrays.specs.Arrays.{array_at, overwritten, HasCells}
use Rattle.local_arrays.specs.Frames.{Framed, array_of}
use Rattle.local_arrays.proofs.FrameLaws.{kept_get, kept_within, kept_same, kept_set}
use Rattle.local_arrays.proofs.arrays.Arrays.fill.Goals as goal

pub fill-requires-clause-number : goal.fill-requires-clause-number
fill-requires-clause-number c =
    kept_within (scope_of c.args.scope) c.args.x c.self.inside.main c.in-Some.k c.self.inside.base c.len.result (reverse c.self.inside.bases.items) (length c.self.inside.row.arrays) c.self.invariant.0 c.self.invariant.1 c.len.ensures c.in-Some.ensures.some

pub fill-requires-clause-there : goal.fill-requires-clause-there
fill-requires-clause-there c =
    let f = ap (λ (a : Framed). a.frames) c.self.view_is in
    subst (λ (o : Option Local). HasCells o (place_in c.args.place.now)) (kept_get (scope_of c.args.scope) c.args.x c.self.inside.main c.in-Some.k c.self.inside.base c.len.result (reverse c.self.inside.bases.items) c.self.inside.row.arrays c.args.self.now.frames f c.self.invariant.0 c.self.invariant.1 c.len.ensures c.in-Some.ensures.some) c.requires

pub returns-in-Some : goal.returns-in-Some
returns-in-Some c =
    let f = ap (λ (a : Framed). a.frames) c.self.view_is in
    kept_set (scope_of c.args.scope) c.args.x c.self.inside.main c.in-Some.k c.self.inside.base c.len.result (vec_capacity c.self.inside.bases) (reverse c.self.inside.bases.items) c.self.inside.row c.fill.new.self (overwritten (place_in c.args.place.now) (replicate (length (offsets (place_in c.args.place.now))) c.args.value.now) (array_at c.in-Some.k c.self.inside.row.arrays)) (overwritten (place_in c.args.place.now) (replicate (length (offsets (place_in c.args.place.now))) c.args.value.now) (array_of (scope_of c.args.scope) c.args.x c.args.self.now.frames)) c.args.self.now c.self.view_is c.self.invariant.0 c.self.invariant.1 c.len.ensures c.in-Some.ensures.some c.fill.ensures (ap (λ (o : Option Local). (overwritten (place_in c.args.place.now) (replicate (length (offsets (place_in c.args.place.now))) c.args.value.now) o)) (sym (kept_get (scope_of c.args.scope) c.args.x c.self.inside.main c.in-Some.k c.self.inside.base c.len.result (reverse c.self.inside.bases.items) c.self.inside.row.arrays c.args.self.now.frames f c.self.invariant.0 c.self.invariant.1 c.len.ensures c.in-Some.ensures.some)))

pub returns-in_default : goal.returns-in_default
returns-in_default c =
    let f = ap (λ (a : Framed). a.frames) c.self.view_is in
    kept_same (scope_of c.args.scope) c.args.x c.self.inside.main c.self.inside.base c.len.result (reverse c.self.inside.bases.items) c.self.inside.row.arrays (overwritten (place_in c.args.place.now) (replicate (length (offsets (place_in c.args.place.now))) c.args.value.now) (array_of (scope_of c.args.scope) c.args.x c.args.self.now.frames)) c.args.self.now f c.self.invariant.0 c.self.invariant.1 c.len.ensures c.in_default.ensures.none
