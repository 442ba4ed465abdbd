use Rattle.std.proofs.Common.{◌∙◌, ap, sym, arith, length, ◌<◌, ◌≤◌}
use Rattle.std.specs.Arc.{arc_value}
use Rattle.image_state.specs.Kept.{Kept, main_with}
use Rattle.image_state.proofs.Frames.{callers_long, room_for}
use Rattle.image_state.proofs.LocalLaws.{room_begun, deep_begun}
use Rattle.image_state.proofs.state.ImageState.enter.Goals as goal

pub begin_zeros-requires-clause-deep : goal.begin_zeros-requires-clause-deep
begin_zeros-requires-clause-deep c =
    let a = ap (λ (k : Kept). length k.core.callers) (sym c.self.view_is) ∙ callers_long c.self.inside.frames.rows (main_with c.self.inside.main.items c.self.inside.main_need) c.self.inside.locals.frames in
    let h = c.requires.deep in
    let i = c.self.invariant.1 in
    omega arith

pub begin_zeros-requires-clause-room : goal.begin_zeros-requires-clause-room
begin_zeros-requires-clause-room c =
    let a = ap (λ (k : Kept). length k.core.callers) (sym c.self.view_is) ∙ callers_long c.self.inside.frames.rows (main_with c.self.inside.main.items c.self.inside.main_need) c.self.inside.locals.frames in
    let b = ap (λ (k : Kept). k.rooms.scalars) (sym c.self.view_is) in
    let h = c.requires.deep in
    let f : length c.self.inside.frames.rows < 256 = omega arith in
    let g : c.args.cells ≤ c.self.inside.frame_room = (let r = c.requires.cells in omega arith) in
    room_for c.self.inside.frame_room c.args.cells c.self.inside.frames.size c.self.inside.frames.rows c.self.invariant.2 f g c.self.invariant.0

pub begin-requires-clause-deep : goal.begin-requires-clause-deep
begin-requires-clause-deep c =
    let a = ap (λ (k : Kept). length k.core.callers) (sym c.self.view_is) ∙ callers_long c.self.inside.frames.rows (main_with c.self.inside.main.items c.self.inside.main_need) c.self.inside.locals.frames in
    let h = c.requires.deep in
    let f : length c.self.inside.frames.rows < 256 = omega arith in
    deep_begun c.self.inside.local_room (length (arc_value c.self.inside.code).program.tables.main.arrays) c.self.inside.frames.rows c.self.inside.locals f c.self.invariant.6

pub begin-requires-clause-room : goal.begin-requires-clause-room
begin-requires-clause-room c =
    let a = ap (λ (k : Kept). length k.core.callers) (sym c.self.view_is) ∙ callers_long c.self.inside.frames.rows (main_with c.self.inside.main.items c.self.inside.main_need) c.self.inside.locals.frames in
    let b = ap (λ (k : Kept). k.rooms.locals) (sym c.self.view_is) in
    let h = c.requires.deep in
    let f : length c.self.inside.frames.rows < 256 = omega arith in
    let g : c.args.arrays ≤ c.self.inside.local_room = (let r = c.requires.arrays in omega arith) in
    room_begun c.self.inside.local_room (length (arc_value c.self.inside.code).program.tables.main.arrays) c.args.arrays c.self.inside.frames.rows c.self.inside.locals g f c.self.invariant.6
