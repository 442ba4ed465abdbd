use Rattle.std.proofs.Common.{ap, refl, length, reverse, vec_capacity}
use Rattle.std.specs.Prelude.{Some}
use Rattle.image_acts.specs.Frames.{pairs_in, zeros_in}
use Rattle.image_code.specs.Table.{scope_of}
use Rattle.local_arrays.specs.Frames.{Framed}
use Rattle.local_arrays.proofs.FrameLaws.{kept_within, kept_same, kept_set, on_ok, on_err, none_fits, none_full, some_fits, some_full}
use Rattle.local_arrays.proofs.arrays.Arrays.lay.Goals as goal

pub lay-requires-clause-number : goal.lay-requires-clause-number
lay-requires-clause-number c =
    kept_within (scope_of c.args.scope) c.args.x c.self.inside.main c.in-Some.k c.self.inside.base c.len.result (reverse c.self.inside.bases.items) (length c.self.inside.row.arrays) c.self.invariant.0 c.self.invariant.1 c.len.ensures c.in-Some.ensures.some

pub returns-in-None-clause-ok : goal.returns-in-None-clause-ok
returns-in-None-clause-ok c =
    let f = ap (λ (a : Framed). a.frames) c.self.view_is in
    on_ok c.has_room.result (λ e. kept_same (scope_of c.args.scope) c.args.x c.self.inside.main c.self.inside.base c.len.result (reverse c.self.inside.bases.items) c.self.inside.row.arrays (Some (zeros_in (pairs_in c.args.numbers.now))) c.args.self.now f c.self.invariant.0 c.self.invariant.1 c.len.ensures c.in-None.ensures.none) c.has_room.ensures.ok

pub returns-in-None-clause-room : goal.returns-in-None-clause-room
returns-in-None-clause-room c =
    let f = ap (λ (a : Framed). a.frames) c.self.view_is in
    let z = ap (λ (a : Framed). a.size) c.self.view_is in
    on_ok c.has_room.result (λ e. none_fits (scope_of c.args.scope) c.args.x c.self.inside.main c.self.inside.base c.len.result c.self.inside.row.size c.args.self.now.size (reverse c.self.inside.bases.items) c.self.inside.row.arrays (Some (zeros_in (pairs_in c.args.numbers.now))) c.args.self.now.frames f c.self.invariant.0 c.self.invariant.1 c.len.ensures c.in-None.ensures.none z e) c.has_room.ensures.ok

pub returns-in-None-clause-full : goal.returns-in-None-clause-full
returns-in-None-clause-full c =
    let f = ap (λ (a : Framed). a.frames) c.self.view_is in
    let z = ap (λ (a : Framed). a.size) c.self.view_is in
    on_err c.has_room.result (λ e. none_full (scope_of c.args.scope) c.args.x c.self.inside.main c.self.inside.base c.len.result c.self.inside.row.size c.args.self.now.size (reverse c.self.inside.bases.items) c.self.inside.row.arrays (Some (zeros_in (pairs_in c.args.numbers.now))) c.args.self.now.frames f c.self.invariant.0 c.self.invariant.1 c.len.ensures c.in-None.ensures.none z e) c.has_room.ensures.full

pub returns-in-Some-clause-ok : goal.returns-in-Some-clause-ok
returns-in-Some-clause-ok c =
    on_ok c.lay.result (λ e. kept_set (scope_of c.args.scope) c.args.x c.self.inside.main c.in-Some.k c.self.inside.base c.len.result (vec_capacity c.self.inside.bases) (reverse c.self.inside.bases.items) c.self.inside.row c.lay.new.self (Some (zeros_in (pairs_in c.args.numbers.now))) (Some (zeros_in (pairs_in c.args.numbers.now))) c.args.self.now c.self.view_is c.self.invariant.0 c.self.invariant.1 c.len.ensures c.in-Some.ensures.some e refl) c.lay.ensures.ok

pub returns-in-Some-clause-room : goal.returns-in-Some-clause-room
returns-in-Some-clause-room c =
    let f = ap (λ (a : Framed). a.frames) c.self.view_is in
    let z = ap (λ (a : Framed). a.size) c.self.view_is in
    on_ok c.lay.result (λ e. some_fits (scope_of c.args.scope) c.args.x c.self.inside.main c.in-Some.k c.self.inside.base c.len.result c.self.inside.row.size c.args.self.now.size (reverse c.self.inside.bases.items) c.self.inside.row.arrays (Some (zeros_in (pairs_in c.args.numbers.now))) c.args.self.now.frames f c.self.invariant.0 c.self.invariant.1 c.len.ensures c.in-Some.ensures.some z e) c.lay.ensures.room

pub returns-in-Some-clause-full : goal.returns-in-Some-clause-full
returns-in-Some-clause-full c =
    let f = ap (λ (a : Framed). a.frames) c.self.view_is in
    let z = ap (λ (a : Framed). a.size) c.self.view_is in
    on_err c.lay.result (λ e. some_full (scope_of c.args.scope) c.args.x c.self.inside.main c.in-Some.k c.self.inside.base c.len.result c.self.inside.row.size c.args.self.now.size (reverse c.self.inside.bases.items) c.self.inside.row.arrays (Some (zeros_in (pairs_in c.args.numbers.now))) c.args.self.now.frames f c.self.invariant.0 c.self.invariant.1 c.len.ensures c.in-Some.ensures.some z e) c.lay.ensures.full
