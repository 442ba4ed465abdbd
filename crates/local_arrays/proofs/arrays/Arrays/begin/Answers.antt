use Rattle.std.proofs.Common.{◌≡◌, ap, arith, length, reverse, rules, vec_len}
use Rattle.std.proofs.lemmas.List.{length-reverse}
use Rattle.local_arrays.specs.Frames.{Framed, count_of}
use Rattle.local_arrays.proofs.FrameLaws.{frames_long, count_same}
use Rattle.local_arrays.proofs.arrays.Arrays.begin.Goals as goal

pub push_reserved-requires : goal.push_reserved-requires
push_reserved-requires c =
    let v : vec_len c.self.inside.bases ≡ length c.self.inside.bases.items = search rules in
    let a = frames_long (reverse c.self.inside.bases.items) c.self.inside.row.arrays in
    let l = length-reverse c.self.inside.bases.items in
    let b = ap (λ (m : Framed). length m.frames) c.self.view_is in
    let d = ap (λ (m : Framed). m.deepest) c.self.view_is in
    let r = c.requires.deep in
    omega arith

pub push_all-requires : goal.push_all-requires
push_all-requires c =
    let a = count_same (reverse c.self.inside.bases.items) c.self.inside.row.arrays in
    let b = ap (λ (m : Framed). count_of m.frames) c.self.view_is in
    let d = ap (λ (m : Framed). m.most) c.self.view_is in
    let r = c.requires.room in
    omega arith
