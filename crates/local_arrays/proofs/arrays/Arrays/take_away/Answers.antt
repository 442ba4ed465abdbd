use Rattle.std.proofs.Common.{ap, refl, length, reverse, vec_capacity}
use Rattle.std.specs.Prelude.{None}
use Rattle.image_code.specs.Table.{scope_of}
use Rattle.local_arrays.specs.Frames.{Framed}
use Rattle.local_arrays.proofs.FrameLaws.{kept_within, kept_same, kept_set}
use Rattle.local_arrays.proofs.arrays.Arrays.take_away.Goals as goal

pub remove-requires : goal.remove-requires
remove-requires c =
    kept_within (scope_of c.args.scope) c.args.x c.self.inside.main c.in-Some.k c.self.inside.base c.len.result (reverse c.self.inside.bases.items) (length c.self.inside.row.arrays) c.self.invariant.0 c.self.invariant.1 c.len.ensures c.in-Some.ensures.some

pub returns-in-Some : goal.returns-in-Some
returns-in-Some c =
    kept_set (scope_of c.args.scope) c.args.x c.self.inside.main c.in-Some.k c.self.inside.base c.len.result (vec_capacity c.self.inside.bases) (reverse c.self.inside.bases.items) c.self.inside.row c.remove.new.self None None c.args.self.now c.self.view_is c.self.invariant.0 c.self.invariant.1 c.len.ensures c.in-Some.ensures.some c.remove.ensures refl

pub returns-in_default : goal.returns-in_default
returns-in_default c =
    let f = ap (λ (a : Framed). a.frames) c.self.view_is in
    kept_same (scope_of c.args.scope) c.args.x c.self.inside.main c.self.inside.base c.len.result (reverse c.self.inside.bases.items) c.self.inside.row.arrays None c.args.self.now f c.self.invariant.0 c.self.invariant.1 c.len.ensures c.in_default.ensures.none
