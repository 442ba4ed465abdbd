use Rattle.std.proofs.Common.{◌∙◌, ap, arith, length, replicate}
use Rattle.std.specs.Prelude.{None, Option}
use Rattle.std.proofs.lemmas.List.{length-append, length-replicate}
use Rattle.image_acts.specs.Core.{Local}
use Rattle.local_arrays.specs.Rows.{Rowed}
use Rattle.local_arrays.proofs.RowLaws.{pushed_more}
use Rattle.local_arrays.proofs.row.Row.push_all.Goals as goal

pub push-requires : goal.push-requires
push-requires c =
    let a = ap length c.loop-i.invariant.arrays in
    let b = length-append c.args.self.now.arrays (replicate {A = Option Local} c.loop-i.i None) in
    let d = length-replicate {A = Option Local} c.loop-i.i None in
    let m = c.loop-i.invariant.most in
    let r = c.requires in
    omega arith

pub loop-i-preserved : goal.loop-i-preserved
loop-i-preserved c = record {
  arrays = pushed_more c.loop-i.self.arrays c.args.self.now.arrays _ c.loop-i.i c.loop-i.invariant.arrays (ap (λ (r : Rowed). r.arrays) c.push.ensures);
  most = ap (λ (r : Rowed). r.most) c.push.ensures ∙ c.loop-i.invariant.most;
  size = ap (λ (r : Rowed). r.size) c.push.ensures ∙ c.loop-i.invariant.size;
}
