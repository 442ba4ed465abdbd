use Rattle.std.proofs.Common.{◌*◌, ◌^◌, ◌≤◌, ℕ, rules, subst, sym, arith}
use Rattle.std.specs.Prelude.{unsigned_abs, int_div, FitsSigned}
use Rattle.std.specs.Int.{w128}
use Rattle.std.proofs.lemmas.Int.{to_z-of_z}
use Rattle.caf_base.specs.Arithmetic.{natural}
use Rattle.array_places.proofs.Subscripts.{times_near}
use Rattle.array_places.proofs.triplet.count_of.Goals as goal

pub returns-clause-near : goal.returns-clause-near
returns-clause-near c =
    let f : FitsSigned w128 c.distance.result = search rules in
    let e = simp to_z-of_z at c.times.ensures in
    let n = times_near c.distance.result c.args.stride.now in
    let m : natural (int_div c.distance.result c.args.stride.now) * unsigned_abs c.args.stride.now ≤ 2 ^ 65 = omega arith in
    subst (λ (k : ℕ). k * unsigned_abs c.args.stride.now ≤ 2 ^ 65) (sym e) m
