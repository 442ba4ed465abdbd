use Rattle.std.proofs.Common.{rules, ◌≡◌, ◌%◌, ◌^◌, ◌<◌, ℤ, pos, ◌+ℤ◌, ◌*ℤ◌, ap, arith}
use Rattle.std.specs.Prelude.{unsigned_abs, FitsSigned, ◌≤◌}
use Rattle.std.specs.Int.{w64, w128}
use Rattle.std.proofs.lemmas.Int.{to_z-of_z, ints}
use Rattle.array_places.proofs.Counting.{part_fits}
use Rattle.array_places.proofs.place.moved.Goals as goal

pub returns : goal.returns
returns c =
    let s : FitsSigned w64 c.args.step = search rules in
    let small : unsigned_abs c.args.step ≤ 2 ^ 63 = omega (arith, ints) in
    let few : c.args.number % c.args.count < 2 ^ 32 = omega arith in
    let a : FitsSigned w128 c.args.at.now = search rules in
    let b : FitsSigned w128 c.part.result = search rules in
    let e : c.part.result ≡ pos (c.args.number % c.args.count) *ℤ c.args.step = simp to_z-of_z at c.part.ensures in
    let f : FitsSigned w128 (c.args.at.now +ℤ c.part.result) = part_fits (c.args.number % c.args.count) c.args.at.now c.part.result c.args.step few small c.requires.near e in
    simp to_z-of_z (ap (λ (v : ℤ). c.args.at.now +ℤ v) e)
