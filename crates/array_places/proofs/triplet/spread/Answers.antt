use Rattle.std.proofs.Common.{rules, ◌<◌, ◌^◌, true, arith}
use Rattle.std.specs.Prelude.{FitsSigned}
use Rattle.std.specs.Int.{w64}
use Rattle.std.proofs.lemmas.Int.{to_z-of_z}
use Rattle.array_places.specs.Sections.{Lies}
use Rattle.array_places.proofs.Subscripts.{first_inside, few_within, near_within}
use Rattle.array_places.proofs.triplet.spread.Goals as goal

pub overflow_cast-result : goal.overflow_cast-result
overflow_cast-result c =
    let few = few_within c.args.lower.now c.args.upper.now c.args.first.now c.args.stride.now c.args.count c.requires.inside c.requires.stride in
    let small : c.args.count < 2 ^ 64 = omega arith in
    search rules

pub returns-clause-lies : goal.returns-clause-lies
returns-clause-lies c =
    let f : FitsSigned w64 c.args.first.now = search rules in
    let s : FitsSigned w64 c.args.stride.now = search rules in
    let many : 1 < c.args.count = omega arith in
    let close = near_within c.args.lower.now c.args.upper.now c.args.first.now c.args.stride.now c.args.count c.requires.inside many in
    let r : Lies c.args.lower.now c.args.upper.now (record { first = c.args.first.now; count = c.args.count; stride = c.args.stride.now; is_kept = true }) = record {
      inside = λ h. first_inside c.args.lower.now c.args.upper.now c.args.first.now c.args.stride.now c.args.count c.requires.inside;
      few = few_within c.args.lower.now c.args.upper.now c.args.first.now c.args.stride.now c.args.count c.requires.inside c.requires.stride;
      near = omega arith;
    } in
    simp to_z-of_z r
