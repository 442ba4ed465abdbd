use Rattle.std.proofs.Common.{rules, ◌∙◌, None}
use Rattle.std.specs.Int.RustNames.{FitsSigned}
use Rattle.case_ranges.proofs.Answered.{number}
use Rattle.case_ranges.proofs.Changes.{Turns}
use Rattle.case_ranges.proofs.Kept.{absorbed, left_apart, lesser, greater}
use Rattle.case_ranges.proofs.intervals.absorb.Goals as goal
use mir.Syntax.{w64}
use mir.Val.{to_z, of_z}

pub loop-met-preserved : goal.loop-met-preserved
loop-met-preserved c =
    let m = c.loop-met.intervals in
    let f : FitsSigned w64 c.in-Some.met.high = search rules in
    let g : FitsSigned w64 c.in-Some.met.low = search rules in
    let d : FitsSigned w64 c.loop-met.all.low = search rules in
    let e : FitsSigned w64 c.loop-met.all.high = search rules in
    let x : FitsSigned w64 c.min.result = search rules in
    let y : FitsSigned w64 c.max.result = search rules in
    let turns : Turns m c.remove.new.self c.in-Some.met.high None = c.remove.ensures.updates.0 in
    record {
      keeps = λ xs w. absorbed m c.remove.new.self c.loop-met.all.low c.loop-met.all.high c.in-Some.met.high c.in-Some.met.low (to_z w64 (of_z w64 c.min.result)) (to_z w64 (of_z w64 c.max.result)) xs
          (c.loop-met.invariant.keeps xs w) c.in-Some.ensures.has c.in-Some.ensures.low c.in-Some.ensures.high turns
          (lesser _ _ _ _ _ (number c.min.result x ∙ c.min.ensures.value) (number c.loop-met.all.low d) (number c.in-Some.met.low g))
          (greater _ _ _ _ _ (number c.max.result y ∙ c.max.ensures.value) (number c.loop-met.all.high e) (number c.in-Some.met.high f));
      apart = λ w. left_apart m c.remove.new.self c.in-Some.met.high turns (c.loop-met.invariant.apart w);
    }
