use Rattle.std.proofs.Common.{rules, ◌∙◌, ap, cond, is_eq, Some}
use Rattle.std.specs.BTreeMap.{get}
use Rattle.std.specs.Ordering.{int_cmp}
use Rattle.std.specs.Int.RustNames.{FitsSigned}
use Rattle.case_ranges.proofs.Answered.{number}
use Rattle.case_ranges.proofs.Kept.{put_in}
use Rattle.case_ranges.proofs.intervals.put.Goals as goal
use mir.Syntax.{w64}
use mir.Val.{to_z, of_z}

pub returns : goal.returns
returns c = λ xs w free.
    let m = c.args.intervals.now in
    let f : FitsSigned w64 c.args.of.high = search rules in
    let g : FitsSigned w64 c.args.of.low = search rules in
    put_in m c.insert.new.self c.args.of.low c.args.of.high xs w free
    (λ q. c.in_ok-insert.ensures.updates.0 q
    ∙ ap (λ z. cond (is_eq (int_cmp z q)) (Some (to_z w64 (of_z w64 c.args.of.low))) (get int_cmp m q)) (number c.args.of.high f)
    ∙ ap (λ z. cond (is_eq (int_cmp c.args.of.high q)) (Some z) (get int_cmp m q)) (number c.args.of.low g))
