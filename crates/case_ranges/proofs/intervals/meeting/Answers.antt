use Rattle.std.proofs.Common.{rules, false}
use Rattle.std.specs.Int.RustNames.{FitsSigned}
use Rattle.case_ranges.specs.Intervals.{Has}
use Rattle.case_ranges.proofs.Answered.{at_first, is_there, le_where_not_above, not_above_number, number, tested}
use Rattle.case_ranges.proofs.Closed.{not_le}
use Rattle.case_ranges.proofs.Kept.{first_above}
use Rattle.case_ranges.proofs.intervals.meeting.Goals as goal
use mir.Syntax.{w64}

pub returns-then-low-of-clause-has : goal.returns-then-low-of-clause-has
returns-then-low-of-clause-has c =
    let f : FitsSigned w64 c.in_ok-high.high.now = search rules in
    let g : FitsSigned w64 c.in_ok-high.low.now = search rules in
    let h : Has c.args.intervals.now c.in_ok-high.high.now c.in_ok-high.low.now = (at_first _ _ _ _ c.in_ok-high.ensures.steps (c.range.ensures.in_range tt).1).1 in
    rw (number c.in_ok-high.high.now f, number c.in_ok-high.low.now g) h

pub returns-else-low-of-clause-free : goal.returns-else-low-of-clause-free
returns-else-low-of-clause-free c = λ e apart.
    let f : FitsSigned w64 c.args.of.low = search rules in
    let g : FitsSigned w64 c.args.of.high = search rules in
    let d : FitsSigned w64 c.in_ok-high.low.now = search rules in
    first_above c.args.intervals.now c.in_ok-high.high.now c.in_ok-high.low.now c.args.of.low c.args.of.high apart
    ((at_first _ _ _ _ c.in_ok-high.ensures.steps (c.range.ensures.in_range tt).1).1)
    (λ q j le h. le_where_not_above _ _ (at_first _ _ _ _ c.in_ok-high.ensures.steps
    ((c.range.ensures.in_range tt).2 q (not_above_number _ c.args.of.low q (number c.args.of.low f) le, tt) (is_there _ j h))))
    (not_le _ _ (tested _ _ _ _ false (number c.in_ok-high.low.now d) (number c.args.of.high g) c.if-low-of.false))
