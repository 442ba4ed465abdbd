use Rattle.std.proofs.Common.{rules, ◌∙◌, ap, sym, true}
use Rattle.std.specs.Int.RustNames.{FitsSigned}
use Rattle.rule_definitions.specs.Statements.{overlaps_one}
use Rattle.case_ranges.proofs.Answered.{met, not_met, number, tested, twice}
use Rattle.case_ranges.proofs.ranges.CaseRanges.overlaps_one.Goals as goal
use mir.Syntax.{w64}

pub returns-then-of : goal.returns-then-of
returns-then-of c =
    let f : FitsSigned w64 c.low_end.result = search rules in
    let g : FitsSigned w64 c.high_end.result = search rules in
    c.is_some.ensures
    ∙ met c.self.inside.intervals c.self.inside.added.items c.args.range c.low_end.result c.high_end.result _ _ c.low_end.ensures c.high_end.ensures f g (number c.low_end.result f) (number c.high_end.result g)
    c.self.invariant (tested _ _ _ _ true (twice c.low_end.result f ∙ sym (number c.low_end.result f)) (twice c.high_end.result g ∙ sym (number c.high_end.result g)) c.if-of.true) c.meeting.result c.meeting.ensures.has c.meeting.ensures.low c.meeting.ensures.high c.meeting.ensures.free
    ∙ ap (λ xs. overlaps_one xs c.args.range) c.self.view_is

pub returns-else-of : goal.returns-else-of
returns-else-of c =
    let f : FitsSigned w64 c.low_end.result = search rules in
    let g : FitsSigned w64 c.high_end.result = search rules in
    c.if-of.false ∙ not_met c.args.self.now c.args.range c.low_end.result c.high_end.result _ _ c.low_end.ensures c.high_end.ensures f g (twice c.low_end.result f) (twice c.high_end.result g) c.if-of.false
