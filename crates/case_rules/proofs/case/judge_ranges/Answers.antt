use Rattle.std.proofs.Common.{◌≡◌, ◌∙◌, ◌+◌, ◌++◌, ◌∷◌, drop, map, ap, sym}
use Rattle.std.specs.Option.{option_map}
use Rattle.checked_tree.specs.ExpressionViews.{expression}
use Rattle.fortran_tree.specs.StatementViews.{case_range}
use Rattle.part_rules.specs.Views.{list_of}
use Rattle.rule_definitions.specs.Judgements.{both}
use Rattle.rule_definitions.specs.Statements.{judged_range, judged_ranges, ranges_behind}
use Rattle.case_rules.proofs.Turns.{item_drop, turn_breaks, turn_joined, joined_whole}
use Rattle.case_rules.proofs.case.judge_ranges.Goals as goal

pub loop-range-preserved : goal.loop-range-preserved
loop-range-preserved c =
    let s = c.args.scope.now in
    let x = option_map expression c.args.selector.now in
    let b = c.loop-range.before in
    let n = c.judge_range.new.before in
    let i = c.loop-range.range-index in
    let r = c.range-item.result in
    let d = ap (map case_range) (item_drop c.args.ranges.now i r c.range-item.is c.loop-range-test.true) in
    let j = judged_range s x b (case_range r) in
    let rest = map case_range (drop (i + 1) c.args.ranges.now) in
    let e = c.in_ok-judged.ensures.before in
    record {
      breaks = turn_breaks c.loop-range.list.breaks.items c.in_ok-judged.judged.breaks.items c.keep.new.list.breaks.items j.breaks (judged_ranges s x n rest).breaks _ _
          c.in_ok-keep.ensures.breaks c.in_ok-judged.ensures.breaks (ap (λ k. (judged_ranges s x b k).breaks) d ∙ ap (λ m. j.breaks ++ (judged_ranges s x m rest).breaks) (sym e)) c.loop-range.invariant.breaks;
      meaning = turn_joined (option_map list_of c.loop-range.list.meaning) (option_map list_of c.keep.new.list.meaning) c.in_ok-judged.judged.meaning j.meaning (judged_ranges s x n rest).meaning _ _
          c.in_ok-keep.ensures.meaning c.in_ok-judged.ensures.meaning (ap (λ k. (judged_ranges s x b k).meaning) d ∙ ap (λ m. both (λ y ys. y ∷ ys) j.meaning (judged_ranges s x m rest).meaning) (sym e)) c.loop-range.invariant.meaning;
      before = ap (λ m. ranges_behind s x m rest) e ∙ sym (ap (λ k. ranges_behind s x b k) d) ∙ c.loop-range.invariant.before;
    }
