use Rattle.std.proofs.Common.{◌≡◌, ◌++◌, drop, map}
use Rattle.std.specs.Option.{option_map}
use Rattle.checked_tree.specs.ExpressionViews.{expression}
use Rattle.fortran_tree.specs.StatementViews.{case_range}
use Rattle.part_rules.specs.Views.{list_of}
use Rattle.rule_definitions.specs.Judgements.{both}
use Rattle.rule_definitions.specs.Statements.{judged_ranges, ranges_behind}
use Rattle.case_rules.proofs.case.judge_ranges.Given as goal

-- the ranges so far, and those of what is left, are those of all
abbrev pub invariant-loop-range : goal.invariant-loop-range
invariant-loop-range l = record {
  breaks : l.list.breaks.items ++ (judged_ranges l.scope (option_map expression l.selector) l.before (map case_range (drop l.range-index l.ranges))).breaks
      ≡ (judged_ranges l.scope (option_map expression l.selector) l.initial.before (map case_range l.ranges)).breaks;
  meaning : both (λ xs ys. xs ++ ys) (option_map list_of l.list.meaning) (judged_ranges l.scope (option_map expression l.selector) l.before (map case_range (drop l.range-index l.ranges))).meaning
      ≡ (judged_ranges l.scope (option_map expression l.selector) l.initial.before (map case_range l.ranges)).meaning;
  before : ranges_behind l.scope (option_map expression l.selector) l.before (map case_range (drop l.range-index l.ranges))
      ≡ ranges_behind l.scope (option_map expression l.selector) l.initial.before (map case_range l.ranges);
}
