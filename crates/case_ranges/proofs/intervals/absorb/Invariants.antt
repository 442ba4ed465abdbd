use Rattle.std.proofs.Common.{List}
use Rattle.std.specs.BTreeMap.{btree_map_len}
use Rattle.checked_tree.specs.declared.statement.CaseRange.{CaseRange}
use Rattle.case_ranges.specs.Intervals.{AreApart, KeepsWith}
use Rattle.case_ranges.proofs.intervals.absorb.Given as goal

-- what is left, and the interval so far, have the numbers that all had
abbrev pub invariant-loop-met : goal.invariant-loop-met
invariant-loop-met l = record {
  keeps : (xs : List CaseRange) → KeepsWith l.initial.intervals l.initial.all.low l.initial.all.high xs → KeepsWith l.intervals l.all.low l.all.high xs;
  apart : AreApart l.initial.intervals → AreApart l.intervals;
}

abbrev pub decreases-loop-met : goal.decreases-loop-met
decreases-loop-met l = btree_map_len l.intervals
