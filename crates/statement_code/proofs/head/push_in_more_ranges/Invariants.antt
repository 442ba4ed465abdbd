use Rattle.std.proofs.Common.{◌≡◌, drop}
use Rattle.tree_meaning.specs.Forms.{in_more_ranges}
use Rattle.tree_meaning.specs.Sequences.{doing}
use Rattle.expr_code.specs.Drafts.{written}
use Rattle.statement_code.proofs.head.push_in_more_ranges.Given as goal

abbrev pub invariant-loop-range : goal.invariant-loop-range
invariant-loop-range l = written l.line (doing (in_more_ranges l.cell (drop l.range-index l.ranges))) l.draft ≡ written l.line (doing (in_more_ranges l.cell l.ranges)) l.initial.draft
