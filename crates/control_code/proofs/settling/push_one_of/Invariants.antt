use Rattle.std.proofs.Common.{◌≡◌, drop}
use Rattle.tree_meaning.specs.Sequences.{is_one_of}
use Rattle.expr_code.specs.Drafts.{written}
use Rattle.control_code.proofs.settling.push_one_of.Given as goal

abbrev pub invariant-loop-status : goal.invariant-loop-status
invariant-loop-status l = written l.line (is_one_of (drop l.status-index l.statuses)) l.draft ≡ written l.line (is_one_of l.statuses) l.initial.draft
