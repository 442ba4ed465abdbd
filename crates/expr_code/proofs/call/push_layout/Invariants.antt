use Rattle.std.proofs.Common.{◌≡◌, drop}
use Rattle.tree_meaning.specs.Expressions.{laying_out}
use Rattle.expr_code.specs.Drafts.{written}
use Rattle.expr_code.proofs.call.push_layout.Given as goal

abbrev pub invariant-loop-variable : goal.invariant-loop-variable
invariant-loop-variable l = written l.line (laying_out (drop l.variable-index l.variables) l.n) l.draft ≡ written l.line (laying_out l.variables 0) l.initial.draft
