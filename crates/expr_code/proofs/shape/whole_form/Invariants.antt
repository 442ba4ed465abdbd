use Rattle.std.proofs.Common.{◌≡◌}
use Rattle.tree_meaning.specs.Expressions.{whole_form}
use Rattle.expr_code.proofs.shape.whole_form.Given as goal

abbrev pub invariant-loop-dimension : goal.invariant-loop-dimension
invariant-loop-dimension l = l.form ≡ whole_form l._dimension
