use Rattle.std.proofs.Common.{length}
use Rattle.expr_code.proofs.shape.+element_form.Given as goal

abbrev pub decreases-element_form : goal.decreases-element_form
decreases-element_form l = length l.subscripts.now
