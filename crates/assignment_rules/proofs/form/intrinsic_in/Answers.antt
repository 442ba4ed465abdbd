use Rattle.std.proofs.Common.{sym}
use Rattle.assignment_rules.proofs.Forms.{other_is_none}
use Rattle.assignment_rules.proofs.form.intrinsic_in.Goals as goal

pub returns-in_default : goal.returns-in_default
returns-in_default c = sym (other_is_none c.args.form (λ i e. c.in_default.not-Intrinsic i e))
