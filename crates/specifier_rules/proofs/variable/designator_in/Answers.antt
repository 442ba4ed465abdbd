use Rattle.std.proofs.Common.{sym}
use Rattle.specifier_rules.proofs.Forms.{other_is_none}
use Rattle.specifier_rules.proofs.variable.designator_in.Goals as goal

pub returns-in_default : goal.returns-in_default
returns-in_default c = sym (other_is_none c.args.form (λ d e. c.in_default.not-Designator d e))
