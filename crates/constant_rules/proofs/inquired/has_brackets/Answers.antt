use Rattle.constant_rules.proofs.Lacking.{brackets_there}
use Rattle.constant_rules.proofs.inquired.has_brackets.Goals as goal

pub returns-in-len1-up : goal.returns-in-len1-up
returns-in-len1-up c = brackets_there c.args.subscripts.now c.in-len1-up.len_at_least
