use Rattle.constant_values.proofs.Designators.{agree_turn}
use Rattle.constant_values.proofs.agreement.+all_agree.Goals as goal

pub returns : goal.returns
returns t c =
    agree_turn c.args.bounds.now c.args.found.now _ _ c.all_agree.result c.in-len1-up.len_at_least c.in-len1-up-found.len_at_least c.if-not-agrees.ensures c.all_agree.ensures
