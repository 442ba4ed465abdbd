use Rattle.act_sizes.proofs.Acts.{act_sized}
use Rattle.act_sizes.proofs.laws.law_acts_have_their_sizes.Goals as goal

pub returns : goal.returns
returns c = act_sized
