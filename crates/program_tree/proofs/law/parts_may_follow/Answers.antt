use Rattle.program_tree.proofs.Follows.{rest_follows}
use Rattle.program_tree.proofs.law.parts_may_follow.Goals as goal

pub returns : goal.returns
returns c = rest_follows
