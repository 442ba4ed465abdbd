use Rattle.std.proofs.Common.{map}
use Rattle.branch_rules.specs.Sites.{around}
use Rattle.branch_rules.proofs.Targets.{target_found}
use Rattle.branch_rules.proofs.branch.find_target.Goals as goal

pub loop-inner-init : goal.loop-inner-init
loop-inner-init c = target_found c.args.construct.now (map around c.args.around.now)
