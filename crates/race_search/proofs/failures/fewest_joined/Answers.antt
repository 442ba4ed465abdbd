use Rattle.std.proofs.Common.{arith}
use Rattle.race_search.proofs.KeptFailures.{fewest_below}
use Rattle.race_search.proofs.failures.fewest_joined.Goals as goal

pub loop-image-init : goal.loop-image-init
loop-image-init c = record { fewest = fewest_below c.args.team c.args.before.now c.args.most c.args.images.now; low = omega arith }
