use Rattle.std.proofs.Common.{arith}
use Rattle.image_sync.proofs.row.has_partner.Goals as goal

pub returns : goal.returns
returns c = grind arith
