use Rattle.image_lanes.proofs.LaneLaws.{few_at_first}
use Rattle.image_lanes.proofs.laws.law_few.Goals as goal

pub returns : goal.returns
returns g r image fails_at limit c = few_at_first g.M.Walker.step image fails_at limit c
