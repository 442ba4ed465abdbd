use Rattle.array_places.proofs.Ways.{spread_size}
use Rattle.array_places.proofs.laws.law_spread_is_size.Goals as goal

pub returns : goal.returns
returns c = spread_size
