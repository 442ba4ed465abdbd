use Rattle.told_walks.proofs.Walks.{start_walks}
use Rattle.told_walks.proofs.laws.law_bodies_walk_told.Goals as goal

pub returns : goal.returns
returns c procedures limit line first k names known = start_walks procedures limit names line first k known
