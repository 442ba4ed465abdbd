use Rattle.walk_theory.proofs.Programs.{has_walks}
use Rattle.walk_theory.proofs.code_laws.law_has_walks.Goals as goal

pub returns : goal.returns
returns g c last bodies line = has_walks g.S.Spoken.language g.S.Spoken.answers last bodies line g.S.Spoken.limit
