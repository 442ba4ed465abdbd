use Rattle.walk_theory.proofs.Ends.{ends}
use Rattle.walk_theory.proofs.walk_laws.law_ends.Goals as goal

pub returns : goal.returns
returns g c = ends g.S.Spoken.language g.S.Spoken.procedures g.S.Spoken.limit
