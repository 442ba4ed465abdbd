use Rattle.walk_theory.proofs.Wide.{has_wide_walks}
use Rattle.walk_theory.proofs.code_laws.law_has_wide_walks.Goals as goal

pub returns : goal.returns
returns g c last bodies line = has_wide_walks g.S.Widened.language g.S.Widened.wides g.S.Widened.kept g.S.Widened.answers last bodies line g.S.Widened.limit
