use Rattle.walk_theory.proofs.Terms.{value_comes}
use Rattle.walk_theory.proofs.term_laws.law_value_comes.Goals as goal

pub returns : goal.returns
returns g c forgets = value_comes g.S.Valued.language g.S.Valued.put g.S.Valued.meaning forgets g.S.Valued.procedures g.S.Valued.limit
