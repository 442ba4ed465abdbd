use Rattle.walk_theory.proofs.Nesting.{nothing_after}
use Rattle.walk_theory.proofs.walk_laws.law_nothing_after.Goals as goal

pub returns : goal.returns
returns g c = nothing_after g.S.Spoken.language g.S.Spoken.procedures g.S.Spoken.limit
