use Rattle.walk_theory.proofs.Nesting.{fault_changes_nothing}
use Rattle.walk_theory.proofs.walk_laws.law_fault_changes_nothing.Goals as goal

pub returns : goal.returns
returns g c = fault_changes_nothing g.S.Spoken.language g.S.Spoken.procedures g.S.Spoken.limit
