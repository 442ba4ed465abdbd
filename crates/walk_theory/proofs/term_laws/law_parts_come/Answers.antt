use Rattle.walk_theory.proofs.Evaluation.{parts_come}
use Rattle.walk_theory.proofs.term_laws.law_parts_come.Goals as goal

pub returns : goal.returns
returns g c = parts_come g.S.Spoken.language g.S.Spoken.procedures g.S.Spoken.limit
