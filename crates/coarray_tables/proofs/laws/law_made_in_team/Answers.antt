use Rattle.std.proofs.Common.{refl}
use Rattle.coarray_tables.proofs.laws.law_made_in_team.Goals as goal

pub returns : goal.returns
returns c = λ k d. refl
