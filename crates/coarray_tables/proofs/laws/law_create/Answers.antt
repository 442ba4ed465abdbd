use Rattle.std.proofs.Common.{refl}
use Rattle.coarray_tables.proofs.laws.law_create.Goals as goal

pub returns : goal.returns
returns c = λ k depth rank d. refl
