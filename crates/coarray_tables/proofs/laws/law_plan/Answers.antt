use Rattle.std.proofs.Common.{refl}
use Rattle.coarray_tables.proofs.laws.law_plan.Goals as goal

pub returns : goal.returns
returns c = λ k depth rank corank d. refl
