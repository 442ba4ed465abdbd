use Rattle.std.proofs.Common.{refl}
use Rattle.coarray_tables.proofs.laws.law_allotment.Goals as goal

pub returns : goal.returns
returns c = λ n d. refl
