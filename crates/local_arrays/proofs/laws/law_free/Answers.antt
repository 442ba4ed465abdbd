use Rattle.local_arrays.proofs.CoreLaws.{free_agrees}
use Rattle.local_arrays.proofs.laws.law_free.Goals as goal

pub returns : goal.returns
returns c = free_agrees
