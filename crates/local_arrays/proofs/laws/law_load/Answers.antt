use Rattle.local_arrays.proofs.CoreLaws.{load_agrees}
use Rattle.local_arrays.proofs.laws.law_load.Goals as goal

pub returns : goal.returns
returns c = load_agrees
