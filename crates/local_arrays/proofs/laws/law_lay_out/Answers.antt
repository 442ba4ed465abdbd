use Rattle.local_arrays.proofs.CoreLaws.{lay_out_agrees}
use Rattle.local_arrays.proofs.laws.law_lay_out.Goals as goal

pub returns : goal.returns
returns c = lay_out_agrees
