use Rattle.coarray_tables.proofs.Agreeing.{index_agrees}
use Rattle.coarray_tables.proofs.laws.law_image_index.Goals as goal

pub returns : goal.returns
returns c = index_agrees
