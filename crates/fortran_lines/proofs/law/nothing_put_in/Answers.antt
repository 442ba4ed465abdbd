use Rattle.fortran_lines.proofs.Nothing.{nothing_in}
use Rattle.fortran_lines.proofs.law.nothing_put_in.Goals as goal

pub returns : goal.returns
returns c = nothing_in
