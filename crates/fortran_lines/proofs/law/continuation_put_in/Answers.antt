use Rattle.fortran_lines.proofs.Parting.{parted}
use Rattle.fortran_lines.proofs.law.continuation_put_in.Goals as goal

pub returns : goal.returns
returns c = parted
