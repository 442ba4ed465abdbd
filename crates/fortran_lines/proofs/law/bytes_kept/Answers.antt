use Rattle.fortran_lines.proofs.Keeping.{all_kept}
use Rattle.fortran_lines.proofs.law.bytes_kept.Goals as goal

pub returns : goal.returns
returns c = all_kept
