use Rattle.trace_forms.specs.Files.{lines_of}
use Rattle.trace_forms.proofs.Once.{written_once}
use Rattle.trace_forms.proofs.laws.law_written_once.Goals as goal

pub returns : goal.returns
returns c bytes names t u are w v = written_once (lines_of bytes) names t u are w v
