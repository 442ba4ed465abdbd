use Rattle.trace_names.proofs.Coarrays.{read_named}
use Rattle.trace_names.proofs.laws.law_read_declares_names.Goals as goal

pub returns : goal.returns
returns c = read_named
