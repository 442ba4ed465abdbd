use Rattle.trace_names.proofs.Coarrays.{coarrays_named}
use Rattle.trace_names.proofs.laws.law_coarrays_have_names.Goals as goal

pub returns : goal.returns
returns c = coarrays_named
