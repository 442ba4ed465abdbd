use Rattle.trace_names.proofs.Programs.{variables_differ}
use Rattle.trace_names.proofs.laws.law_variables_have_names.Goals as goal

pub returns : goal.returns
returns c = variables_differ
