use Rattle.core_runs.proofs.Fronts.{lawful_trace_front}
use Rattle.core_runs.proofs.order_laws.law_lawful_front.Goals as goal

pub returns : goal.returns
returns c = lawful_trace_front
