use Rattle.trace_theory.proofs.Machines.{one_next_ask}
use Rattle.caf_events.specs.declared.ask.Ask.{Ask}
use Rattle.caf_events.specs.declared.reply.Reply.{Reply}
use Rattle.core_runs.proofs.order_laws.law_one_next_ask.Goals as goal

pub returns : goal.returns
returns g c = one_next_ask g.M.Walker.Config Ask Reply g.M.Walker.step
