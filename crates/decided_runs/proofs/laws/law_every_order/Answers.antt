use Rattle.trace_theory.proofs.Machines.{one_next_ask}
use Rattle.caf_events.specs.declared.ask.Ask.{Ask}
use Rattle.caf_events.specs.declared.reply.Reply.{Reply}
use Rattle.decided_runs.proofs.Events.{events_speak}
use Rattle.decided_runs.proofs.laws.law_every_order.Goals as goal

pub returns : goal.returns
returns g c s n first t u declared fit core end decided run =
    events_speak g.M.Walker.step g.M.Walker.hears (one_next_ask g.M.Walker.Config Ask Reply g.M.Walker.step) s n first t declared fit core end decided u run
