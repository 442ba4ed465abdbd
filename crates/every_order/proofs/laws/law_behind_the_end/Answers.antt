use Rattle.trace_theory.proofs.Machines.{one_next_ask}
use Rattle.caf_events.specs.declared.ask.Ask.{Ask}
use Rattle.caf_events.specs.declared.reply.Reply.{Reply}
use Rattle.core_runs.specs.Moments.{rules}
use Rattle.every_order.proofs.AtEnd.{ended_stays, waits_for}
use Rattle.every_order.proofs.laws.law_behind_the_end.Goals as goal

pub returns : goal.returns
returns g c =
    let one = one_next_ask g.M.Walker.Config Ask Reply g.M.Walker.step in
    record {
      ended = λ b t h x run whole ends. ended_stays (rules g.M.Walker g.O.Object g.B.Object) b one t h x run whole ends;
      waits = λ b t h x line ask run whole w. waits_for (rules g.M.Walker g.O.Object g.B.Object) b one t h x line ask run whole w;
    }
