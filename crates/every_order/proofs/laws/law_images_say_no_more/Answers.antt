use Rattle.trace_theory.proofs.Machines.{one_next_ask}
use Rattle.caf_events.specs.declared.ask.Ask.{Ask}
use Rattle.caf_events.specs.declared.reply.Reply.{Reply}
use Rattle.core_runs.specs.Moments.{rules}
use Rattle.every_order.proofs.Induction.{all_follow}
use Rattle.every_order.proofs.laws.law_images_say_no_more.Goals as goal

pub returns : goal.returns
returns g c n b t u core replies stays run =
    let one = one_next_ask g.M.Walker.Config Ask Reply g.M.Walker.step in
    let f = all_follow n (rules g.M.Walker g.O.Object g.B.Object) b one t core replies stays u run in
    record { left = f.left; splits = f.splits }
