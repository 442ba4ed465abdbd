use Rattle.race_watch.proofs.Firsts.{first_ordered}
use Rattle.race_watch.proofs.order.Order.new.Goals as goal

pub returns : goal.returns
returns c = first_ordered c.args.n _ c.in_ok-first_clocks.ensures.count c.in_ok-first_clocks.ensures.clocks c.in_ok-no_counts.ensures c.in_ok-no_names.ensures.count c.in_ok-no_names.ensures.names c.new.ensures c.new-2.ensures c.new-3.ensures c.new-4.ensures c.new-5.ensures
