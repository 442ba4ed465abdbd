use Rattle.std.proofs.Common.{◌<◌, arith, length}
use Rattle.std.proofs.lemmas.Grind.{common_steps}
use Rattle.atomic_table.proofs.Lists.{at_index}
use Rattle.crew.proofs.Going.{ended_by}
use Rattle.crew.proofs.worker.has_ended.Goals as goal

pub returns-then-ended_run : goal.returns-then-ended_run
returns-then-ended_run g c true_is =
    let ok = c.args.members.now.ok in
    let lt : c.loop-j.j < length c.args.members.now.items = grind (arith, common_steps) in
    record {
      place = c.loop-j.j;
      member = c.index.result.now;
      at = at_index _ _ _ lt c.index.ensures;
      ends = ended_by c.index.result.now.run.events.items c.ended_run.result c.ended_run.ensures.last c.ended_run.ensures.none c.if-ended_run.true;
    }

pub returns : goal.returns
returns g c bad = absurd (cc)
