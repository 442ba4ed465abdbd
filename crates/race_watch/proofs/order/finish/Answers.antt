use Rattle.std.proofs.Common.{◌-◌, ◌∙◌, [], length, arith, ap}
use Rattle.std.proofs.lemmas.List.{get_or_read}
use Rattle.segment_clock.proofs.Joins.{length_joined}
use Rattle.race_watch.specs.Tables.{counts_of}
use Rattle.race_watch.proofs.order.finish.Goals as goal

pub tick-requires-clause-last : goal.tick-requires-clause-last
tick-requires-clause-last c =
    let a = c.requires.first in
    let b = c.requires.last.0 in
    let own = ap length (get_or_read c.args.images.now.items (c.args.image.0 - 1) c.index_mut-clock.result.now (omega arith) c.index_mut-clock.ensures.value []) in
    let e = ap length c.take.ensures ∙ length_joined c.index_mut-clock.result.now (counts_of c.args.told.now) in
    let l = c.requires.long in
    omega arith
