use Rattle.std.proofs.Common.{ap, arith}
use Rattle.std.proofs.lemmas.List.{length-reverse}
use Rattle.image_acts.specs.Teams.{counted_from}
use Rattle.image_stores.specs.Piles.{Piled, items_in}
use Rattle.array_values.proofs.RowLaws.{counted_long}
use Rattle.array_values.proofs.values.put_counted.Goals as goal

pub add-requires-clause-room : goal.add-requires-clause-room
add-requires-clause-room c =
    let e = ap (λ (s : Piled _ _). items_in s.piles) c.loop-i.invariant in
    let f = ap (λ (s : Piled _ _). s.size) c.loop-i.invariant in
    let l = length-reverse (counted_from 1 c.loop-i.i) in
    let k = counted_long 1 c.loop-i.i in
    let r = c.requires.room in
    let t = c.loop-i-test.true in
    omega arith
