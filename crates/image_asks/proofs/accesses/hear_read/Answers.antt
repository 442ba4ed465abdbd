use Rattle.std.proofs.Common.{◌≡◌, ◌+◌, ◌*◌, ◌-◌, ◌^◌, drop, ap, ◌∙◌, arith}
use Rattle.std.specs.Prelude.{min}
use Rattle.image_acts.specs.Core.{with_values}
use Rattle.image_acts.specs.Places.{Place, place_in, place_size, extents_of, cells_of}
use Rattle.array_values.specs.Extents.{listed}
use Rattle.image_state.specs.Kept.{Kept}
use Rattle.image_state.specs.Acting.{with_core}
use Rattle.image_state.specs.Places.{place_at}
use Rattle.image_asks.proofs.AccessAsks.{read_heard}
use Rattle.image_asks.proofs.ReplyLaws.{read_put}
use Rattle.image_asks.proofs.accesses.hear_read.Goals as goal

pub returns : goal.returns
returns c =
    let m : Kept = c.args.image.now in
    let p : Place = place_in (place_at 1 c.args.rank m.core.values) in
    let n : 2 * c.args.rank + 2 ≡ place_size c.args.rank + 1 = omega arith in
    read_heard m c.args.coarray c.args.rank c.push_status.new.image c.args.reply.now c.requires.asks
    (read_put m c.drop_top.new.self c.put_values.new.image c.push_status.new.image (place_size c.args.rank + 1) c.cells_in-cells.result (listed c.extents_of-extents.result) p c.args.reply.now
    (c.extents_of-extents.ensures ∙ ap (λ ns. extents_of (place_in ns)) c.place-place.ensures)
    (c.cells_in-cells.ensures ∙ ap (λ ns. min (cells_of (place_in ns)) (2 ^ 64 - 1)) c.place-place.ensures)
    (c.drop_top.ensures ∙ ap (λ i. with_core m (with_values m.core (drop i m.core.values))) n)
    c.put_values.ensures
    c.push_status.ensures)
