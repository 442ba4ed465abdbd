use Rattle.std.proofs.Common.{◌+◌, ◌*◌, ◌^◌, ◌<◌, ◌==◌, max, cond, refl}
use Rattle.coarray_types.specs.Distances.{distance}
use Rattle.coarray_types.specs.Places.{extent_of}
use Rattle.array_places.proofs.Ways.{first_fits, new_less, new_small}
use Rattle.array_places.proofs.section.Way.take.Goals as goal

pub start_behind-self-requires-clause-fits : goal.start_behind-self-requires-clause-fits
start_behind-self-requires-clause-fits c =
    let a = c.keep.new.self.apart in
    let s = c.keep.new.self.start in
    let d = c.args.subscripts.now in
    let less : 0 < a → s < a = rw (c.keep.ensures.apart, c.keep.ensures.start) c.requires.less in
    let small : s < 2 ^ 63 = rw c.keep.ensures.start c.requires.small in
    let wide : a * max 1 (extent_of (c.args.lower.now, c.args.upper.now)) < 2 ^ 63 = rw c.keep.ensures.apart c.requires.wide in
    first_fits c.args.lower.now c.args.upper.now d a s (cond (d.count == 0) s (s + a * distance c.args.lower.now d.first)) c.requires.lies less refl small wide

pub returns-clause-less : goal.returns-clause-less
returns-clause-less c =
    let a = c.keep.new.self.apart in
    let s = c.keep.new.self.start in
    let less : 0 < a → s < a = rw (c.keep.ensures.apart, c.keep.ensures.start) c.requires.less in
    rw c.extent.ensures (new_less c.args.lower.now c.args.upper.now c.args.subscripts.now a s c.start_behind-self.result c.requires.lies less c.start_behind-self.ensures.near)

pub returns-clause-small : goal.returns-clause-small
returns-clause-small c =
    let a = c.keep.new.self.apart in
    let s = c.keep.new.self.start in
    let less : 0 < a → s < a = rw (c.keep.ensures.apart, c.keep.ensures.start) c.requires.less in
    let small : s < 2 ^ 63 = rw c.keep.ensures.start c.requires.small in
    let wide : a * max 1 (extent_of (c.args.lower.now, c.args.upper.now)) < 2 ^ 63 = rw c.keep.ensures.apart c.requires.wide in
    new_small c.args.lower.now c.args.upper.now c.args.subscripts.now a s c.start_behind-self.result c.requires.lies less c.start_behind-self.ensures.near small wide
