use Rattle.std.proofs.Common.{◌≡◌, ◌-◌, ◌∙◌, [], length, get_or, arith, ap, sym, subst}
use Rattle.std.proofs.lemmas.List.{get_or_read}
use Rattle.segment_clock.specs.Counts.{count_of}
use Rattle.race_watch.specs.Classes.{MarksOf, as_mark}
use Rattle.race_watch.specs.Rows.{any_of}
use Rattle.race_watch.proofs.Turning.{own_size}
use Rattle.race_watch.proofs.Marking.{in_range, made_mark, decided}
use Rattle.race_watch.proofs.marks.Marks.meets.Goals as goal

pub clashes-requires : goal.clashes-requires
clashes-requires c l k =
    let o = c.requires.order in
    let a = c.requires.image.0 in
    let b = c.requires.image.1 in
    let many = o.image_count in
    let clock = get_or_read c.args.order.now.images.items (c.args.e.now.image.0 - 1) c.index-2.result.now (omega arith) c.index-2.ensures [] in
    subst (λ rows. MarksOf (length c.index-2.result.now) (get_or (get_or rows l []) k [])) (sym c.self.view_is)
    (in_range c.args.n (length c.index-2.result.now) _ (ap length clock ∙ own_size c.args.n c.args._before.now c.args.order.now o c.args.e.now a b) (c.requires.marks.ranges l k))

pub returns : goal.returns
returns c =
    let o = c.requires.order in
    let a = c.requires.image.0 in
    let b = c.requires.image.1 in
    let many = o.completed_count in
    let images = o.image_count in
    let clock = get_or_read c.args.order.now.images.items (c.args.e.now.image.0 - 1) c.index-2.result.now (omega arith) c.index-2.ensures [] in
    let count = get_or_read c.args.order.now.completed.items (c.args.e.now.image.0 - 1) c.index.result.now (omega arith) c.index.ensures 0 in
    decided c.args.n c.args._before.now c.args.order.now o c.args.e.now a b _ c.requires.marks c.args.touch.now c.requires.touch c.clashes.result c.index-2.result.now _ c.line_of-line.result clock
    (made_mark c.args.n c.args._before.now c.args.order.now o c.args.e.now a b _ c.requires.marks c.args.touch.now c.requires.touch c.index.result.now count) c.line_of-line.ensures
    (subst (λ rows. c.clashes.result ≡ any_of (count_of c.index-2.result.now) (as_mark (record { image = c.args.e.now.image; segment = c.index.result.now; class = c.args.touch.now.class })) (get_or rows c.line_of-line.result []) c.args.touch.now.cells.items) c.self.view_is (let h = c.clashes.ensures in (rw c.as_slice.ensures.value at h)))
