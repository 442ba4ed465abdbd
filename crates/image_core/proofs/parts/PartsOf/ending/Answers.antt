use Rattle.std.proofs.Common.{◌≡◌, ◌<◌, ◌∙◌, [], length, subst, sym, arith, get_or}
use borrow.Author.Count.{below_more}
use Rattle.run_outlook.proofs.Slices.{map_index, map_length}
use Rattle.image_core.specs.declared.run.ImageRun.{ImageRun}
use Rattle.image_core.specs.Parts.{event_lists}
use Rattle.image_core.proofs.Endings.{IsOpenAt, ending_here, open_here, open_all}
use Rattle.image_core.proofs.parts.PartsOf.ending.Goals as goal

pub returns-then-ended_run : goal.returns-then-ended_run
returns-then-ended_run g c =
    let images = c.args.self.now.images.items in
    let k = c.loop-run.run-index in
    let within : k < length images = omega arith in
    let is : c.run-item.result ≡ get_or images k c.run-item.result = subst (λ xs. c.run-item.result ≡ get_or xs k c.run-item.result) c.deref-run-items.ensures.value c.run-item.is in
    let here = ending_here (event_lists images) k c.run-item.result.events.items (map_index (λ (x : ImageRun g.row.M.Denot). x.events.items) images k c.run-item.result [] within is)
    c.ended_run.result c.ended_run.ensures.last c.ended_run.ensures.none c.if-ended_run.true in
    (here.0, here.1 ∙ sym (c.requires k c.run-item.result within is))

pub loop-run-preserved : goal.loop-run-preserved
loop-run-preserved g c =
    let images = c.args.self.now.images.items in
    let k = c.loop-run.run-index in
    let within : k < length images = omega arith in
    let is : c.run-item.result ≡ get_or images k c.run-item.result = subst (λ xs. c.run-item.result ≡ get_or xs k c.run-item.result) c.deref-run-items.ensures.value c.run-item.is in
    below_more (λ j. IsOpenAt (event_lists images) j) k c.loop-run.invariant
    (open_here (event_lists images) k c.run-item.result.events.items (map_index (λ (x : ImageRun g.row.M.Denot). x.events.items) images k c.run-item.result [] within is)
    c.ended_run.result c.ended_run.ensures.last c.if-ended_run.false)

pub returns : goal.returns
returns g c =
    let images = c.args.self.now.images.items in
    let many = map_length (λ (x : ImageRun g.row.M.Denot). x.events.items) images in
    open_all (event_lists images) (λ j low. c.loop-run.invariant j (omega (arith, low, many)))
