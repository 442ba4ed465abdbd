use Rattle.std.proofs.Common.{◌≡◌, ℕ, ◌-◌, ◌∙◌, ◌&&◌, nat_eq, cond, [], length, set, take, drop, refl, ap, sym, subst, arith}
use Rattle.std.proofs.lemmas.List.{get_or_read}
use Rattle.race_watch.specs.Tables.{queue_at, joined_all}
use Rattle.race_watch.specs.ActParts.{as_cell}
use Rattle.race_watch.specs.Orders.{clock_of, event_at, Sized}
use Rattle.race_watch.proofs.Turning.{own_size, sized_all}
use Rattle.race_watch.proofs.Forgetting.{forgets_none}
use Rattle.race_watch.proofs.Finishing.{put_in, taken_queue, ready, finished}
use Rattle.race_watch.proofs.Keys as keys
use Rattle.race_watch.proofs.order.waits.Goals as goal

pub take-requires : goal.take-requires
take-requires c = sized_all c.args.n _ _ (ap length (get_or_read c.args.order.now.images.items (c.args.e.now.image.0 - 1) c.index_mut-clock.result.now (let a = c.requires.act.first in let b = c.requires.act.last in let z = c.requires.act.ordered.image_count in omega arith) c.index_mut-clock.ensures.value []) ∙ own_size c.args.n c.args._before.now c.args.order.now c.requires.act.ordered c.args.e.now c.requires.act.first c.requires.act.last) (subst (Sized c.args.n) (sym (ap (λ z. queue_at c.args.order.now.events z c.args.cell.offset) c.line_of-line.ensures)) (c.requires.act.ordered.events (as_cell c.args.cell) c.requires.owner.0 c.requires.owner.1).sized)

pub finish-requires-clause-last : goal.finish-requires-clause-last
finish-requires-clause-last c = (ready c.args.n c.args._before.now c.args.e.now _ c.args.order.now _ c.requires.act _ _ (taken_queue c.args.n c.args._before.now c.args.e.now _ c.args.order.now _ c.requires.act (as_cell c.args.cell) c.args.posts (event_at c.args.n c.args.order.now (as_cell c.args.cell)) refl (c.requires.act.ordered.events (as_cell c.args.cell) c.requires.owner.0 c.requires.owner.1)) _ (put_in c.args.n c.args._before.now c.args.e.now _ c.args.order.now _ c.requires.act _ _ (ap (λ z. set c.args.order.now.images.items (c.args.e.now.image.0 - 1) z) (c.take.ensures.clock ∙ ap (λ z. joined_all z (take c.args.posts (queue_at c.args.order.now.events c.line_of-line.result c.args.cell.offset))) (get_or_read c.args.order.now.images.items (c.args.e.now.image.0 - 1) c.index_mut-clock.result.now (let a = c.requires.act.first in let b = c.requires.act.last in let z = c.requires.act.ordered.image_count in omega arith) c.index_mut-clock.ensures.value []) ∙ ap (λ z. joined_all (clock_of c.args.order.now c.args.e.now.image.0) (take c.args.posts z)) (ap (λ z. queue_at c.args.order.now.events z c.args.cell.offset) c.line_of-line.ensures))))).last

pub finish-requires-clause-long : goal.finish-requires-clause-long
finish-requires-clause-long c = (ready c.args.n c.args._before.now c.args.e.now _ c.args.order.now _ c.requires.act _ _ (taken_queue c.args.n c.args._before.now c.args.e.now _ c.args.order.now _ c.requires.act (as_cell c.args.cell) c.args.posts (event_at c.args.n c.args.order.now (as_cell c.args.cell)) refl (c.requires.act.ordered.events (as_cell c.args.cell) c.requires.owner.0 c.requires.owner.1)) _ (put_in c.args.n c.args._before.now c.args.e.now _ c.args.order.now _ c.requires.act _ _ (ap (λ z. set c.args.order.now.images.items (c.args.e.now.image.0 - 1) z) (c.take.ensures.clock ∙ ap (λ z. joined_all z (take c.args.posts (queue_at c.args.order.now.events c.line_of-line.result c.args.cell.offset))) (get_or_read c.args.order.now.images.items (c.args.e.now.image.0 - 1) c.index_mut-clock.result.now (let a = c.requires.act.first in let b = c.requires.act.last in let z = c.requires.act.ordered.image_count in omega arith) c.index_mut-clock.ensures.value []) ∙ ap (λ z. joined_all (clock_of c.args.order.now c.args.e.now.image.0) (take c.args.posts z)) (ap (λ z. queue_at c.args.order.now.events z c.args.cell.offset) c.line_of-line.ensures))))).long

pub finish-requires-clause-told : goal.finish-requires-clause-told
finish-requires-clause-told c = (ready c.args.n c.args._before.now c.args.e.now _ c.args.order.now _ c.requires.act _ _ (taken_queue c.args.n c.args._before.now c.args.e.now _ c.args.order.now _ c.requires.act (as_cell c.args.cell) c.args.posts (event_at c.args.n c.args.order.now (as_cell c.args.cell)) refl (c.requires.act.ordered.events (as_cell c.args.cell) c.requires.owner.0 c.requires.owner.1)) _ (put_in c.args.n c.args._before.now c.args.e.now _ c.args.order.now _ c.requires.act _ _ (ap (λ z. set c.args.order.now.images.items (c.args.e.now.image.0 - 1) z) (c.take.ensures.clock ∙ ap (λ z. joined_all z (take c.args.posts (queue_at c.args.order.now.events c.line_of-line.result c.args.cell.offset))) (get_or_read c.args.order.now.images.items (c.args.e.now.image.0 - 1) c.index_mut-clock.result.now (let a = c.requires.act.first in let b = c.requires.act.last in let z = c.requires.act.ordered.image_count in omega arith) c.index_mut-clock.ensures.value []) ∙ ap (λ z. joined_all (clock_of c.args.order.now c.args.e.now.image.0) (take c.args.posts z)) (ap (λ z. queue_at c.args.order.now.events z c.args.cell.offset) c.line_of-line.ensures))))).told_size

pub finish-requires-clause-room : goal.finish-requires-clause-room
finish-requires-clause-room c = (ready c.args.n c.args._before.now c.args.e.now _ c.args.order.now _ c.requires.act _ _ (taken_queue c.args.n c.args._before.now c.args.e.now _ c.args.order.now _ c.requires.act (as_cell c.args.cell) c.args.posts (event_at c.args.n c.args.order.now (as_cell c.args.cell)) refl (c.requires.act.ordered.events (as_cell c.args.cell) c.requires.owner.0 c.requires.owner.1)) _ (put_in c.args.n c.args._before.now c.args.e.now _ c.args.order.now _ c.requires.act _ _ (ap (λ z. set c.args.order.now.images.items (c.args.e.now.image.0 - 1) z) (c.take.ensures.clock ∙ ap (λ z. joined_all z (take c.args.posts (queue_at c.args.order.now.events c.line_of-line.result c.args.cell.offset))) (get_or_read c.args.order.now.images.items (c.args.e.now.image.0 - 1) c.index_mut-clock.result.now (let a = c.requires.act.first in let b = c.requires.act.last in let z = c.requires.act.ordered.image_count in omega arith) c.index_mut-clock.ensures.value []) ∙ ap (λ z. joined_all (clock_of c.args.order.now c.args.e.now.image.0) (take c.args.posts z)) (ap (λ z. queue_at c.args.order.now.events z c.args.cell.offset) c.line_of-line.ensures))))).roomy

pub finish-requires-clause-more : goal.finish-requires-clause-more
finish-requires-clause-more c = (ready c.args.n c.args._before.now c.args.e.now _ c.args.order.now _ c.requires.act _ _ (taken_queue c.args.n c.args._before.now c.args.e.now _ c.args.order.now _ c.requires.act (as_cell c.args.cell) c.args.posts (event_at c.args.n c.args.order.now (as_cell c.args.cell)) refl (c.requires.act.ordered.events (as_cell c.args.cell) c.requires.owner.0 c.requires.owner.1)) _ (put_in c.args.n c.args._before.now c.args.e.now _ c.args.order.now _ c.requires.act _ _ (ap (λ z. set c.args.order.now.images.items (c.args.e.now.image.0 - 1) z) (c.take.ensures.clock ∙ ap (λ z. joined_all z (take c.args.posts (queue_at c.args.order.now.events c.line_of-line.result c.args.cell.offset))) (get_or_read c.args.order.now.images.items (c.args.e.now.image.0 - 1) c.index_mut-clock.result.now (let a = c.requires.act.first in let b = c.requires.act.last in let z = c.requires.act.ordered.image_count in omega arith) c.index_mut-clock.ensures.value []) ∙ ap (λ z. joined_all (clock_of c.args.order.now c.args.e.now.image.0) (take c.args.posts z)) (ap (λ z. queue_at c.args.order.now.events z c.args.cell.offset) c.line_of-line.ensures))))).more

pub returns : goal.returns
returns c =
    finished c.args.n c.args._before.now c.args.e.now _ c.args.order.now _ c.requires.act _ _ (taken_queue c.args.n c.args._before.now c.args.e.now _ c.args.order.now _ c.requires.act (as_cell c.args.cell) c.args.posts (event_at c.args.n c.args.order.now (as_cell c.args.cell)) refl (c.requires.act.ordered.events (as_cell c.args.cell) c.requires.owner.0 c.requires.owner.1)) _ (put_in c.args.n c.args._before.now c.args.e.now _ c.args.order.now _ c.requires.act _ _ (ap (λ z. set c.args.order.now.images.items (c.args.e.now.image.0 - 1) z) (c.take.ensures.clock ∙ ap (λ z. joined_all z (take c.args.posts (queue_at c.args.order.now.events c.line_of-line.result c.args.cell.offset))) (get_or_read c.args.order.now.images.items (c.args.e.now.image.0 - 1) c.index_mut-clock.result.now (let a = c.requires.act.first in let b = c.requires.act.last in let z = c.requires.act.ordered.image_count in omega arith) c.index_mut-clock.ensures.value []) ∙ ap (λ z. joined_all (clock_of c.args.order.now c.args.e.now.image.0) (take c.args.posts z)) (ap (λ z. queue_at c.args.order.now.events z c.args.cell.offset) c.line_of-line.ensures)))) refl _
    (record { rounds = λ t k. refl; locks = λ c p q. refl; constructs = λ k. refl; events = keys.event_dropped c.args.n c.args.e.now.image.0 _ _ _ (as_cell c.args.cell) c.args.posts c.requires.owner.0 c.requires.owner.1 (subst (λ z. (l k : ℕ) → queue_at c.take.new.self l k ≡ cond (nat_eq l z && nat_eq k c.args.cell.offset) (drop c.args.posts (queue_at c.args.order.now.events l k)) (queue_at c.args.order.now.events l k)) c.line_of-line.ensures c.take.ensures.queues); pairs = λ j h. forgets_none _ _ _ refl; named_count = refl; named = λ j p q. refl }) c.finish.ensures.clocks c.finish.ensures.counts
