use Rattle.std.proofs.Common.{◌≡◌, ℕ, ◌-◌, ◌&&◌, nat_eq, cond, [], ◌∷◌, ◌++◌, refl, subst, arith}
use Rattle.std.proofs.lemmas.List.{get_or_read}
use Rattle.race_watch.specs.Tables.{queue_at}
use Rattle.race_watch.specs.ActParts.{as_cell}
use Rattle.race_watch.specs.Orders.{clock_of}
use Rattle.race_watch.proofs.Forgetting.{forgets_none}
use Rattle.race_watch.proofs.Finishing.{in_place, taken_none, ready, finished}
use Rattle.race_watch.proofs.Keys as keys
use Rattle.race_watch.proofs.order.posts.Goals as goal

pub finish-requires-clause-last : goal.finish-requires-clause-last
finish-requires-clause-last c = (ready c.args.n c.args._before.now c.args.e.now _ c.args.order.now _ c.requires.act _ _ (taken_none c.args.n c.args._before.now c.args.e.now _ c.args.order.now _ c.requires.act refl) _ (in_place c.args.n c.args._before.now c.args.e.now _ c.args.order.now _ c.requires.act)).last

pub finish-requires-clause-long : goal.finish-requires-clause-long
finish-requires-clause-long c = (ready c.args.n c.args._before.now c.args.e.now _ c.args.order.now _ c.requires.act _ _ (taken_none c.args.n c.args._before.now c.args.e.now _ c.args.order.now _ c.requires.act refl) _ (in_place c.args.n c.args._before.now c.args.e.now _ c.args.order.now _ c.requires.act)).long

pub finish-requires-clause-told : goal.finish-requires-clause-told
finish-requires-clause-told c = (ready c.args.n c.args._before.now c.args.e.now _ c.args.order.now _ c.requires.act _ _ (taken_none c.args.n c.args._before.now c.args.e.now _ c.args.order.now _ c.requires.act refl) _ (in_place c.args.n c.args._before.now c.args.e.now _ c.args.order.now _ c.requires.act)).told_size

pub finish-requires-clause-room : goal.finish-requires-clause-room
finish-requires-clause-room c = (ready c.args.n c.args._before.now c.args.e.now _ c.args.order.now _ c.requires.act _ _ (taken_none c.args.n c.args._before.now c.args.e.now _ c.args.order.now _ c.requires.act refl) _ (in_place c.args.n c.args._before.now c.args.e.now _ c.args.order.now _ c.requires.act)).roomy

pub finish-requires-clause-more : goal.finish-requires-clause-more
finish-requires-clause-more c = (ready c.args.n c.args._before.now c.args.e.now _ c.args.order.now _ c.requires.act _ _ (taken_none c.args.n c.args._before.now c.args.e.now _ c.args.order.now _ c.requires.act refl) _ (in_place c.args.n c.args._before.now c.args.e.now _ c.args.order.now _ c.requires.act)).more

pub returns : goal.returns
returns c =
    finished c.args.n c.args._before.now c.args.e.now _ c.args.order.now _ c.requires.act _ _ (taken_none c.args.n c.args._before.now c.args.e.now _ c.args.order.now _ c.requires.act refl) _ (in_place c.args.n c.args._before.now c.args.e.now _ c.args.order.now _ c.requires.act) refl _
    (record { rounds = λ t k. refl; locks = λ c p q. refl; constructs = λ k. refl; events = keys.event_added c.args.n c.args.e.now.image.0 _ _ _ (as_cell c.args.cell) c.requires.owner.0 c.requires.owner.1 (subst (λ z. (l k : ℕ) → queue_at c.put.new.self l k ≡ cond (nat_eq l z && nat_eq k c.args.cell.offset) (queue_at c.args.order.now.events l k ++ clock_of c.args.order.now c.args.e.now.image.0 ∷ []) (queue_at c.args.order.now.events l k)) c.line_of-line.ensures (subst (λ w. (l k : ℕ) → queue_at c.put.new.self l k ≡ cond (nat_eq l c.line_of-line.result && nat_eq k c.args.cell.offset) (queue_at c.args.order.now.events l k ++ w ∷ []) (queue_at c.args.order.now.events l k)) (get_or_read c.args.order.now.images.items (c.args.e.now.image.0 - 1) c.index.result.now (let a = c.requires.act.first in let b = c.requires.act.last in let z = c.requires.act.ordered.image_count in omega arith) c.index.ensures []) (subst (λ w. (l k : ℕ) → queue_at c.put.new.self l k ≡ cond (nat_eq l c.line_of-line.result && nat_eq k c.args.cell.offset) (queue_at c.args.order.now.events l k ++ w ∷ []) (queue_at c.args.order.now.events l k)) c.in_ok-own.ensures c.in_ok-put.ensures))); pairs = λ j h. forgets_none _ _ _ refl; named_count = refl; named = λ j p q. refl }) c.finish.ensures.clocks c.finish.ensures.counts
