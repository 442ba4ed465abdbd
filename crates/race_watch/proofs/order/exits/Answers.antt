use Rattle.std.proofs.Common.{◌≡◌, ℕ, ◌-◌, ◌∙◌, ◌&&◌, nat_eq, cond, [], length, refl, ap, subst, arith}
use Rattle.std.proofs.lemmas.List.{get_or_read}
use Rattle.race_watch.specs.Tables.{merged, clock_at}
use Rattle.race_watch.proofs.Turning.{own_size}
use Rattle.race_watch.proofs.Forgetting.{forgets_none}
use Rattle.race_watch.proofs.Finishing.{in_place, taken_none, ready, finished}
use Rattle.race_watch.proofs.Keys as keys
use Rattle.race_watch.proofs.order.exits.Goals as goal

pub add-requires-clause-kept : goal.add-requires-clause-kept
add-requires-clause-kept c = (c.requires.ordered.constructs c.args.construct).sized

pub add-requires-clause-own : goal.add-requires-clause-own
add-requires-clause-own c = ap length (get_or_read c.args.order.now.images.items (c.args.e.now.image.0 - 1) c.index-own.result.now (let a = c.requires.first in let b = c.requires.last in let z = c.requires.ordered.image_count in omega arith) c.index-own.ensures []) ∙ own_size c.args.n c.args._before.now c.args.order.now c.requires.ordered c.args.e.now c.requires.first c.requires.last

pub finish-requires-clause-last : goal.finish-requires-clause-last
finish-requires-clause-last c = (ready c.args.n c.args._before.now c.args.e.now _ c.args.order.now _ c.requires _ _ (taken_none c.args.n c.args._before.now c.args.e.now _ c.args.order.now _ c.requires refl) _ (in_place c.args.n c.args._before.now c.args.e.now _ c.args.order.now _ c.requires)).last

pub finish-requires-clause-long : goal.finish-requires-clause-long
finish-requires-clause-long c = (ready c.args.n c.args._before.now c.args.e.now _ c.args.order.now _ c.requires _ _ (taken_none c.args.n c.args._before.now c.args.e.now _ c.args.order.now _ c.requires refl) _ (in_place c.args.n c.args._before.now c.args.e.now _ c.args.order.now _ c.requires)).long

pub finish-requires-clause-told : goal.finish-requires-clause-told
finish-requires-clause-told c = (ready c.args.n c.args._before.now c.args.e.now _ c.args.order.now _ c.requires _ _ (taken_none c.args.n c.args._before.now c.args.e.now _ c.args.order.now _ c.requires refl) _ (in_place c.args.n c.args._before.now c.args.e.now _ c.args.order.now _ c.requires)).told_size

pub finish-requires-clause-room : goal.finish-requires-clause-room
finish-requires-clause-room c = (ready c.args.n c.args._before.now c.args.e.now _ c.args.order.now _ c.requires _ _ (taken_none c.args.n c.args._before.now c.args.e.now _ c.args.order.now _ c.requires refl) _ (in_place c.args.n c.args._before.now c.args.e.now _ c.args.order.now _ c.requires)).roomy

pub finish-requires-clause-more : goal.finish-requires-clause-more
finish-requires-clause-more c = (ready c.args.n c.args._before.now c.args.e.now _ c.args.order.now _ c.requires _ _ (taken_none c.args.n c.args._before.now c.args.e.now _ c.args.order.now _ c.requires refl) _ (in_place c.args.n c.args._before.now c.args.e.now _ c.args.order.now _ c.requires)).more

pub returns : goal.returns
returns c =
    finished c.args.n c.args._before.now c.args.e.now _ c.args.order.now _ c.requires _ _ (taken_none c.args.n c.args._before.now c.args.e.now _ c.args.order.now _ c.requires refl) _ (in_place c.args.n c.args._before.now c.args.e.now _ c.args.order.now _ c.requires) refl _
    (record { rounds = λ t k. refl; locks = λ c p q. refl; constructs = keys.construct_added c.args.n c.args.e.now.image.0 _ _ _ c.args.construct (subst (λ w. (l k : ℕ) → clock_at c.add.new.self l k ≡ cond (nat_eq l 0 && nat_eq k c.args.construct) (merged (clock_at c.args.order.now.constructs l k) w) (clock_at c.args.order.now.constructs l k)) (get_or_read c.args.order.now.images.items (c.args.e.now.image.0 - 1) c.index-own.result.now (let a = c.requires.first in let b = c.requires.last in let z = c.requires.ordered.image_count in omega arith) c.index-own.ensures []) c.in_ok-add.ensures); events = λ c p q. refl; pairs = λ j h. forgets_none _ _ _ refl; named_count = refl; named = λ j p q. refl }) c.finish.ensures.clocks c.finish.ensures.counts
