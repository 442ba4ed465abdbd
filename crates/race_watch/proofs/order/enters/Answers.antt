use Rattle.std.proofs.Common.{◌-◌, ◌∙◌, [], length, set, refl, ap, sym, subst, arith}
use Rattle.std.proofs.lemmas.List.{get_or_read}
use Rattle.segment_clock.specs.Counts.{joined}
use Rattle.race_watch.specs.Tables.{counts_of, IsClockOf, clock_at}
use Rattle.race_watch.proofs.Turning.{own_size}
use Rattle.race_watch.proofs.Forgetting.{forgets_none}
use Rattle.race_watch.proofs.Finishing.{put_in, taken_one, ready, finished}
use Rattle.race_watch.proofs.Keys as keys
use Rattle.race_watch.proofs.order.enters.Goals as goal

pub take-requires : goal.take-requires
take-requires c = subst (λ m. IsClockOf m (clock_at c.args.order.now.constructs 0 c.args.construct)) (sym (ap length (get_or_read c.args.order.now.images.items (c.args.e.now.image.0 - 1) c.index_mut-clock.result.now (let a = c.requires.first in let b = c.requires.last in let z = c.requires.ordered.image_count in omega arith) c.index_mut-clock.ensures.value []) ∙ own_size c.args._n c.args._before.now c.args.order.now c.requires.ordered c.args.e.now c.requires.first c.requires.last)) (c.requires.ordered.constructs c.args.construct).sized

pub finish-requires-clause-last : goal.finish-requires-clause-last
finish-requires-clause-last c = (ready c.args._n c.args._before.now c.args.e.now _ c.args.order.now _ c.requires _ _ (taken_one c.args._n c.args._before.now c.args.e.now _ c.args.order.now _ c.requires (clock_at c.args.order.now.constructs 0 c.args.construct) (c.requires.ordered.constructs c.args.construct).sized (c.requires.ordered.constructs c.args.construct).covers) _ (put_in c.args._n c.args._before.now c.args.e.now _ c.args.order.now _ c.requires _ _ (ap (λ z. set c.args.order.now.images.items (c.args.e.now.image.0 - 1) z) (c.take.ensures ∙ ap (λ z. joined z (counts_of (clock_at c.args.order.now.constructs 0 c.args.construct))) (get_or_read c.args.order.now.images.items (c.args.e.now.image.0 - 1) c.index_mut-clock.result.now (let a = c.requires.first in let b = c.requires.last in let z = c.requires.ordered.image_count in omega arith) c.index_mut-clock.ensures.value []))))).last

pub finish-requires-clause-long : goal.finish-requires-clause-long
finish-requires-clause-long c = (ready c.args._n c.args._before.now c.args.e.now _ c.args.order.now _ c.requires _ _ (taken_one c.args._n c.args._before.now c.args.e.now _ c.args.order.now _ c.requires (clock_at c.args.order.now.constructs 0 c.args.construct) (c.requires.ordered.constructs c.args.construct).sized (c.requires.ordered.constructs c.args.construct).covers) _ (put_in c.args._n c.args._before.now c.args.e.now _ c.args.order.now _ c.requires _ _ (ap (λ z. set c.args.order.now.images.items (c.args.e.now.image.0 - 1) z) (c.take.ensures ∙ ap (λ z. joined z (counts_of (clock_at c.args.order.now.constructs 0 c.args.construct))) (get_or_read c.args.order.now.images.items (c.args.e.now.image.0 - 1) c.index_mut-clock.result.now (let a = c.requires.first in let b = c.requires.last in let z = c.requires.ordered.image_count in omega arith) c.index_mut-clock.ensures.value []))))).long

pub finish-requires-clause-told : goal.finish-requires-clause-told
finish-requires-clause-told c = (ready c.args._n c.args._before.now c.args.e.now _ c.args.order.now _ c.requires _ _ (taken_one c.args._n c.args._before.now c.args.e.now _ c.args.order.now _ c.requires (clock_at c.args.order.now.constructs 0 c.args.construct) (c.requires.ordered.constructs c.args.construct).sized (c.requires.ordered.constructs c.args.construct).covers) _ (put_in c.args._n c.args._before.now c.args.e.now _ c.args.order.now _ c.requires _ _ (ap (λ z. set c.args.order.now.images.items (c.args.e.now.image.0 - 1) z) (c.take.ensures ∙ ap (λ z. joined z (counts_of (clock_at c.args.order.now.constructs 0 c.args.construct))) (get_or_read c.args.order.now.images.items (c.args.e.now.image.0 - 1) c.index_mut-clock.result.now (let a = c.requires.first in let b = c.requires.last in let z = c.requires.ordered.image_count in omega arith) c.index_mut-clock.ensures.value []))))).told_size

pub finish-requires-clause-room : goal.finish-requires-clause-room
finish-requires-clause-room c = (ready c.args._n c.args._before.now c.args.e.now _ c.args.order.now _ c.requires _ _ (taken_one c.args._n c.args._before.now c.args.e.now _ c.args.order.now _ c.requires (clock_at c.args.order.now.constructs 0 c.args.construct) (c.requires.ordered.constructs c.args.construct).sized (c.requires.ordered.constructs c.args.construct).covers) _ (put_in c.args._n c.args._before.now c.args.e.now _ c.args.order.now _ c.requires _ _ (ap (λ z. set c.args.order.now.images.items (c.args.e.now.image.0 - 1) z) (c.take.ensures ∙ ap (λ z. joined z (counts_of (clock_at c.args.order.now.constructs 0 c.args.construct))) (get_or_read c.args.order.now.images.items (c.args.e.now.image.0 - 1) c.index_mut-clock.result.now (let a = c.requires.first in let b = c.requires.last in let z = c.requires.ordered.image_count in omega arith) c.index_mut-clock.ensures.value []))))).roomy

pub finish-requires-clause-more : goal.finish-requires-clause-more
finish-requires-clause-more c = (ready c.args._n c.args._before.now c.args.e.now _ c.args.order.now _ c.requires _ _ (taken_one c.args._n c.args._before.now c.args.e.now _ c.args.order.now _ c.requires (clock_at c.args.order.now.constructs 0 c.args.construct) (c.requires.ordered.constructs c.args.construct).sized (c.requires.ordered.constructs c.args.construct).covers) _ (put_in c.args._n c.args._before.now c.args.e.now _ c.args.order.now _ c.requires _ _ (ap (λ z. set c.args.order.now.images.items (c.args.e.now.image.0 - 1) z) (c.take.ensures ∙ ap (λ z. joined z (counts_of (clock_at c.args.order.now.constructs 0 c.args.construct))) (get_or_read c.args.order.now.images.items (c.args.e.now.image.0 - 1) c.index_mut-clock.result.now (let a = c.requires.first in let b = c.requires.last in let z = c.requires.ordered.image_count in omega arith) c.index_mut-clock.ensures.value []))))).more

pub returns : goal.returns
returns c =
    finished c.args._n c.args._before.now c.args.e.now _ c.args.order.now _ c.requires _ _ (taken_one c.args._n c.args._before.now c.args.e.now _ c.args.order.now _ c.requires (clock_at c.args.order.now.constructs 0 c.args.construct) (c.requires.ordered.constructs c.args.construct).sized (c.requires.ordered.constructs c.args.construct).covers) _ (put_in c.args._n c.args._before.now c.args.e.now _ c.args.order.now _ c.requires _ _ (ap (λ z. set c.args.order.now.images.items (c.args.e.now.image.0 - 1) z) (c.take.ensures ∙ ap (λ z. joined z (counts_of (clock_at c.args.order.now.constructs 0 c.args.construct))) (get_or_read c.args.order.now.images.items (c.args.e.now.image.0 - 1) c.index_mut-clock.result.now (let a = c.requires.first in let b = c.requires.last in let z = c.requires.ordered.image_count in omega arith) c.index_mut-clock.ensures.value [])))) refl _
    (record { rounds = λ t k. refl; locks = λ c p q. refl; constructs = keys.construct_cleared c.args._n c.args.e.now.image.0 _ _ _ c.args.construct c.clear.ensures; events = λ c p q. refl; pairs = λ j h. forgets_none _ _ _ refl; named_count = refl; named = λ j p q. refl }) c.finish.ensures.clocks c.finish.ensures.counts
