use Rattle.std.proofs.Common.{◌-◌, ◌∙◌, [], length, set, refl, ap, sym, subst, arith}
use Rattle.std.proofs.lemmas.List.{get_or_read}
use Rattle.race_watch.specs.Tables.{numbered_at}
use Rattle.race_watch.specs.Orders.{clock_of, Sized, paired}
use Rattle.race_watch.proofs.Turning.{own_size}
use Rattle.race_watch.proofs.Forgetting.{can_count}
use Rattle.race_watch.proofs.Finishing.{put_in, taken_pairs, ready, finished}
use Rattle.race_watch.proofs.order.unpairs.Goals as goal

pub look_each-requires-clause-sizes : goal.look_each-requires-clause-sizes
look_each-requires-clause-sizes c j h = subst (λ m. Sized m (numbered_at c.args.order.now.pairs j h).clocks) (sym (ap length (get_or_read c.args.order.now.images.items (c.args.e.now.image.0 - 1) c.index_mut-clock.result.now (let a = c.requires.first in let b = c.requires.last in let z = c.requires.ordered.image_count in omega arith) c.index_mut-clock.ensures.value []) ∙ own_size c.args._n c.args._before.now c.args.order.now c.requires.ordered c.args.e.now c.requires.first c.requires.last)) (c.requires.ordered.pairs j h).sized

pub look_each-requires-clause-needed : goal.look_each-requires-clause-needed
look_each-requires-clause-needed c = c.requires.ordered.needed

pub look_each-requires-clause-counts : goal.look_each-requires-clause-counts
look_each-requires-clause-counts c = can_count c.args._n c.args._before.now c.args.order.now c.requires.ordered c.requires.short

pub forget_each-requires : goal.forget_each-requires
forget_each-requires c = can_count c.args._n c.args._before.now c.args.order.now c.requires.ordered c.requires.short

pub finish-requires-clause-last : goal.finish-requires-clause-last
finish-requires-clause-last c = (ready c.args._n c.args._before.now c.args.e.now _ c.args.order.now _ c.requires _ _ (taken_pairs c.args._n c.args._before.now c.args.e.now _ c.args.order.now _ c.requires refl) _ (put_in c.args._n c.args._before.now c.args.e.now _ c.args.order.now _ c.requires _ _ (ap (λ z. set c.args.order.now.images.items (c.args.e.now.image.0 - 1) z) (c.look_each.ensures ∙ ap (λ z. paired c.args.order.now.pairs c.args.e.now.image.0 c.as_slice-named.result.now z) (get_or_read c.args.order.now.images.items (c.args.e.now.image.0 - 1) c.index_mut-clock.result.now (let a = c.requires.first in let b = c.requires.last in let z = c.requires.ordered.image_count in omega arith) c.index_mut-clock.ensures.value []) ∙ ap (λ z. paired c.args.order.now.pairs c.args.e.now.image.0 z (clock_of c.args.order.now c.args.e.now.image.0)) (c.as_slice-named.ensures ∙ (get_or_read c.args.order.now.named.items (c.args.e.now.image.0 - 1) c.index.result.now (let a = c.requires.first in let b = c.requires.last in let z = c.requires.ordered.named_count in omega arith) c.index.ensures [])))))).last

pub finish-requires-clause-long : goal.finish-requires-clause-long
finish-requires-clause-long c = (ready c.args._n c.args._before.now c.args.e.now _ c.args.order.now _ c.requires _ _ (taken_pairs c.args._n c.args._before.now c.args.e.now _ c.args.order.now _ c.requires refl) _ (put_in c.args._n c.args._before.now c.args.e.now _ c.args.order.now _ c.requires _ _ (ap (λ z. set c.args.order.now.images.items (c.args.e.now.image.0 - 1) z) (c.look_each.ensures ∙ ap (λ z. paired c.args.order.now.pairs c.args.e.now.image.0 c.as_slice-named.result.now z) (get_or_read c.args.order.now.images.items (c.args.e.now.image.0 - 1) c.index_mut-clock.result.now (let a = c.requires.first in let b = c.requires.last in let z = c.requires.ordered.image_count in omega arith) c.index_mut-clock.ensures.value []) ∙ ap (λ z. paired c.args.order.now.pairs c.args.e.now.image.0 z (clock_of c.args.order.now c.args.e.now.image.0)) (c.as_slice-named.ensures ∙ (get_or_read c.args.order.now.named.items (c.args.e.now.image.0 - 1) c.index.result.now (let a = c.requires.first in let b = c.requires.last in let z = c.requires.ordered.named_count in omega arith) c.index.ensures [])))))).long

pub finish-requires-clause-told : goal.finish-requires-clause-told
finish-requires-clause-told c = (ready c.args._n c.args._before.now c.args.e.now _ c.args.order.now _ c.requires _ _ (taken_pairs c.args._n c.args._before.now c.args.e.now _ c.args.order.now _ c.requires refl) _ (put_in c.args._n c.args._before.now c.args.e.now _ c.args.order.now _ c.requires _ _ (ap (λ z. set c.args.order.now.images.items (c.args.e.now.image.0 - 1) z) (c.look_each.ensures ∙ ap (λ z. paired c.args.order.now.pairs c.args.e.now.image.0 c.as_slice-named.result.now z) (get_or_read c.args.order.now.images.items (c.args.e.now.image.0 - 1) c.index_mut-clock.result.now (let a = c.requires.first in let b = c.requires.last in let z = c.requires.ordered.image_count in omega arith) c.index_mut-clock.ensures.value []) ∙ ap (λ z. paired c.args.order.now.pairs c.args.e.now.image.0 z (clock_of c.args.order.now c.args.e.now.image.0)) (c.as_slice-named.ensures ∙ (get_or_read c.args.order.now.named.items (c.args.e.now.image.0 - 1) c.index.result.now (let a = c.requires.first in let b = c.requires.last in let z = c.requires.ordered.named_count in omega arith) c.index.ensures [])))))).told_size

pub finish-requires-clause-room : goal.finish-requires-clause-room
finish-requires-clause-room c = (ready c.args._n c.args._before.now c.args.e.now _ c.args.order.now _ c.requires _ _ (taken_pairs c.args._n c.args._before.now c.args.e.now _ c.args.order.now _ c.requires refl) _ (put_in c.args._n c.args._before.now c.args.e.now _ c.args.order.now _ c.requires _ _ (ap (λ z. set c.args.order.now.images.items (c.args.e.now.image.0 - 1) z) (c.look_each.ensures ∙ ap (λ z. paired c.args.order.now.pairs c.args.e.now.image.0 c.as_slice-named.result.now z) (get_or_read c.args.order.now.images.items (c.args.e.now.image.0 - 1) c.index_mut-clock.result.now (let a = c.requires.first in let b = c.requires.last in let z = c.requires.ordered.image_count in omega arith) c.index_mut-clock.ensures.value []) ∙ ap (λ z. paired c.args.order.now.pairs c.args.e.now.image.0 z (clock_of c.args.order.now c.args.e.now.image.0)) (c.as_slice-named.ensures ∙ (get_or_read c.args.order.now.named.items (c.args.e.now.image.0 - 1) c.index.result.now (let a = c.requires.first in let b = c.requires.last in let z = c.requires.ordered.named_count in omega arith) c.index.ensures [])))))).roomy

pub finish-requires-clause-more : goal.finish-requires-clause-more
finish-requires-clause-more c = (ready c.args._n c.args._before.now c.args.e.now _ c.args.order.now _ c.requires _ _ (taken_pairs c.args._n c.args._before.now c.args.e.now _ c.args.order.now _ c.requires refl) _ (put_in c.args._n c.args._before.now c.args.e.now _ c.args.order.now _ c.requires _ _ (ap (λ z. set c.args.order.now.images.items (c.args.e.now.image.0 - 1) z) (c.look_each.ensures ∙ ap (λ z. paired c.args.order.now.pairs c.args.e.now.image.0 c.as_slice-named.result.now z) (get_or_read c.args.order.now.images.items (c.args.e.now.image.0 - 1) c.index_mut-clock.result.now (let a = c.requires.first in let b = c.requires.last in let z = c.requires.ordered.image_count in omega arith) c.index_mut-clock.ensures.value []) ∙ ap (λ z. paired c.args.order.now.pairs c.args.e.now.image.0 z (clock_of c.args.order.now c.args.e.now.image.0)) (c.as_slice-named.ensures ∙ (get_or_read c.args.order.now.named.items (c.args.e.now.image.0 - 1) c.index.result.now (let a = c.requires.first in let b = c.requires.last in let z = c.requires.ordered.named_count in omega arith) c.index.ensures [])))))).more

pub returns : goal.returns
returns c =
    finished c.args._n c.args._before.now c.args.e.now _ c.args.order.now _ c.requires _ _ (taken_pairs c.args._n c.args._before.now c.args.e.now _ c.args.order.now _ c.requires refl) _ (put_in c.args._n c.args._before.now c.args.e.now _ c.args.order.now _ c.requires _ _ (ap (λ z. set c.args.order.now.images.items (c.args.e.now.image.0 - 1) z) (c.look_each.ensures ∙ ap (λ z. paired c.args.order.now.pairs c.args.e.now.image.0 c.as_slice-named.result.now z) (get_or_read c.args.order.now.images.items (c.args.e.now.image.0 - 1) c.index_mut-clock.result.now (let a = c.requires.first in let b = c.requires.last in let z = c.requires.ordered.image_count in omega arith) c.index_mut-clock.ensures.value []) ∙ ap (λ z. paired c.args.order.now.pairs c.args.e.now.image.0 z (clock_of c.args.order.now c.args.e.now.image.0)) (c.as_slice-named.ensures ∙ (get_or_read c.args.order.now.named.items (c.args.e.now.image.0 - 1) c.index.result.now (let a = c.requires.first in let b = c.requires.last in let z = c.requires.ordered.named_count in omega arith) c.index.ensures []))))) refl _
    (record { rounds = λ t k. refl; locks = λ c p q. refl; constructs = λ k. refl; events = λ c p q. refl; pairs = c.forget_each.ensures; named_count = refl; named = λ j p q. refl }) c.finish.ensures.clocks c.finish.ensures.counts
