use Rattle.std.proofs.Common.{◌≡◌, ℕ, ◌-◌, ◌∙◌, ◌&&◌, nat_eq, cond, [], length, refl, ap, subst, arith, length-set}
use Rattle.std.proofs.lemmas.List.{get_or_read}
use Rattle.order_theory.specs.Acts.{names}
use Rattle.race_watch.specs.Tables.{numbered_at, with_next}
use Rattle.race_watch.proofs.Turning.{own_size}
use Rattle.race_watch.proofs.Forgetting.{forgets_none}
use Rattle.race_watch.proofs.Stepping.{stays}
use Rattle.race_watch.proofs.Keys as keys
use Rattle.race_watch.proofs.order.pairs.Goals as goal

pub new-requires : goal.new-requires
new-requires c = ap length (get_or_read c.args.order.now.images.items (c.args.e.now.image.0 - 1) c.index.result.now (let a = c.requires.act.first in let b = c.requires.act.last in let z = c.requires.act.ordered.image_count in omega arith) c.index.ensures []) ∙ own_size c.args.n c.args._before.now c.args.order.now c.requires.act.ordered c.args.e.now c.requires.act.first c.requires.act.last

pub returns : goal.returns
returns c =
    stays c.args.n c.args._before.now c.args.order.now c.requires.act.ordered c.args.e.now c.requires.act.first c.requires.act.last _ c.requires.act.act _
    (record {
      rounds = λ t k. refl;
      locks = λ c p q. refl;
      constructs = λ k. refl;
      events = λ c p q. refl;
      pairs = λ j h. forgets_none _ _ _ (keys.pair_added c.args.n c.args.e.now.image.0 _ _ _ c.args.images.items (subst (λ w. (l k : ℕ) → numbered_at c.put_each.new.pairs l k ≡ cond (nat_eq l c.args.e.now.image.0 && names k c.args.images.items) (with_next w (numbered_at c.args.order.now.pairs l k)) (numbered_at c.args.order.now.pairs l k)) (get_or_read c.args.order.now.images.items (c.args.e.now.image.0 - 1) c.index.result.now (let a = c.requires.act.first in let b = c.requires.act.last in let z = c.requires.act.ordered.image_count in omega arith) c.index.ensures []) (subst (λ js. (l k : ℕ) → numbered_at c.put_each.new.pairs l k ≡ cond (nat_eq l c.args.e.now.image.0 && names k js) (with_next c.index.result.now (numbered_at c.args.order.now.pairs l k)) (numbered_at c.args.order.now.pairs l k)) c.as_slice.ensures.value (subst (λ w. (l k : ℕ) → numbered_at c.put_each.new.pairs l k ≡ cond (nat_eq l c.args.e.now.image.0 && names k c.as_slice.result.now) (with_next w (numbered_at c.args.order.now.pairs l k)) (numbered_at c.args.order.now.pairs l k)) c.in_ok-own.ensures c.in_ok-put_each.ensures))) j h);
      named_count = length-set c.args.order.now.named.items (c.args.e.now.image.0 - 1) _;
      named = λ j p q. keys.named_set c.args.e.now.image.0 c.args.order.now.named.items _ c.args.images.items c.requires.act.first (let b = c.requires.act.last in let z = c.requires.act.ordered.named_count in omega arith) refl j p;
    }) refl refl refl
