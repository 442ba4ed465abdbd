use Rattle.std.proofs.Common.{◌≡◌, ℕ, ◌-◌, ◌∙◌, ◌&&◌, nat_eq, cond, [], length, refl, ap, subst, arith}
use Rattle.std.proofs.lemmas.List.{get_or_read}
use Rattle.std.proofs.lemmas.Result.{IfOk-weaker}
use Rattle.race_watch.specs.Tables.{merged, clock_at}
use Rattle.race_watch.proofs.Turning.{own_size}
use Rattle.race_watch.proofs.Forgetting.{forgets_none}
use Rattle.race_watch.proofs.Stepping.{stays}
use Rattle.race_watch.proofs.Keys as keys
use Rattle.race_watch.proofs.order.arrives.Goals as goal

pub add-requires-clause-kept : goal.add-requires-clause-kept
add-requires-clause-kept c = (c.requires.ordered.rounds c.args.team c.args.round).sized

pub add-requires-clause-own : goal.add-requires-clause-own
add-requires-clause-own c = ap length (get_or_read c.args.order.now.images.items (c.args.e.now.image.0 - 1) c.index-own.result.now (let a = c.requires.first in let b = c.requires.last in let z = c.requires.ordered.image_count in omega arith) c.index-own.ensures []) ∙ own_size c.args.n c.args._before.now c.args.order.now c.requires.ordered c.args.e.now c.requires.first c.requires.last

pub returns : goal.returns
returns c =
    IfOk-weaker c.add.result _ _ (λ x h.
    stays c.args.n c.args._before.now c.args.order.now c.requires.ordered c.args.e.now c.requires.first c.requires.last _ c.requires.act _
    (record { rounds = keys.round_added c.args.n c.args.e.now.image.0 _ _ _ c.args.team c.args.round (subst (λ w. (t k : ℕ) → clock_at c.add.new.self t k ≡ cond (nat_eq t c.args.team && nat_eq k c.args.round) (merged (clock_at c.args.order.now.rounds t k) w) (clock_at c.args.order.now.rounds t k)) (get_or_read c.args.order.now.images.items (c.args.e.now.image.0 - 1) c.index-own.result.now (let a = c.requires.first in let b = c.requires.last in let z = c.requires.ordered.image_count in omega arith) c.index-own.ensures []) h); locks = λ c p q. refl; constructs = λ k. refl; events = λ c p q. refl; pairs = λ j h. forgets_none _ _ _ refl; named_count = refl; named = λ j p q. refl }) refl refl refl) c.add.ensures
