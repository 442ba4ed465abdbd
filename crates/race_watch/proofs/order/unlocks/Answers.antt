use Rattle.std.proofs.Common.{◌≡◌, ℕ, ◌-◌, ◌∙◌, ◌&&◌, nat_eq, cond, [], length, refl, ap, sym, subst, arith}
use Rattle.std.proofs.lemmas.List.{get_or_read}
use Rattle.race_watch.specs.Tables.{merged, IsClockOf, clock_at}
use Rattle.race_watch.specs.ActParts.{as_cell}
use Rattle.race_watch.specs.Orders.{clock_of}
use Rattle.race_watch.proofs.Turning.{own_size}
use Rattle.race_watch.proofs.Forgetting.{forgets_none}
use Rattle.race_watch.proofs.Finishing.{in_place, taken_none, ready, finished}
use Rattle.race_watch.proofs.Keys as keys
use Rattle.race_watch.proofs.order.unlocks.Goals as goal

pub add-requires-clause-kept : goal.add-requires-clause-kept
add-requires-clause-kept c = subst (λ z. IsClockOf c.args.n (clock_at c.args.order.now.locks z c.args.cell.offset)) (sym c.line_of-line.ensures) (c.requires.act.ordered.locks (as_cell c.args.cell) c.requires.owner.0 c.requires.owner.1).sized

pub add-requires-clause-own : goal.add-requires-clause-own
add-requires-clause-own c = ap length (get_or_read c.args.order.now.images.items (c.args.e.now.image.0 - 1) c.index-own.result.now (let a = c.requires.act.first in let b = c.requires.act.last in let z = c.requires.act.ordered.image_count in omega arith) c.index-own.ensures []) ∙ own_size c.args.n c.args._before.now c.args.order.now c.requires.act.ordered c.args.e.now c.requires.act.first c.requires.act.last

pub finish-requires-clause-last : goal.finish-requires-clause-last
finish-requires-clause-last c = (ready c.args.n c.args._before.now c.args.e.now _ c.args.order.now _ c.requires.act _ _ (taken_none c.args.n c.args._before.now c.args.e.now _ c.args.order.now _ c.requires.act refl) _ (in_place c.args.n c.args._before.now c.args.e.now _ c.args.order.now _ c.requires.act)).last

pub finish-requires-clause-long : goal.finish-requires-clause-long
finish-requires-clause-long c = (ready c.args.n c.args._before.now c.args.e.now _ c.args.order.now _ c.requires.act _ _ (taken_none c.args.n c.args._before.now c.args.e.now _ c.args.order.now _ c.requires.act refl) _ (in_place c.args.n c.args._before.now c.args.e.now _ c.args.order.now _ c.requires.act)).long

pub finish-requires-clause-told : goal.finish-requires-clause-told
finish-requires-clause-told c = (ready c.args.n c.args._before.now c.args.e.now _ c.args.order.now _ c.requires.act _ _ (taken_none c.args.n c.args._before.now c.args.e.now _ c.args.order.now _ c.requires.act refl) _ (in_place c.args.n c.args._before.now c.args.e.now _ c.args.order.now _ c.requires.act)).told_size

pub finish-requires-clause-room : goal.finish-requires-clause-room
finish-requires-clause-room c = (ready c.args.n c.args._before.now c.args.e.now _ c.args.order.now _ c.requires.act _ _ (taken_none c.args.n c.args._before.now c.args.e.now _ c.args.order.now _ c.requires.act refl) _ (in_place c.args.n c.args._before.now c.args.e.now _ c.args.order.now _ c.requires.act)).roomy

pub finish-requires-clause-more : goal.finish-requires-clause-more
finish-requires-clause-more c = (ready c.args.n c.args._before.now c.args.e.now _ c.args.order.now _ c.requires.act _ _ (taken_none c.args.n c.args._before.now c.args.e.now _ c.args.order.now _ c.requires.act refl) _ (in_place c.args.n c.args._before.now c.args.e.now _ c.args.order.now _ c.requires.act)).more

pub returns : goal.returns
returns c =
    finished c.args.n c.args._before.now c.args.e.now _ c.args.order.now _ c.requires.act _ _ (taken_none c.args.n c.args._before.now c.args.e.now _ c.args.order.now _ c.requires.act refl) _ (in_place c.args.n c.args._before.now c.args.e.now _ c.args.order.now _ c.requires.act) refl _
    (record { rounds = λ t k. refl; locks = keys.lock_added c.args.n c.args.e.now.image.0 _ _ _ (as_cell c.args.cell) c.requires.owner.0 c.requires.owner.1 (subst (λ z. (l k : ℕ) → clock_at c.add.new.self l k ≡ cond (nat_eq l z && nat_eq k c.args.cell.offset) (merged (clock_at c.args.order.now.locks l k) (clock_of c.args.order.now c.args.e.now.image.0)) (clock_at c.args.order.now.locks l k)) c.line_of-line.ensures (subst (λ w. (l k : ℕ) → clock_at c.add.new.self l k ≡ cond (nat_eq l c.line_of-line.result && nat_eq k c.args.cell.offset) (merged (clock_at c.args.order.now.locks l k) w) (clock_at c.args.order.now.locks l k)) (get_or_read c.args.order.now.images.items (c.args.e.now.image.0 - 1) c.index-own.result.now (let a = c.requires.act.first in let b = c.requires.act.last in let z = c.requires.act.ordered.image_count in omega arith) c.index-own.ensures []) c.in_ok-add.ensures)); constructs = λ k. refl; events = λ c p q. refl; pairs = λ j h. forgets_none _ _ _ refl; named_count = refl; named = λ j p q. refl }) c.finish.ensures.clocks c.finish.ensures.counts
