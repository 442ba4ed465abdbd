use Rattle.std.proofs.Common.{◌≡◌, ℕ, nat_eq, cond, [], None, refl, subst}
use Rattle.race_watch.specs.Tables.{clock_at, queue_at}
use Rattle.race_watch.proofs.Forgetting.{forgets_none}
use Rattle.race_watch.proofs.Stepping.{stays}
use Rattle.race_watch.proofs.Keys as keys
use Rattle.race_watch.proofs.order.creates.Goals as goal

pub returns : goal.returns
returns c =
    stays c.args.n c.args._before.now c.args.order.now c.requires.act.ordered c.args.e.now c.requires.act.first c.requires.act.last _ c.requires.act.act _
    (record { rounds = λ t k. refl; locks = keys.locks_cleared c.args.n c.args.e.now.image.0 _ _ _ c.args.owner.0 c.args.coarray c.requires.owner.0 c.requires.owner.1 (subst (λ z. (l k : ℕ) → clock_at c.clear_line.new.self l k ≡ cond (nat_eq l z) None (clock_at c.args.order.now.locks l k)) c.line_of-line.ensures c.clear_line.ensures); constructs = λ k. refl; events = keys.events_cleared c.args.n c.args.e.now.image.0 _ _ _ c.args.owner.0 c.args.coarray c.requires.owner.0 c.requires.owner.1 (subst (λ z. (l k : ℕ) → queue_at c.clear_line-2.new.self l k ≡ cond (nat_eq l z) [] (queue_at c.args.order.now.events l k)) c.line_of-line.ensures c.clear_line-2.ensures); pairs = λ j h. forgets_none _ _ _ refl; named_count = refl; named = λ j p q. refl }) refl refl refl
