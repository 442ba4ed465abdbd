-- The acts that complete a segment are those of the asks that do.
use Rattle.std.proofs.Common.{◌≡◌, ℕ, Bool, true, false, cond, refl}
use Rattle.caf_events.specs.declared.ask.Ask.{Ask}
use Rattle.caf_events.specs.declared.ask.Ask.TheVariants as asks
use Rattle.caf_events.specs.declared.reply.Reply.{Reply}
use Rattle.caf_events.specs.declared.reply.Reply.TheVariants as replies
use Rattle.order_theory.specs.Races.{Cell}
use Rattle.order_theory.specs.Acts.{Act, completing, gets, unlocks, posts, finishes}
use Rattle.order_axioms.specs.Statuses.{tells_success, tells_acquired}
use Rattle.order_axioms.specs.Views.{is_completing, act_by, arrival, departure, end_of_pair, locking, unlocking, posting}

either_way : (b : Bool) (x y : Act) → completing x ≡ true → completing y ≡ true → completing (cond b x y) ≡ true
either_way true x y h k = h
either_way false x y h k = k

arrival_completes : (t : ℕ) (r : Reply) → completing (arrival t r) ≡ false
arrival_completes t (replies.Round k) = refl
arrival_completes t r = refl

departure_completes : (t k : ℕ) (r : Reply) → completing (departure t k r) ≡ true
departure_completes t k (replies.Left status teams) = refl
departure_completes t k r = refl

pair_completes : (r : Reply) → completing (end_of_pair r) ≡ true
pair_completes (replies.Number status) = refl
pair_completes r = refl

lock_completes : (c : Cell) (r : Reply) → completing (locking c r) ≡ true
lock_completes c (replies.Number status) = either_way (tells_acquired status) (gets c) finishes refl refl
lock_completes c r = refl

unlock_completes : (c : Cell) (r : Reply) → completing (unlocking c r) ≡ true
unlock_completes c (replies.Number status) = either_way (tells_success status) (unlocks c) finishes refl refl
unlock_completes c r = refl

post_completes : (c : Cell) (r : Reply) → completing (posting c r) ≡ true
post_completes c (replies.Number status) = either_way (tells_success status) (posts c) finishes refl refl
post_completes c r = refl

pub completes : (a : Ask) (r : Reply) → completing (act_by a r) ≡ is_completing a
completes (asks.Arrive team arriving) r = arrival_completes team.0 r
completes (asks.Leave team round) r = departure_completes team.0 round r
completes asks.Unpair r = pair_completes r
completes (asks.Lock owner span) r = lock_completes _ r
completes (asks.TryLock owner span) r = lock_completes _ r
completes (asks.Unlock owner span) r = unlock_completes _ r
completes (asks.Post owner span) r = post_completes _ r
completes a r = refl
