-- The image that holds a lock variable, and the one that is inside a CRITICAL construct (ISO/IEC 1539-1:2018, 11.6.10,
-- 11.1.6), read off a whole trace.
use Rattle.std.specs.Prelude.{ℕ, pos, ◌&&◌, nat_eq, cond, List, [], ◌∷◌, Option, Some, None}
use Rattle.caf_events.specs.declared.ask.Ask.{Ask}
use Rattle.caf_events.specs.declared.ask.Ask.TheVariants as asks
use Rattle.caf_events.specs.declared.reply.Reply.{Reply}
use Rattle.caf_events.specs.declared.event.Entry.{Entry}
use Rattle.object_rules.specs.Constructs.{Hold, held}
use Rattle.object_rules.specs.Locks.{is_at, has_status, acquires, is_done}
use Rattle.wait_chain.specs.declared.holders.LockCell.{LockCell}

-- the image that has it
abbrev pub holder_of : Hold → Option ℕ
holder_of (held j) = Some j
holder_of s = None

-- who has it, but for this image
abbrev pub without : ℕ → Option ℕ → Option ℕ
without i None = None
without i (Some j) = cond (nat_eq j i) None (Some j)

-- who holds the lock variable at a cell after an ask of image i with its reply
abbrev pub lock_by : LockCell → Option ℕ → ℕ → Ask → Reply → Option ℕ
lock_by c h i (asks.Lock owner span) reply = cond (nat_eq owner.0 c.owner && (is_at c.coarray c.offset span && acquires reply)) (Some i) h
lock_by c h i (asks.TryLock owner span) reply = cond (nat_eq owner.0 c.owner && (is_at c.coarray c.offset span && acquires reply)) (Some i) h
lock_by c h i (asks.Unlock owner span) reply = cond (nat_eq owner.0 c.owner && (is_at c.coarray c.offset span && has_status (pos 0) reply)) None h
lock_by c h i (asks.Free owner span) reply = cond (nat_eq owner.0 c.owner && (is_at c.coarray c.offset span && is_done reply)) (without i h) h
lock_by c h i (asks.Create owner coarray cells) reply = cond (nat_eq owner.0 c.owner && nat_eq coarray c.coarray) None h
lock_by c h i (asks.Delete owner coarray) reply = cond (nat_eq owner.0 c.owner && nat_eq coarray c.coarray) None h
lock_by c h i ask reply = h

abbrev pub lock_holder : LockCell → Option ℕ → List Entry → Option ℕ
lock_holder c h [] = h
lock_holder c h (e ∷ es) = lock_holder c (lock_by c h e.image.0 e.event.ask e.event.reply) es

-- who is inside the construct after an ask of image i
abbrev pub inside_by : ℕ → Option ℕ → ℕ → Ask → Option ℕ
inside_by c h i (asks.Enter d) = cond (nat_eq d c) (Some i) h
inside_by c h i (asks.Exit d) = cond (nat_eq d c) (without i h) h
inside_by c h i asks.Gone = without i h
inside_by c h i ask = h

abbrev pub inside : ℕ → Option ℕ → List Entry → Option ℕ
inside c h [] = h
inside c h (e ∷ es) = inside c (inside_by c h e.image.0 e.event.ask) es
