-- Lock variables (ISO/IEC 1539-1:2018, 11.6.10) and event variables (11.6.7, 11.6.8) of a memory, from its history.
use Rattle.std.specs.Prelude.{ℕ, ◌+◌, ◌-◌, ℤ, pos, Bool, true, false, ◌&&◌, ◌||◌, nat_eq, cond, List, [], ◌∷◌}
use Rattle.std.specs.Ordering.{int_eq}
use Rattle.caf_base.specs.declared.span.Span.{Span}
use Rattle.caf_events.specs.declared.ask.Ask.{Ask}
use Rattle.caf_events.specs.declared.ask.Ask.TheVariants as asks
use Rattle.caf_events.specs.declared.reply.Reply.{Reply}
use Rattle.caf_events.specs.declared.reply.Reply.TheVariants as replies
use Rattle.caf_events.specs.declared.event.Entry.{Entry}
use Rattle.object_rules.specs.Constructs.{Hold, free, held, left_by, abandoned}

-- the span begins at this offset of this coarray; lock and event actions have spans of one cell
abbrev pub is_at : ℕ → ℕ → Span → Bool
is_at c o span = nat_eq span.coarray c && nat_eq span.start o

-- the reply is this status number
abbrev pub has_status : ℤ → Reply → Bool
has_status s (replies.Number status) = int_eq status s
has_status s reply = false

-- the lock was acquired: at status 0, or at STAT_UNLOCKED_FAILED_IMAGE from an image that failed while it held it
abbrev pub acquires : Reply → Bool
acquires reply = has_status (pos 0) reply || has_status (pos 6002) reply

-- the step was made at its cell
abbrev pub is_done : Reply → Bool
is_done replies.Done = true
is_done reply = false

-- the lock variable after a step of image i
abbrev pub lock_turn : ℕ → ℕ → Hold → ℕ → Ask → Reply → Hold
lock_turn c o s i (asks.Lock owner span) reply = cond (is_at c o span && acquires reply) (held i) s
lock_turn c o s i (asks.TryLock owner span) reply = cond (is_at c o span && acquires reply) (held i) s
lock_turn c o s i (asks.Unlock owner span) reply = cond (is_at c o span && has_status (pos 0) reply) free s
lock_turn c o s i (asks.Free owner span) reply = cond (is_at c o span && is_done reply) (abandoned s i) s
lock_turn c o s i (asks.Create owner coarray cells) reply = cond (nat_eq coarray c) free s
lock_turn c o s i (asks.Delete owner coarray) reply = cond (nat_eq coarray c) free s
lock_turn c o s i ask reply = s

abbrev pub lock_from : ℕ → ℕ → Hold → List Entry → Hold
lock_from c o s [] = s
lock_from c o s (e ∷ es) = lock_from c o (lock_turn c o s e.image.0 e.event.ask e.event.reply) es

-- who holds a lock variable after a history
abbrev pub lock_after : ℕ → ℕ → List Entry → Hold
lock_after c o h = lock_from c o free h

-- the event variable after a step: a post adds one to its count, and a wait takes its threshold away
abbrev pub event_turn : ℕ → ℕ → ℕ → Ask → Reply → ℕ
event_turn c o n (asks.Post owner span) reply = cond (is_at c o span && has_status (pos 0) reply) (n + 1) n
event_turn c o n (asks.Wait owner span threshold) reply = cond (is_at c o span) (n - threshold) n
event_turn c o n (asks.Create owner coarray cells) reply = cond (nat_eq coarray c) 0 n
event_turn c o n (asks.Delete owner coarray) reply = cond (nat_eq coarray c) 0 n
event_turn c o n ask reply = n

abbrev pub event_from : ℕ → ℕ → ℕ → List Entry → ℕ
event_from c o n [] = n
event_from c o n (e ∷ es) = event_from c o (event_turn c o n e.event.ask e.event.reply) es

-- the count of an event variable after a history: the posts that no wait took
abbrev pub event_after : ℕ → ℕ → List Entry → ℕ
event_after c o h = event_from c o 0 h

-- the status of LOCK (11.6.10, 11.6.11): 0 where the lock is free, STAT_UNLOCKED_FAILED_IMAGE where its last holder
-- failed, STAT_LOCKED where the image holds it itself; LOCK waits where another image does, and has no status
abbrev pub lock_status : Hold → ℕ → ℤ
lock_status free i = pos 0
lock_status (left_by j) i = pos 6002
lock_status (held j) i = pos 6003

-- the status of UNLOCK: 0 where the image holds the lock, STAT_LOCKED_OTHER_IMAGE where another one does, else
-- STAT_UNLOCKED
abbrev pub unlock_status : Hold → ℕ → ℤ
unlock_status (held j) i = cond (nat_eq j i) (pos 0) (pos 6005)
unlock_status s i = pos 6004

-- another image than i holds the lock
abbrev pub is_others : Hold → ℕ → Bool
is_others (held j) i = cond (nat_eq j i) false true
is_others s i = false
