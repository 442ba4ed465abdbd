-- The reply of the control board, and that of a memory, is one of the forms that answer the ask.
use Rattle.std.proofs.Common.{◌≡◌, ℕ, Bool, true, false, ◌&&◌, cond, IsTrue, List, inl, inr, refl, sym, ◌∙◌}
use Rattle.std.proofs.lemmas.Bool.{false≢true, and_parts}
use Rattle.std.specs.Prelude.{◌⊎◌, pos, Option, None, Some}
use Rattle.caf_base.specs.declared.place.ImageNo.{ImageNo}
use Rattle.caf_base.specs.declared.span.Span.{Span}
use Rattle.caf_base.specs.declared.value.Value.{Value}
use Rattle.caf_base.specs.declared.value.AtomicOp.{AtomicOp}
use Rattle.caf_events.specs.declared.ask.Ask.{Ask}
use Rattle.caf_events.specs.declared.ask.Ask.TheVariants as asks
use Rattle.caf_events.specs.declared.reply.Reply.{Reply}
use Rattle.caf_events.specs.declared.reply.Reply.TheVariants as replies
use Rattle.caf_events.specs.declared.round.RoundKind.{RoundKind}
use Rattle.caf_events.specs.declared.event.Entry.{Entry}
use Rattle.caf_events.specs.Answers.{Answers}
use Rattle.object_rules.specs.TeamRounds.{Opening, Missed}
use Rattle.object_rules.specs.Kinds.{same_kind}
use Rattle.object_rules.specs.BoardRules as board
use Rattle.object_rules.specs.BoardRules.{board_ready, board_reply}
use Rattle.object_rules.specs.Cells.{MadeMemory, is_marked, atomic_value, value_after}
use Rattle.object_rules.specs.Locks.{lock_after, lock_status, is_others}
use Rattle.object_rules.specs.MemoryRules as memory
use Rattle.object_rules.specs.MemoryRules.{memory_ready, memory_reply}

-- the reply of an arrival says that it joined a round or clashed
abbrev IsArrival : Reply → Type 0
IsArrival (replies.Round n) = Unit {0}
IsArrival (replies.Clash i l) = Unit {0}
IsArrival r = ⊥

either_arrival : (b : Bool) (p q : Reply) → IsArrival p → IsArrival q → IsArrival (cond b p q)
either_arrival true p q h k = h
either_arrival false p q h k = k

joined : (kind : RoundKind) (n : ℕ) (o : Option Opening) → IsArrival (board.joined_or_clash kind n o)
joined kind n None = tt
joined kind n (Some o) = either_arrival (same_kind kind o.kind) (replies.Round n) (replies.Clash (record { 0 = o.image }) o.line) tt tt

abbrev IsTaken : Reply → Type 0
IsTaken (replies.Taken s vs) = Unit {0}
IsTaken r = ⊥

taken_by : (m : Missed) (o : Option (List Value)) → IsTaken (board.taken_by m o)
taken_by m None = tt
taken_by m (Some vs) = tt

collective_result : (t n : ℕ) (ms : List ℕ) (f : List Entry) (o : Option Opening) → IsTaken (board.collective_result t n ms f o)
collective_result t n ms f None = tt
collective_result t n ms f (Some o) = taken_by _ _

take_reply : (n : ℕ) (h : List Entry) (t r : ℕ) (o : Option (List Entry)) → IsTaken (board.take_reply n h t r o)
take_reply n h t r None = tt
take_reply n h t r (Some f) = collective_result t r _ f _

abbrev IsLeft : Reply → Type 0
IsLeft (replies.Left s ts) = Unit {0}
IsLeft r = ⊥

leave_reply : (n : ℕ) (h : List Entry) (t r : ℕ) (o : Option (List Entry)) → IsLeft (board.leave_reply n h t r o)
leave_reply n h t r None = tt
leave_reply n h t r (Some f) = tt

arrive_answers : (t : _) (k : _) (r : Reply) → IsArrival r → Answers (asks.Arrive t k) r
arrive_answers t k (replies.Round n) h = tt
arrive_answers t k (replies.Clash i l) h = tt
arrive_answers t k r h = absurd h

gather_answers : (t : _) (op : _) (root : ℕ) (kind : _) (vs : List Value) (r : Reply) → IsArrival r → Answers (asks.Gather t op root kind vs) r
gather_answers t op root kind vs (replies.Round n) h = tt
gather_answers t op root kind vs (replies.Clash i l) h = tt
gather_answers t op root kind vs r h = absurd h

take_answers : (t : _) (n : ℕ) (r : Reply) → IsTaken r → Answers (asks.Take t n) r
take_answers t n (replies.Taken s vs) h = tt
take_answers t n r h = absurd h

leave_answers : (t : _) (n : ℕ) (r : Reply) → IsLeft r → Answers (asks.Leave t n) r
leave_answers t n (replies.Left s ts) h = tt
leave_answers t n r h = absurd h

never_ready : (n : ℕ) (h : List Entry) (i : ℕ) (a : Ask) → board.fits_board n h i a ≡ false → IsTrue (board_ready n h i a) → ⊥
never_ready n h i a f t =
    let p = and_parts (board.is_image n i && board.fits_board n h i a) (board.can_come n h i a) t in
    let q = and_parts (board.is_image n i) (board.fits_board n h i a) p.0 in
    absurd (false≢true (sym f ∙ q.1))

pub board_answers : (n : ℕ) (h : List Entry) (i : ℕ) (a : Ask) → IsTrue (board_ready n h i a) → Answers a (board_reply n h i a)
board_answers n h i (asks.Arrive t k) x = arrive_answers t k (board_reply n h i (asks.Arrive t k)) (search joined)
board_answers n h i (asks.Leave t r) x = leave_answers t r (board_reply n h i (asks.Leave t r)) (search leave_reply)
board_answers n h i (asks.Gather t op root kind vs) x = gather_answers t op root kind vs (board_reply n h i (asks.Gather t op root kind vs)) (search joined)
board_answers n h i (asks.Take t r) x = take_answers t r (board_reply n h i (asks.Take t r)) (search take_reply)
board_answers n h i (asks.Pair js) x = tt
board_answers n h i asks.Unpair x = tt
board_answers n h i (asks.Enter c) x = tt
board_answers n h i (asks.Exit c) x = tt
board_answers n h i asks.Gone x = tt
board_answers n h i (asks.Stop code) x = tt
board_answers n h i (asks.Failed t) x = tt
board_answers n h i (asks.Stopped t) x = tt
board_answers n h i (asks.Status t k) x = tt
board_answers n h i a x = absurd (never_ready n h i a refl x)

-- ---- memories
either_way : (a : Ask) (b : Bool) (p q : Reply) → Answers a p → Answers a q → Answers a (cond b p q)
either_way a true p q h k = h
either_way a false p q h k = k

old_answers : (o : ImageNo) (op : AtomicOp) (s : Span) (x y now : Value) (v : Option Value) → Answers (asks.Atomic o op s x y) (memory.old_or_overflow now v)
old_answers o op s x y now None = tt
old_answers o op s x y now (Some v) = tt

atomic_answers : (o : ImageNo) (op : AtomicOp) (s : Span) (x y : Value) (v : Option Value) → Answers (asks.Atomic o op s x y) (memory.atomic_reply op x y v)
atomic_answers o op s x y None = tt
atomic_answers o op s x y (Some now) = old_answers o op s x y now (atomic_value op now x y)

-- the reply of a cell in a marked memory, of one that is there, and of one that isn't
by_memory : (m : MadeMemory) (h : List Entry) (i : ℕ) (a : Ask) → ((r : Reply) → Answers a r → Answers a (memory.dead_reply a r)) → Answers a (memory.touch_reply m h i a) → (memory.cells_there m h a ≡ true) ⊎ Answers a replies.Absent → Answers a (memory_reply m h i a)
by_memory m h i a dead touch there =
    let touched = cond (memory.cells_there m h a) (memory.touch_reply m h i a) replies.Absent in
    let t : Answers a touched = elim there [ inl e ↦ rw e touch | inr n ↦ either_way a (memory.cells_there m h a) (memory.touch_reply m h i a) replies.Absent touch n ] in
    either_way a (is_marked h) (memory.dead_reply a touched) touched (dead touched t) t

unready : (m : MadeMemory) (h : List Entry) (i : ℕ) (a : Ask) → memory.fits_memory m h i a ≡ false → IsTrue (memory_ready m h i a) → ⊥
unready m h i a f t = absurd (false≢true (sym f ∙ (and_parts (memory.fits_memory m h i a) (memory.can_come h (memory.cells_there m h a) i a) t).0))

pub memory_answers : (m : MadeMemory) (h : List Entry) (i : ℕ) (a : Ask) → IsTrue (memory_ready m h i a) → Answers a (memory_reply m h i a)
memory_answers m h i (asks.Read o s) x = by_memory m h i (asks.Read o s) (λ r k. tt) tt (inr tt)
memory_answers m h i (asks.Write o s vs) x = by_memory m h i (asks.Write o s vs) (λ r k. tt) tt (inr tt)
memory_answers m h i (asks.Create o c n) x = by_memory m h i (asks.Create o c n) (λ r k. k) tt (inl refl)
memory_answers m h i (asks.Delete o c) x = by_memory m h i (asks.Delete o c) (λ r k. k) tt (inl refl)
memory_answers m h i (asks.Atomic o op s y z) x =
    by_memory m h i (asks.Atomic o op s y z) (λ r k. tt) (atomic_answers o op s y z (value_after m h s.coarray (pos s.start))) (inr tt)
memory_answers m h i (asks.Lock o s) x = by_memory m h i (asks.Lock o s) (λ r k. tt) tt (inr tt)
memory_answers m h i (asks.TryLock o s) x =
    by_memory m h i (asks.TryLock o s) (λ r k. tt)
    (either_way (asks.TryLock o s) (is_others (lock_after s.coarray s.start h) i) replies.Busy (replies.Number (lock_status (lock_after s.coarray s.start h) i)) tt tt) (inr tt)
memory_answers m h i (asks.Unlock o s) x = by_memory m h i (asks.Unlock o s) (λ r k. tt) tt (inr tt)
memory_answers m h i (asks.Post o s) x = by_memory m h i (asks.Post o s) (λ r k. tt) tt (inr tt)
memory_answers m h i (asks.Wait o s n) x = by_memory m h i (asks.Wait o s n) (λ r k. k) tt (inl refl)
memory_answers m h i (asks.Query o s) x = by_memory m h i (asks.Query o s) (λ r k. k) tt (inl refl)
memory_answers m h i (asks.Mark o) x = by_memory m h i (asks.Mark o) (λ r k. k) tt (inl refl)
memory_answers m h i (asks.Free o s) x = by_memory m h i (asks.Free o s) (λ r k. tt) tt (inr tt)
memory_answers m h i a x = absurd (unready m h i a refl x)
