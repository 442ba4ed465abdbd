-- The memory of an image: which asks fit, which can come, and what is replied (ISO/IEC 1539-1:2018, 9.6, 9.7, 11.6,
-- 16.5, 16.10.2).
use Rattle.std.specs.Prelude.{ℕ, ◌+◌, pos, Bool, true, false, ◌&&◌, ◌||◌, not, nat_eq, nat_le, nat_lt, cond, List, [], ◌∷◌, length, Option, Some, None, slice_get, is_some}
use Rattle.std.specs.List.{list_all, range_with_len}
use Rattle.caf_base.specs.declared.place.ImageNo.{ImageNo}
use Rattle.caf_base.specs.declared.value.AtomicOp.{AtomicOp}
use Rattle.caf_base.specs.declared.value.AtomicOp.TheVariants as atomics
use Rattle.caf_base.specs.declared.value.Kind.{Kind}
use Rattle.caf_base.specs.declared.value.Kind.TheVariants as kinds
use Rattle.caf_base.specs.declared.value.Value.{Value}
use Rattle.caf_base.specs.declared.value.Value.TheVariants as values
use Rattle.caf_base.specs.declared.span.Span.{Span}
use Rattle.caf_base.specs.Spans.{offsets_of}
use Rattle.caf_events.specs.declared.ask.Ask.{Ask}
use Rattle.caf_events.specs.declared.ask.Ask.TheVariants as asks
use Rattle.caf_events.specs.declared.reply.Reply.{Reply}
use Rattle.caf_events.specs.declared.reply.Reply.TheVariants as replies
use Rattle.caf_events.specs.declared.event.Entry.{Entry}
use Rattle.object_rules.specs.Folds.{is_of_kind}
use Rattle.object_rules.specs.SpanTests.{is_span}
use Rattle.object_rules.specs.Locks.{lock_after, event_after, lock_status, unlock_status, is_others}
use Rattle.object_rules.specs.Cells.{Content, of_kind, locks, events, Declared, MadeMemory, size_after, is_offset, is_within, is_marked, atomic_value, value_after, values_after}

-- what the cells of a coarray hold, where it is declared
abbrev pub is_values : Content → Bool
is_values (of_kind k) = true
is_values content = false

abbrev pub is_lock : Content → Bool
is_lock locks = true
is_lock content = false

abbrev pub is_event : Content → Bool
is_event events = true
is_event content = false

abbrev pub holds : (Content → Bool) → Option Declared → Bool
holds test None = false
holds test (Some d) = test d.content

-- the values are of the coarray's type and kind
abbrev pub suits_values : List Value → Content → Bool
suits_values vs (of_kind k) = list_all (is_of_kind k) vs
suits_values vs content = false

-- each cell of a static coarray of values has a first value of the coarray's kind
abbrev pub has_first_values : Declared → Bool
has_first_values d = d.allocatable || not (is_values d.content) || (nat_eq (length d.first) d.cells && suits_values d.first d.content)

-- an operand is of the coarray's type (16.9.20 to 16.9.30)
abbrev pub is_of_type : Kind → Value → Bool
is_of_type kinds.L4 (values.Bool b) = true
is_of_type kinds.L4 (values.Int n) = false
is_of_type kind (values.Int n) = true
is_of_type kind (values.Bool b) = false

-- the operands that an operator uses are of the coarray's type
abbrev pub has_operands : AtomicOp → Kind → Value → Value → Bool
has_operands atomics.Ref kind x y = true
has_operands atomics.Cas kind x y = is_of_type kind x && is_of_type kind y
has_operands op kind x y = is_of_type kind x

-- an operator that takes a logical variable too
abbrev pub is_logical_op : AtomicOp → Bool
is_logical_op atomics.Define = true
is_logical_op atomics.Ref = true
is_logical_op atomics.Cas = true
is_logical_op op = false

-- an atomic action suits integers of kind 4, or logicals where its operator takes them
abbrev pub suits_atomic : AtomicOp → Value → Value → Content → Bool
suits_atomic op x y (of_kind kinds.I4) = has_operands op kinds.I4 x y
suits_atomic op x y (of_kind kinds.L4) = is_logical_op op && has_operands op kinds.L4 x y
suits_atomic op x y content = false

-- the span is of one cell, at an offset that a coarray can have
abbrev pub is_one_cell : Span → Bool
is_one_cell span = nat_eq (length span.dims) 0 && nat_lt span.start 65536

abbrev pub is_allocatable : Option Declared → Bool
is_allocatable None = false
is_allocatable (Some d) = d.allocatable

abbrev pub or_zero : Option ℕ → ℕ
or_zero None = 0
or_zero (Some n) = n

-- the cells of all coarrays that are there
abbrev pub cells_used : MadeMemory → List Entry → List ℕ → ℕ
cells_used m h [] = 0
cells_used m h (c ∷ cs) = or_zero (size_after m h c) + cells_used m h cs

abbrev pub all_cells : MadeMemory → List Entry → ℕ
all_cells m h = cells_used m h (range_with_len 0 (length m.coarrays))

-- the value of a cell; None where there is no such cell or it is a lock or an event
abbrev pub value_there : MadeMemory → List Entry → ℕ → ℕ → Option Value
value_there m h c o = cond (holds is_values (slice_get m.coarrays c) && is_offset (size_after m h c) (pos o)) (value_after m h c (pos o)) None

-- the memory that an ask names is this one
abbrev pub is_here : MadeMemory → ImageNo → Bool
is_here m owner = nat_eq owner.0 m.owner.0

-- the same, of an ask that the owner alone makes
abbrev pub is_own : MadeMemory → ℕ → ImageNo → Bool
is_own m i owner = is_here m owner && nat_eq i m.owner.0

-- a step of one cell of a coarray with this content
abbrev pub is_cell_of : MadeMemory → (Content → Bool) → Span → Bool
is_cell_of m test span = is_one_cell span && holds test (slice_get m.coarrays span.coarray)

-- an ask fits: its span is one, and what it names is declared or there, and of the type that its kind of action needs
abbrev pub fits_memory : MadeMemory → List Entry → ℕ → Ask → Bool
fits_memory m h i (asks.Read owner span) = is_here m owner && is_span span && holds is_values (slice_get m.coarrays span.coarray)
fits_memory m h i (asks.Write owner span vs) = is_here m owner && is_span span && nat_eq (length vs) (length (offsets_of span)) && holds (suits_values vs) (slice_get m.coarrays span.coarray)
fits_memory m h i (asks.Create owner coarray cells) =
    is_own m i owner && is_allocatable (slice_get m.coarrays coarray) && not (is_some (size_after m h coarray)) && nat_le (all_cells m h + cells) 65536
fits_memory m h i (asks.Delete owner coarray) = is_own m i owner && is_allocatable (slice_get m.coarrays coarray) && is_some (size_after m h coarray)
fits_memory m h i (asks.Atomic owner op span x y) = is_here m owner && is_cell_of m (suits_atomic op x y) span
fits_memory m h i (asks.Lock owner span) = is_here m owner && is_cell_of m is_lock span
fits_memory m h i (asks.TryLock owner span) = is_here m owner && is_cell_of m is_lock span
fits_memory m h i (asks.Unlock owner span) = is_here m owner && is_cell_of m is_lock span
fits_memory m h i (asks.Free owner span) = is_here m owner && is_cell_of m is_lock span
fits_memory m h i (asks.Post owner span) = is_here m owner && is_cell_of m is_event span
fits_memory m h i (asks.Wait owner span threshold) = is_own m i owner && is_cell_of m is_event span && is_within m h span && nat_le 1 threshold
fits_memory m h i (asks.Query owner span) = is_own m i owner && is_cell_of m is_event span && is_within m h span
fits_memory m h i (asks.Mark owner) = is_own m i owner
fits_memory m h i ask = false

-- an ask that fits can come now: LOCK waits for another holder, except at a marked memory or where its cell isn't
-- there, and EVENT WAIT for its threshold
abbrev pub can_come : List Entry → Bool → ℕ → Ask → Bool
can_come h there i (asks.Lock owner span) = is_marked h || not there || not (is_others (lock_after span.coarray span.start h) i)
can_come h there i (asks.Wait owner span threshold) = nat_le threshold (event_after span.coarray span.start h)
can_come h there i ask = true

-- whether the cells that an ask names are there
abbrev pub cells_there : MadeMemory → List Entry → Ask → Bool
cells_there m h (asks.Read owner span) = is_within m h span
cells_there m h (asks.Write owner span vs) = is_within m h span
cells_there m h (asks.Atomic owner op span x y) = is_within m h span
cells_there m h (asks.Lock owner span) = is_within m h span
cells_there m h (asks.TryLock owner span) = is_within m h span
cells_there m h (asks.Unlock owner span) = is_within m h span
cells_there m h (asks.Post owner span) = is_within m h span
cells_there m h (asks.Free owner span) = is_within m h span
cells_there m h ask = true

abbrev pub memory_ready : MadeMemory → List Entry → ℕ → Ask → Bool
memory_ready m h i ask = fits_memory m h i ask && can_come h (cells_there m h ask) i ask

-- the reply to an ask whose memory its owner's failure has marked
abbrev pub dead_reply : Ask → Reply → Reply
dead_reply (asks.Read owner span) r = replies.Dead
dead_reply (asks.Write owner span vs) r = replies.Dead
dead_reply (asks.Atomic owner op span x y) r = replies.Dead
dead_reply (asks.Free owner span) r = replies.Dead
dead_reply (asks.Lock owner span) r = replies.Number (pos 6001)
dead_reply (asks.TryLock owner span) r = replies.Number (pos 6001)
dead_reply (asks.Unlock owner span) r = replies.Number (pos 6001)
dead_reply (asks.Post owner span) r = replies.Number (pos 6001)
dead_reply ask r = r

-- an atomic action replies the value that it finds, or that its result leaves the kind
abbrev pub old_or_overflow : Value → Option Value → Reply
old_or_overflow now None = replies.Overflow
old_or_overflow now (Some v) = replies.Old now

abbrev pub atomic_reply : AtomicOp → Value → Value → Option Value → Reply
atomic_reply op x y None = replies.Absent
atomic_reply op x y (Some now) = old_or_overflow now (atomic_value op now x y)

-- the reply to an ask that touches its cells
abbrev pub touch_reply : MadeMemory → List Entry → ℕ → Ask → Reply
touch_reply m h i (asks.Read owner span) = replies.Values (values_after m h span.coarray (offsets_of span))
touch_reply m h i (asks.Atomic owner op span x y) = atomic_reply op x y (value_after m h span.coarray (pos span.start))
touch_reply m h i (asks.Lock owner span) = replies.Number (lock_status (lock_after span.coarray span.start h) i)
touch_reply m h i (asks.TryLock owner span) =
    let s = lock_after span.coarray span.start h in
    cond (is_others s i) replies.Busy (replies.Number (lock_status s i))
touch_reply m h i (asks.Unlock owner span) = replies.Number (unlock_status (lock_after span.coarray span.start h) i)
touch_reply m h i (asks.Post owner span) = replies.Number (pos 0)
touch_reply m h i (asks.Wait owner span threshold) = replies.Number (pos 0)
touch_reply m h i (asks.Query owner span) = replies.Count (event_after span.coarray span.start h)
touch_reply m h i ask = replies.Done

-- the reply to an ask of image i after a history: dead, absent, or by its cells, the first of these that holds
abbrev pub memory_reply : MadeMemory → List Entry → ℕ → Ask → Reply
memory_reply m h i ask =
    let touched = cond (cells_there m h ask) (touch_reply m h i ask) replies.Absent in
    cond (is_marked h) (dead_reply ask touched) touched
