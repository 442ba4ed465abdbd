-- The memory of an image (ISO/IEC 1539-1:2018, 9.7, 16.5, 19.6.5): which coarrays are there, and what their cells hold.
use Rattle.std.specs.Prelude.{ℕ, ℤ, pos, negsuc, ◌+ℤ◌, Bool, true, false, ◌&&◌, nat_eq, nat_lt, cond, List, [], ◌∷◌, Option, Some, None, slice_get}
use Rattle.std.specs.List.{list_all, list_any}
use Rattle.std.specs.Int.{w64, int_bit_and, int_bit_or, int_bit_xor}
use Rattle.std.specs.Ordering.{int_eq}
use Rattle.caf_base.specs.declared.place.ImageNo.{ImageNo}
use Rattle.caf_base.specs.declared.value.AtomicOp.{AtomicOp}
use Rattle.caf_base.specs.declared.value.AtomicOp.TheVariants as atomics
use Rattle.caf_base.specs.declared.value.Kind.{Kind}
use Rattle.caf_base.specs.declared.value.Kind.TheVariants as kinds
use Rattle.caf_base.specs.declared.value.Value.{Value}
use Rattle.caf_base.specs.declared.value.Value.TheVariants as values
use Rattle.caf_base.specs.declared.span.Span.{Span}
use Rattle.caf_base.specs.Spans.{offsets_of}
use Rattle.caf_events.specs.declared.ask.Ask.{Ask}
use Rattle.caf_events.specs.declared.ask.Ask.TheVariants as asks
use Rattle.caf_events.specs.declared.reply.Reply.{Reply}
use Rattle.caf_events.specs.declared.reply.Reply.TheVariants as replies
use Rattle.caf_events.specs.declared.event.Entry.{Entry}
use Rattle.caf_events.specs.Memories.{cell_at, with_value}
use Rattle.object_rules.specs.Scans.{or_else}
use Rattle.object_rules.specs.Folds.{fits_kind}

-- what the cells of a coarray hold: values of a kind, lock variables, or event variables
pub data Content : Type 0 where
  of_kind : Kind → Content
  locks : Content
  events : Content

-- a declared coarray: a static one has so many cells, with first values where it holds values; an allocatable one has
-- none before its allocation
pub record Declared : Type 0 where
  pub content : Content
  pub allocatable : Bool
  pub cells : ℕ
  pub first : List Value

-- what a memory is made with: whose it is, and the coarrays in declared order
pub record MadeMemory : Type 0 where
  pub owner : ImageNo
  pub coarrays : List Declared

-- how many cells the coarray has after a step, None where it isn't there (9.7.1.3, 9.7.3.2)
abbrev pub size_turn : ℕ → Option ℕ → Ask → Option ℕ
size_turn c s (asks.Create owner coarray cells) = cond (nat_eq coarray c) (Some cells) s
size_turn c s (asks.Delete owner coarray) = cond (nat_eq coarray c) None s
size_turn c s ask = s

abbrev pub size_from : ℕ → Option ℕ → List Entry → Option ℕ
size_from c s [] = s
size_from c s (e ∷ es) = size_from c (size_turn c s e.event.ask) es

abbrev pub first_size : Option Declared → Option ℕ
first_size None = None
first_size (Some d) = cond d.allocatable None (Some d.cells)

-- how many cells a coarray has after a history: a static one is always there, another one between its allocation and
-- its deallocation
abbrev pub size_after : MadeMemory → List Entry → ℕ → Option ℕ
size_after m h c = size_from c (first_size (slice_get m.coarrays c)) h

-- the offset is one of so many cells
abbrev pub is_offset : Option ℕ → ℤ → Bool
is_offset None o = false
is_offset (Some n) (pos k) = nat_lt k n
is_offset (Some n) (negsuc k) = false

-- each cell of the span is there
abbrev pub is_within : MadeMemory → List Entry → Span → Bool
is_within m h span = list_all (is_offset (size_after m h span.coarray)) (offsets_of span)

-- the owner's failure has marked the memory
abbrev pub is_mark : Ask → Bool
is_mark (asks.Mark owner) = true
is_mark ask = false

abbrev pub is_marked : List Entry → Bool
is_marked h = list_any (λ e. is_mark e.event.ask) h

-- an integer, where kind 4 can hold it
abbrev pub in_kind_4 : ℤ → Option Value
in_kind_4 n = cond (fits_kind kinds.I4 n) (Some (values.Int n)) None

-- the values are the same
abbrev pub same_value : Value → Value → Bool
same_value (values.Int a) (values.Int b) = int_eq a b
same_value (values.Bool true) (values.Bool true) = true
same_value (values.Bool false) (values.Bool false) = true
same_value a b = false

-- a value that an atomic action defines, where kind 4 can hold it
abbrev pub checked : Value → Option Value
checked (values.Int n) = in_kind_4 n
checked (values.Bool b) = Some (values.Bool b)

-- the value that an atomic action leaves of the one that it finds (16.9.20 to 16.9.30); None where kind 4 can't hold
-- it: an operand may be of kind 8
abbrev pub atomic_value : AtomicOp → Value → Value → Value → Option Value
atomic_value atomics.Define now x y = checked x
atomic_value atomics.Ref now x y = Some now
atomic_value atomics.Add (values.Int a) (values.Int b) y = in_kind_4 (a +ℤ b)
atomic_value atomics.And (values.Int a) (values.Int b) y = in_kind_4 (int_bit_and w64 a b)
atomic_value atomics.Or (values.Int a) (values.Int b) y = in_kind_4 (int_bit_or w64 a b)
atomic_value atomics.Xor (values.Int a) (values.Int b) y = in_kind_4 (int_bit_xor w64 a b)
atomic_value atomics.Cas now x y = cond (same_value now x) (checked y) (Some now)
atomic_value op now x y = Some now

-- a cell that was just allocated holds 0 or false: the standard leaves it undefined (19.6.6), and this is the project's
-- choice
abbrev pub zero_of : Content → Value
zero_of (of_kind kinds.L4) = values.Bool false
zero_of content = values.Int (pos 0)

abbrev pub zero_there : Option Declared → Option Value
zero_there None = None
zero_there (Some d) = Some (zero_of d.content)

-- what an atomic action writes, where its reply tells the value that it found; where its result leaves the kind the old
-- value stays
abbrev pub atomic_written : AtomicOp → Value → Value → Reply → Option Value
atomic_written op x y (replies.Old now) = atomic_value op now x y
atomic_written op x y reply = None

-- what a step writes, where it was made
abbrev pub made_only : Reply → Option Value → Option Value
made_only replies.Done v = v
made_only reply v = None

-- the value that stands beside an offset; where an offset stands twice the later one counts
abbrev pub value_beside : ℤ → List ℤ → List Value → Option Value
value_beside o [] vs = None
value_beside o (x ∷ xs) [] = None
value_beside o (x ∷ xs) (v ∷ vs) = or_else (value_beside o xs vs) (cond (int_eq x o) (Some v) None)

-- what a step writes to the cell of a coarray at an offset: an allocation writes its cells and no other, a deallocation
-- leaves no value that could be read
abbrev pub written : MadeMemory → ℕ → ℤ → Ask → Reply → Option Value
written m c o (asks.Write owner span vs) reply = made_only reply (cond (nat_eq span.coarray c) (value_beside o (offsets_of span) vs) None)
written m c o (asks.Atomic owner op span x y) reply = cond (nat_eq span.coarray c && int_eq (pos span.start) o) (atomic_written op x y reply) None
written m c o (asks.Create owner coarray cells) reply = cond (nat_eq coarray c && is_offset (Some cells) o) (zero_there (slice_get m.coarrays c)) None
written m c o ask reply = None

-- the value of the last write of a cell, where there is one
abbrev pub last_write : MadeMemory → ℕ → ℤ → List Entry → Option Value
last_write m c o [] = None
last_write m c o (e ∷ es) = or_else (last_write m c o es) (written m c o e.event.ask e.event.reply)

abbrev pub first_there : ℤ → Option Declared → Option Value
first_there o None = None
first_there o (Some d) = cell_at o d.first

-- the value of a cell after a history: that of its last write, else its first one
abbrev pub value_after : MadeMemory → List Entry → ℕ → ℤ → Option Value
value_after m h c o = or_else (last_write m c o h) (first_there o (slice_get m.coarrays c))

-- the values of the cells at these offsets
abbrev pub values_after : MadeMemory → List Entry → ℕ → List ℤ → List Value
values_after m h c [] = []
values_after m h c (o ∷ os) = with_value (value_after m h c o) (values_after m h c os)
