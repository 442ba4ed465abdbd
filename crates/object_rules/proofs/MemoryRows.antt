-- Small runs at a memory, worked by hand and computed.
use Rattle.std.proofs.Common.{◌≡◌, ℕ, true, false, List, [], ◌∷◌, ◌++◌, refl}
use Rattle.std.specs.Prelude.{ℤ, pos, negsuc, Some, None}
use Rattle.std.specs.List.{list_all}
use Rattle.caf_base.specs.declared.place.ImageNo.{ImageNo}
use Rattle.caf_base.specs.declared.span.Span.{Span}
use Rattle.caf_base.specs.declared.value.AtomicOp.{AtomicOp}
use Rattle.caf_base.specs.declared.value.AtomicOp.TheVariants as atomics
use Rattle.caf_base.specs.declared.value.Kind.TheVariants as kinds
use Rattle.caf_base.specs.declared.value.Value.{Value}
use Rattle.caf_base.specs.declared.value.Value.TheVariants as values
use Rattle.caf_events.specs.declared.ask.Ask.{Ask}
use Rattle.caf_events.specs.declared.ask.Ask.TheVariants as asks
use Rattle.caf_events.specs.declared.reply.Reply.{Reply}
use Rattle.caf_events.specs.declared.reply.Reply.TheVariants as replies
use Rattle.caf_events.specs.declared.event.Entry.{Entry}
use Rattle.object_rules.specs.Cells.{of_kind, locks, events, MadeMemory, written}
use Rattle.object_rules.specs.MemoryRules.{has_first_values, memory_ready, memory_reply}

-- image 1's memory: four integers that begin as 9, a lock, an event, and an allocatable integer array
abbrev memory_1 : MadeMemory
memory_1 = record {
  owner = record { 0 = 1 };
  coarrays =
      record { content = of_kind kinds.I4; allocatable = false; cells = 4; first = values.Int (pos 9) ∷ values.Int (pos 9) ∷ values.Int (pos 9) ∷ values.Int (pos 9) ∷ [] }
      ∷ record { content = locks; allocatable = false; cells = 1; first = [] }
      ∷ record { content = events; allocatable = false; cells = 1; first = [] }
      ∷ record { content = of_kind kinds.I4; allocatable = true; cells = 0; first = [] } ∷ [];
}

record Step : Type 0 where
  image : ℕ
  ask : Ask

abbrev served : List Entry → List Step → List Entry
served h [] = h
served h (s ∷ ss) = served (h ++ record { image = record { 0 = s.image }; event = record { ask = s.ask; reply = memory_reply memory_1 h s.image s.ask; stamp = 0; line = 0 } } ∷ []) ss

abbrev replied : List Step → ℕ → Ask → Reply → Type 0
replied ss i a r = (memory_ready memory_1 (served [] ss) i a ≡ true) × (memory_reply memory_1 (served [] ss) i a ≡ r)

abbrev unready : List Step → ℕ → Ask → Type 0
unready ss i a = memory_ready memory_1 (served [] ss) i a ≡ false

abbrev cell : ℕ → ℕ → Span
cell c o = record { coarray = c; start = o; dims = [] }

abbrev section : Span
section = record { coarray = 0; start = 0; dims = (2, pos 3) ∷ [] }

abbrev one : ImageNo
one = record { 0 = 1 }

abbrev step : ℕ → Ask → Step
step i a = record { image = i; ask = a }

abbrev lock : ℕ → Step
lock i = step i (asks.Lock one (cell 1 0))

abbrev int : ℕ → Value
int n = values.Int (pos n)

-- a section of every third cell, and the same after the owner's failure
every_third_cell : replied [] 1 (asks.Read one section) (replies.Values (int 9 ∷ int 9 ∷ []))
every_third_cell = (refl, refl)

section_of_a_failed_image : replied (step 1 (asks.Mark one) ∷ []) 2 (asks.Read one section) replies.Dead
section_of_a_failed_image = (refl, refl)

section_then_cell : replied (step 1 (asks.Write one section (int 5 ∷ int 6 ∷ [])) ∷ step 2 (asks.Write one (cell 0 0) (int 7 ∷ [])) ∷ []) 2 (asks.Read one section) (replies.Values (int 7 ∷ int 6 ∷ []))
section_then_cell = (refl, refl)

beyond : replied [] 2 (asks.Read one (cell 0 4)) replies.Absent
beyond = (refl, refl)

-- STAT_LOCKED, STAT_LOCKED_OTHER_IMAGE, STAT_UNLOCKED
locked_twice : replied (lock 1 ∷ []) 1 (asks.Lock one (cell 1 0)) (replies.Number (pos 6003))
locked_twice = (refl, refl)

unlocked_by_another : replied (lock 1 ∷ lock 1 ∷ []) 2 (asks.Unlock one (cell 1 0)) (replies.Number (pos 6005))
unlocked_by_another = (refl, refl)

not_locked : replied [] 2 (asks.Unlock one (cell 1 0)) (replies.Number (pos 6004))
not_locked = (refl, refl)

busy : replied (lock 1 ∷ []) 2 (asks.TryLock one (cell 1 0)) replies.Busy
busy = (refl, refl)

waits : unready (lock 1 ∷ []) 2 (asks.Lock one (cell 1 0))
waits = refl

marked_lock : replied (lock 2 ∷ step 1 (asks.Mark one) ∷ []) 1 (asks.Lock one (cell 1 0)) (replies.Number (pos 6001))
marked_lock = (refl, refl)

-- STAT_UNLOCKED_FAILED_IMAGE, once
lock_of_a_failed_holder : replied (lock 2 ∷ step 2 (asks.Free one (cell 1 0)) ∷ []) 1 (asks.Lock one (cell 1 0)) (replies.Number (pos 6002))
lock_of_a_failed_holder = (refl, refl)

lock_of_a_failed_holder_then : replied (lock 2 ∷ step 2 (asks.Free one (cell 1 0)) ∷ lock 1 ∷ step 1 (asks.Unlock one (cell 1 0)) ∷ []) 2 (asks.Lock one (cell 1 0)) (replies.Number (pos 0))
lock_of_a_failed_holder_then = (refl, refl)

others_free : unready (lock 1 ∷ step 2 (asks.Free one (cell 1 0)) ∷ []) 2 (asks.Lock one (cell 1 0))
others_free = refl

-- EVENT WAIT without a post, and with two
event_without_a_post : unready [] 1 (asks.Wait one (cell 2 0) 1)
event_without_a_post = refl

two_posts_of_one_image : replied (step 2 (asks.Post one (cell 2 0)) ∷ step 2 (asks.Post one (cell 2 0)) ∷ []) 1 (asks.Wait one (cell 2 0) 2) (replies.Number (pos 0))
two_posts_of_one_image = (refl, refl)

counted : replied (step 2 (asks.Post one (cell 2 0)) ∷ step 1 (asks.Wait one (cell 2 0) 1) ∷ step 2 (asks.Post one (cell 2 0)) ∷ []) 1 (asks.Query one (cell 2 0)) (replies.Count 1)
counted = (refl, refl)

not_own : unready (step 2 (asks.Post one (cell 2 0)) ∷ []) 2 (asks.Wait one (cell 2 0) 1)
not_own = refl

-- ATOMIC_FETCH_ADD, an overflow, ATOMIC_CAS, ATOMIC_AND of a negative number
abbrev atomic : ℕ → AtomicOp → ℤ → ℤ → Step
atomic i op x y = step i (asks.Atomic one op (cell 0 0) (values.Int x) (values.Int y))

fetched : replied (atomic 1 atomics.Add (pos 1) (pos 0) ∷ []) 2 (asks.Atomic one atomics.Add (cell 0 0) (int 1) (int 0)) (replies.Old (int 10))
fetched = (refl, refl)

too_large : replied (atomic 1 atomics.Define (pos 2147483647) (pos 0) ∷ []) 1 (asks.Atomic one atomics.Add (cell 0 0) (int 1) (int 0)) replies.Overflow
too_large = (refl, refl)

kept : replied (atomic 1 atomics.Define (pos 2147483647) (pos 0) ∷ atomic 1 atomics.Add (pos 1) (pos 0) ∷ []) 1 (asks.Read one (cell 0 0)) (replies.Values (int 2147483647 ∷ []))
kept = (refl, refl)

swapped : replied (atomic 1 atomics.Cas (pos 9) (pos 3) ∷ atomic 1 atomics.Cas (pos 9) (pos 4) ∷ []) 1 (asks.Read one (cell 0 0)) (replies.Values (int 3 ∷ []))
swapped = (refl, refl)

and_of : replied (atomic 1 atomics.Define (negsuc 5) (pos 0) ∷ atomic 1 atomics.And (pos 13) (pos 0) ∷ []) 1 (asks.Read one (cell 0 0)) (replies.Values (int 8 ∷ []))
and_of = (refl, refl)

-- ALLOCATE, DEALLOCATE
absent : replied [] 2 (asks.Read one (cell 3 0)) replies.Absent
absent = (refl, refl)

there : replied (step 1 (asks.Create one 3 2) ∷ step 2 (asks.Write one (cell 3 1) (int 4 ∷ [])) ∷ step 1 (asks.Delete one 3) ∷ step 1 (asks.Create one 3 2) ∷ []) 2 (asks.Read one (cell 3 1)) (replies.Values (int 0 ∷ []))
there = (refl, refl)

gone_again : replied (step 1 (asks.Create one 3 2) ∷ step 1 (asks.Delete one 3) ∷ []) 2 (asks.Read one (cell 3 1)) replies.Absent
gone_again = (refl, refl)

-- an allocation of two cells writes no sixth one
fewer_cells : written memory_1 3 (pos 1) (asks.Create one 3 2) replies.Done ≡ Some (int 0)
fewer_cells = refl

no_sixth : written memory_1 3 (pos 5) (asks.Create one 3 2) replies.Done ≡ None
no_sixth = refl

first_values : list_all has_first_values memory_1.coarrays ≡ true
first_values = refl

twice : unready (step 1 (asks.Create one 3 2) ∷ []) 1 (asks.Create one 3 2)
twice = refl

too_many : unready [] 1 (asks.Create one 3 65531)
too_many = refl
