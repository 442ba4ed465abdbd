-- A read or a write of one cell leaves every ask at its memory as ready as it was.
use Rattle.std.proofs.Common.{◌≡◌, ℕ, ◌+◌, Bool, true, false, ◌&&◌, ◌||◌, not, nat_le, cond, List, [], ◌∷◌, ◌++◌, length, refl, ap, ◌∙◌, subst, arith}
use Rattle.std.specs.Prelude.{Option, slice_get, is_some}
use Rattle.std.specs.List.{list_all, range_with_len}
use Rattle.caf_base.specs.declared.span.Span.{Span}
use Rattle.caf_base.specs.Spans.{offsets_of}
use Rattle.caf_events.specs.declared.ask.Ask.{Ask}
use Rattle.caf_events.specs.declared.ask.Ask.TheVariants as asks
use Rattle.caf_events.specs.declared.reply.Reply.{Reply}
use Rattle.caf_events.specs.declared.reply.Reply.TheVariants as replies
use Rattle.caf_events.specs.declared.event.Entry.{Entry}
use Rattle.caf_events.specs.Events.{words_by, reply_words}
use Rattle.object_rules.specs.Constructs.{Hold}
use Rattle.object_rules.specs.Locks.{lock_turn, lock_after, event_turn, event_after, is_others}
use Rattle.object_rules.specs.Cells.{MadeMemory, size_turn, size_after, is_offset, is_within, is_mark, is_marked}
use Rattle.object_rules.specs.MemoryRules.{or_zero, cells_used, all_cells, is_own, is_allocatable, is_event, is_cell_of, fits_memory, can_come, cells_there, memory_ready, memory_reply}
use Rattle.object_rules.proofs.MemoryGrowing.{size_more, lock_more, event_more, marked_more}

-- a read or a write
abbrev pub is_access : Ask → Bool
is_access (asks.Read owner span) = true
is_access (asks.Write owner span vs) = true
is_access ask = false

-- it changes no allocation, no lock variable, no event variable, and marks nothing
size_stays : (c : ℕ) (s : Option ℕ) (a : Ask) → is_access a ≡ true → size_turn c s a ≡ s
size_stays c s (asks.Read owner span) q = refl
size_stays c s (asks.Write owner span vs) q = refl
size_stays c s a q = absurd (cc)

lock_stays : (c o : ℕ) (s : Hold) (i : ℕ) (a : Ask) (r : Reply) → is_access a ≡ true → lock_turn c o s i a r ≡ s
lock_stays c o s i (asks.Read owner span) r q = refl
lock_stays c o s i (asks.Write owner span vs) r q = refl
lock_stays c o s i a r q = absurd (cc)

event_stays : (c o n : ℕ) (a : Ask) (r : Reply) → is_access a ≡ true → event_turn c o n a r ≡ n
event_stays c o n (asks.Read owner span) r q = refl
event_stays c o n (asks.Write owner span vs) r q = refl
event_stays c o n a r q = absurd (cc)

or_no : (b : Bool) → (b || false) ≡ b
or_no true = refl
or_no false = refl

mark_stays : (b : Bool) (a : Ask) → is_access a ≡ true → (b || is_mark a) ≡ b
mark_stays b (asks.Read owner span) q = or_no b
mark_stays b (asks.Write owner span vs) q = or_no b
mark_stays b a q = absurd (cc)

module _ (m : MadeMemory) (h : List Entry) (e : Entry) (access : is_access e.event.ask ≡ true) where
  abbrev now : List Entry
  now = h ++ e ∷ []

  size_same : (c : ℕ) → size_after m now c ≡ size_after m h c
  size_same c = size_more m h e c ∙ size_stays c (size_after m h c) e.event.ask access

  used_same : (cs : List ℕ) → cells_used m now cs ≡ cells_used m h cs
  used_same [] = refl
  used_same (c ∷ cs) = ap (λ s. or_zero s + cells_used m now cs) (size_same c) ∙ ap (λ n. or_zero (size_after m h c) + n) (used_same cs)

  within_same : (span : Span) → is_within m now span ≡ is_within m h span
  within_same span = ap (λ s. list_all (is_offset s) (offsets_of span)) (size_same span.coarray)

  lock_same : (c o : ℕ) → lock_after c o now ≡ lock_after c o h
  lock_same c o = lock_more c o h e ∙ lock_stays c o (lock_after c o h) e.image.0 e.event.ask e.event.reply access

  event_same : (c o : ℕ) → event_after c o now ≡ event_after c o h
  event_same c o = event_more c o h e ∙ event_stays c o (event_after c o h) e.event.ask e.event.reply access

  mark_same : is_marked now ≡ is_marked h
  mark_same = marked_more h e ∙ mark_stays (is_marked h) e.event.ask access

  fits_same : (j : ℕ) (a : Ask) → fits_memory m now j a ≡ fits_memory m h j a
  fits_same j (asks.Create owner coarray cells) =
      ap (λ s. is_own m j owner && is_allocatable (slice_get m.coarrays coarray) && not (is_some s) && nat_le (all_cells m now + cells) 65536) (size_same coarray)
      ∙ ap (λ t. is_own m j owner && is_allocatable (slice_get m.coarrays coarray) && not (is_some (size_after m h coarray)) && nat_le (t + cells) 65536)
      (used_same (range_with_len 0 (length m.coarrays)))
  fits_same j (asks.Delete owner coarray) = ap (λ s. is_own m j owner && is_allocatable (slice_get m.coarrays coarray) && is_some s) (size_same coarray)
  fits_same j (asks.Wait owner span k) = ap (λ w. is_own m j owner && is_cell_of m is_event span && w && nat_le 1 k) (within_same span)
  fits_same j (asks.Query owner span) = ap (λ w. is_own m j owner && is_cell_of m is_event span && w) (within_same span)
  fits_same j a = refl

  comes_same : (j : ℕ) (a : Ask) → can_come now (cells_there m now a) j a ≡ can_come h (cells_there m h a) j a
  comes_same j (asks.Lock owner span) =
      ap (λ w. is_marked now || not w || not (is_others (lock_after span.coarray span.start now) j)) (within_same span)
      ∙ ap (λ mk. mk || not (is_within m h span) || not (is_others (lock_after span.coarray span.start now) j)) mark_same
      ∙ ap (λ s. is_marked h || not (is_within m h span) || not (is_others s j)) (lock_same span.coarray span.start)
  comes_same j (asks.Wait owner span k) = ap (nat_le k) (event_same span.coarray span.start)
  comes_same j a = refl

  pub ready_same : (j : ℕ) (a : Ask) → memory_ready m now j a ≡ memory_ready m h j a
  ready_same j a =
      ap (λ f. f && can_come now (cells_there m now a) j a) (fits_same j a)
      ∙ ap (λ c. fits_memory m h j a && c) (comes_same j a)

-- five recorded words
no_words : (mk th : Bool) (d t : Reply) → reply_words d ≡ 0 → reply_words t ≡ 0 → reply_words (cond mk d (cond th t replies.Absent)) ≡ 0
no_words true th d t p q = p
no_words false true d t p q = q
no_words false false d t p q = refl

same_words : (mk th : Bool) (t : Reply) → reply_words t ≡ 0 → reply_words (cond mk (cond th t replies.Absent) (cond th t replies.Absent)) ≡ 0
same_words true true t q = q
same_words true false t q = refl
same_words false true t q = q
same_words false false t q = refl

try_words : (b : Bool) (n : Reply) → reply_words n ≡ 0 → reply_words (cond b replies.Busy n) ≡ 0
try_words true n q = refl
try_words false n q = q

not_five : (r s : Reply) → r ≡ s → reply_words s ≡ 0 → 4 + 0 + reply_words r ≡ 5 → ⊥
not_five r s same none five =
    let w : 4 + 0 + reply_words s ≡ 5 = subst (λ (x : Reply). 4 + 0 + reply_words x ≡ 5) same five in
    omega arith

module _ (m : MadeMemory) (h : List Entry) (i : ℕ) where
  -- a step of as many is a read or a write
  pub five_words : (a : Ask) (r : Reply) → memory_ready m h i a ≡ true → r ≡ memory_reply m h i a → words_by a r ≡ 5 → is_access a ≡ true
  five_words (asks.Read owner span) r ready due five = refl
  five_words (asks.Write owner span vs) r ready due five = refl
  five_words (asks.Create owner coarray cells) r ready due five =
      absurd (not_five r _ due (same_words (is_marked h) true replies.Done refl) five)
  five_words (asks.Delete owner coarray) r ready due five =
      absurd (not_five r _ due (same_words (is_marked h) true replies.Done refl) five)
  five_words (asks.Atomic owner op span x y) r ready due five = absurd (let w : 4 + 2 + reply_words r ≡ 5 = five in omega arith)
  five_words (asks.Lock owner span) r ready due five =
      absurd (not_five r _ due (no_words (is_marked h) (is_within m h span) _ _ refl refl) five)
  five_words (asks.TryLock owner span) r ready due five =
      absurd (not_five r _ due (no_words (is_marked h) (is_within m h span) _ _ refl (try_words (is_others (lock_after span.coarray span.start h) i) _ refl)) five)
  five_words (asks.Unlock owner span) r ready due five =
      absurd (not_five r _ due (no_words (is_marked h) (is_within m h span) _ _ refl refl) five)
  five_words (asks.Post owner span) r ready due five =
      absurd (not_five r _ due (no_words (is_marked h) (is_within m h span) _ _ refl refl) five)
  five_words (asks.Wait owner span k) r ready due five =
      absurd (not_five r _ due (same_words (is_marked h) true _ refl) five)
  five_words (asks.Query owner span) r ready due five =
      absurd (not_five r _ due (same_words (is_marked h) true _ refl) five)
  five_words (asks.Mark owner) r ready due five = absurd (cc)
  five_words (asks.Free owner span) r ready due five = absurd (cc)
  five_words a r ready due five = absurd (cc)
