-- The reply that is due at a memory answers its ask: with as many values as cells, each of the coarray's kind, and with
-- a status that the ask can have.
use Rattle.std.proofs.Common.{◌≡◌, ℕ, Bool, true, false, ◌&&◌, cond, List, [], ◌∷◌, length, refl, ap, sym, ◌∙◌, subst, arith}
use Rattle.std.specs.Prelude.{suc, ℤ, pos, negsuc, nat_eq, nat_lt, Option, Some, None, slice_get}
use Rattle.std.specs.List.{list_all}
use Rattle.std.proofs.lemmas.Bool.{and_parts, both_ways, eqb-true, eq-eqb}
use Rattle.caf_base.specs.declared.span.Span.{Span}
use Rattle.caf_base.specs.declared.value.AtomicOp.{AtomicOp}
use Rattle.caf_base.specs.declared.value.Kind.{Kind}
use Rattle.caf_base.specs.declared.value.Value.{Value}
use Rattle.caf_base.specs.Spans.{offsets_from, offsets_of}
use Rattle.caf_events.specs.declared.ask.Ask.{Ask}
use Rattle.caf_events.specs.declared.ask.Ask.TheVariants as asks
use Rattle.caf_events.specs.declared.reply.Reply.{Reply}
use Rattle.caf_events.specs.declared.reply.Reply.TheVariants as replies
use Rattle.caf_events.specs.declared.event.Entry.{Entry}
use Rattle.caf_events.specs.Histories.{Served}
use Rattle.caf_events.specs.Memories.{with_value}
use Rattle.trace_theory.specs.Machines.{Said}
use Rattle.object_rules.specs.Constructs.{Hold, free, held, left_by}
use Rattle.object_rules.specs.SpanTests.{is_span}
use Rattle.object_rules.specs.Locks.{lock_after, event_after, lock_status, unlock_status, is_others}
use Rattle.object_rules.specs.Cells.{Content, of_kind, Declared, MadeMemory, size_after, is_offset, is_within, is_marked, atomic_value, value_after, values_after}
use Rattle.object_rules.specs.MemoryRules.{is_values, holds, has_first_values, suits_atomic, is_one_cell, is_here, is_cell_of, fits_memory, can_come, cells_there, old_or_overflow, atomic_reply, memory_ready, memory_reply}
use Rattle.object_rules.specs.Answering.{is_one_of, is_of_content, is_held, answers}
use Rattle.object_rules.proofs.CellValues.{all_get, has_value}
use Rattle.object_rules.proofs.TypedValues.{value_typed}

-- the coarray of values is declared
kind_there : (x : Option Declared) → holds is_values x ≡ true → (d : Declared) × (k : Kind) × (x ≡ Some d) × (d.content ≡ of_kind k)
kind_there None h = absurd (cc)
kind_there (Some d) h = let q = content_kind d.content h in (d, q.0, refl, q.1)
  where
    content_kind : (c : Content) → is_values c ≡ true → (k : Kind) × (c ≡ of_kind k)
    content_kind (of_kind k) h = (k, refl)
    content_kind c h = absurd (cc)

-- a coarray that suits an atomic action is one of values
suits_is : (op : AtomicOp) (x y : Value) (d : Option Declared) → holds (suits_atomic op x y) d ≡ true → holds is_values d ≡ true
suits_is op x y None h = absurd (cc)
suits_is op x y (Some d) h = of_content d.content h
  where
    of_content : (c : Content) → suits_atomic op x y c ≡ true → is_values c ≡ true
    of_content (of_kind k) h = refl
    of_content c h = absurd (cc)

no_negative : (s : Option ℕ) (k : ℕ) → is_offset s (negsuc k) ≡ false
no_negative None k = refl
no_negative (Some n) k = refl

-- one of the replies of a memory
pick : (P : Reply → Bool) (marked there : Bool) (d t : Reply) → P d ≡ true → (there ≡ true → P t ≡ true) → P replies.Absent ≡ true → P (cond marked d (cond there t replies.Absent)) ≡ true
pick P true there d t p q r = p
pick P false true d t p q r = q refl
pick P false false d t p q r = r

-- the same reply at a marked memory
alike : (P : Reply → Bool) (marked : Bool) (t : Reply) → P t ≡ true → P (cond marked t t) ≡ true
alike P true t p = p
alike P false t p = p

lock_is : (s : Hold) (i : ℕ) → is_one_of (pos 0 ∷ pos 6001 ∷ pos 6002 ∷ pos 6003 ∷ []) (lock_status s i) ≡ true
lock_is free i = refl
lock_is (held j) i = refl
lock_is (left_by j) i = refl

unlock_is : (s : Hold) (i : ℕ) → is_one_of (pos 0 ∷ pos 6001 ∷ pos 6004 ∷ pos 6005 ∷ []) (unlock_status s i) ≡ true
unlock_is free i = refl
unlock_is (held j) i = elim (nat_eq j i) as (λ b. is_one_of (pos 0 ∷ pos 6001 ∷ pos 6004 ∷ pos 6005 ∷ []) (cond b (pos 0) (pos 6005)) ≡ true) [ true ↦ refl | false ↦ refl ]
unlock_is (left_by j) i = refl

-- a busy lock, or its status
tried : (P : Reply → Bool) (b : Bool) (t : Reply) → P replies.Busy ≡ true → P t ≡ true → P (cond b replies.Busy t) ≡ true
tried P true t p q = p
tried P false t p q = q

-- an atomic action finds a value
found : (P : Reply → Bool) (op : AtomicOp) (x y : Value) (v : Option Value) → ((now : Value) → v ≡ Some now → P (replies.Old now) ≡ true) → P replies.Overflow ≡ true → P replies.Absent ≡ true → P (atomic_reply op x y v) ≡ true
found P op x y None p q r = r
found P op x y (Some now) p q r = left (atomic_value op now x y)
  where
    left : (w : Option Value) → P (old_or_overflow now w) ≡ true
    left None = q
    left (Some w) = p now refl

module _ (m : MadeMemory) (full : list_all has_first_values m.coarrays ≡ true) (h : List Entry) (served : Served (memory_ready m) (memory_reply m) [] h) where
  -- a cell of values that is there has a value that the coarray can hold
  holds_here : (c : ℕ) → holds is_values (slice_get m.coarrays c) ≡ true → (o : ℤ) → is_offset (size_after m h c) o ≡ true → (v : Value) × (value_after m h c o ≡ Some v) × (is_held (slice_get m.coarrays c) v ≡ true)
  holds_here c is (negsuc o) q = absurd (both_ways (is_offset (size_after m h c) (negsuc o)) (no_negative (size_after m h c) o) q)
  holds_here c is (pos o) q =
      let d = kind_there (slice_get m.coarrays c) is in
      let first = all_get has_first_values m.coarrays c d.0 full d.2 in
      let v = has_value m c d.0 d.2 o first (ap is_values d.3) h q in
      let typed = value_typed m c d.0 d.2 d.1 d.3 o first h served q v.0 v.1 in
      (v.0, v.1, subst (λ z. is_held z v.0 ≡ true) (sym d.2) (subst (λ z. is_of_content z v.0 ≡ true) (sym d.3) typed))

  -- as many values as cells, all of them such that the coarray can hold them
  all_held : (c : ℕ) → holds is_values (slice_get m.coarrays c) ≡ true → (os : List ℤ) → list_all (is_offset (size_after m h c)) os ≡ true
      → (length (values_after m h c os) ≡ length os) × (list_all (is_held (slice_get m.coarrays c)) (values_after m h c os) ≡ true)
  all_held c is [] q = (refl, refl)
  all_held c is (o ∷ os) q =
      let p = and_parts (is_offset (size_after m h c) o) (list_all (is_offset (size_after m h c)) os) q in
      let v = holds_here c is o p.0 in
      let rest = all_held c is os p.1 in
      subst (λ z. (length (with_value z (values_after m h c os)) ≡ suc (length os)) × (list_all (is_held (slice_get m.coarrays c)) (with_value z (values_after m h c os)) ≡ true)) (sym v.1)
      (ap suc rest.0, ap (λ z. z && list_all (is_held (slice_get m.coarrays c)) (values_after m h c os)) v.2 ∙ rest.1)

  read_values : (span : Span) → holds is_values (slice_get m.coarrays span.coarray) ≡ true → is_within m h span ≡ true
      → (nat_eq (length (values_after m h span.coarray (offsets_of span))) (length (offsets_of span)) && list_all (is_held (slice_get m.coarrays span.coarray)) (values_after m h span.coarray (offsets_of span))) ≡ true
  read_values span is there =
      let p = all_held span.coarray is (offsets_of span) there in
      ap (λ z. z && list_all (is_held (slice_get m.coarrays span.coarray)) (values_after m h span.coarray (offsets_of span))) (eq-eqb (length (values_after m h span.coarray (offsets_of span))) (length (offsets_of span)) p.0) ∙ p.1

  old_held : (span : Span) → holds is_values (slice_get m.coarrays span.coarray) ≡ true → is_one_cell span ≡ true → is_within m h span ≡ true → (now : Value) → value_after m h span.coarray (pos span.start) ≡ Some now → is_held (slice_get m.coarrays span.coarray) now ≡ true
  old_held span is one there now value =
      let v = holds_here span.coarray is (pos span.start) (first_there span.dims (and_parts (nat_eq (length span.dims) 0) (nat_lt span.start 65536) one).0 there) in
      let same : v.0 ≡ now = some_same v.0 now (sym v.1 ∙ value) in
      subst (λ z. is_held (slice_get m.coarrays span.coarray) z ≡ true) same v.2
    where
      some_same : (a b : Value) → Some a ≡ Some b → a ≡ b
      some_same a b e = cc

      first_there : (ds : List (ℕ × ℤ)) → nat_eq (length ds) 0 ≡ true → list_all (is_offset (size_after m h span.coarray)) (offsets_from (pos span.start) ds) ≡ true → is_offset (size_after m h span.coarray) (pos span.start) ≡ true
      first_there [] e q = (and_parts (is_offset (size_after m h span.coarray) (pos span.start)) true q).0
      first_there (d ∷ ds) e q = let w = eqb-true (length (d ∷ ds)) 0 e in absurd (omega arith)

  -- The reply that is due answers the ask.
  pub memory_answers : (n : ℕ) (es : List (Said Ask Reply)) (i : ℕ) (a : Ask) → memory_ready m h i a ≡ true → answers m.coarrays n es a (memory_reply m h i a) ≡ true
  memory_answers n es i (asks.Read owner span) ready =
      let fits = (and_parts (fits_memory m h i (asks.Read owner span)) (can_come h (cells_there m h (asks.Read owner span)) i (asks.Read owner span)) ready).0 in
      let is = (and_parts (is_here m owner && is_span span) (holds is_values (slice_get m.coarrays span.coarray)) fits).1 in
      pick (answers m.coarrays n es (asks.Read owner span)) (is_marked h) (is_within m h span) replies.Dead (replies.Values (values_after m h span.coarray (offsets_of span))) refl (λ t. read_values span is t) refl
  memory_answers n es i (asks.Write owner span vs) ready = pick (answers m.coarrays n es (asks.Write owner span vs)) (is_marked h) (is_within m h span) replies.Dead replies.Done refl (λ t. refl) refl
  memory_answers n es i (asks.Create owner c cells) ready = alike (answers m.coarrays n es (asks.Create owner c cells)) (is_marked h) replies.Done refl
  memory_answers n es i (asks.Delete owner c) ready = alike (answers m.coarrays n es (asks.Delete owner c)) (is_marked h) replies.Done refl
  memory_answers n es i (asks.Atomic owner op span x y) ready =
      let fits = (and_parts (fits_memory m h i (asks.Atomic owner op span x y)) (can_come h (cells_there m h (asks.Atomic owner op span x y)) i (asks.Atomic owner op span x y)) ready).0 in
      let cell = and_parts (is_one_cell span) (holds (suits_atomic op x y) (slice_get m.coarrays span.coarray)) (and_parts (is_here m owner) (is_cell_of m (suits_atomic op x y) span) fits).1 in
      let is = suits_is op x y (slice_get m.coarrays span.coarray) cell.1 in
      pick (answers m.coarrays n es (asks.Atomic owner op span x y)) (is_marked h) (is_within m h span) replies.Dead (atomic_reply op x y (value_after m h span.coarray (pos span.start))) refl
      (λ t. found (answers m.coarrays n es (asks.Atomic owner op span x y)) op x y (value_after m h span.coarray (pos span.start)) (λ now value. old_held span is cell.0 t now value) refl refl) refl
  memory_answers n es i (asks.Lock owner span) ready =
      pick (answers m.coarrays n es (asks.Lock owner span)) (is_marked h) (is_within m h span) (replies.Number (pos 6001)) (replies.Number (lock_status (lock_after span.coarray span.start h) i)) refl (λ t. lock_is (lock_after span.coarray span.start h) i) refl
  memory_answers n es i (asks.TryLock owner span) ready =
      pick (answers m.coarrays n es (asks.TryLock owner span)) (is_marked h) (is_within m h span) (replies.Number (pos 6001)) (cond (is_others (lock_after span.coarray span.start h) i) replies.Busy (replies.Number (lock_status (lock_after span.coarray span.start h) i))) refl
      (λ t. tried (answers m.coarrays n es (asks.TryLock owner span)) (is_others (lock_after span.coarray span.start h) i) (replies.Number (lock_status (lock_after span.coarray span.start h) i)) refl (lock_is (lock_after span.coarray span.start h) i)) refl
  memory_answers n es i (asks.Unlock owner span) ready =
      pick (answers m.coarrays n es (asks.Unlock owner span)) (is_marked h) (is_within m h span) (replies.Number (pos 6001)) (replies.Number (unlock_status (lock_after span.coarray span.start h) i)) refl (λ t. unlock_is (lock_after span.coarray span.start h) i) refl
  memory_answers n es i (asks.Post owner span) ready = pick (answers m.coarrays n es (asks.Post owner span)) (is_marked h) (is_within m h span) (replies.Number (pos 6001)) (replies.Number (pos 0)) refl (λ t. refl) refl
  memory_answers n es i (asks.Wait owner span threshold) ready = alike (answers m.coarrays n es (asks.Wait owner span threshold)) (is_marked h) (replies.Number (pos 0)) refl
  memory_answers n es i (asks.Query owner span) ready = alike (answers m.coarrays n es (asks.Query owner span)) (is_marked h) (replies.Count (event_after span.coarray span.start h)) refl
  memory_answers n es i (asks.Mark owner) ready = alike (answers m.coarrays n es (asks.Mark owner)) (is_marked h) replies.Done refl
  memory_answers n es i (asks.Free owner span) ready = pick (answers m.coarrays n es (asks.Free owner span)) (is_marked h) (is_within m h span) replies.Dead replies.Done refl (λ t. refl) refl
  memory_answers n es i a ready = absurd (cc)
