-- What the stores tell is what the history says: the reply to an ask.
use Rattle.std.proofs.Common.{◌≡◌, ℕ, zero, suc, ◌<◌, ◌≤◌, Bool, true, false, ◌&&◌, nat_eq, nat_lt, cond, inl, inr, ◌⊎◌, List, [], ◌∷◌, length, refl, ap, sym, ◌∙◌, arith}
use Rattle.std.specs.Prelude.{pos, negsuc, ℤ, Option, Some, None, slice_get, slice_index_or}
use Rattle.std.specs.List.{list_all, AllByRecursion}
use Rattle.std.proofs.lemmas.Bool.{cases_lt, eqb-true, lt-ltb, le-ltb}
use Rattle.caf_base.specs.declared.value.Value.{Value}
use Rattle.caf_base.specs.declared.value.Value.TheVariants as v
use Rattle.caf_base.specs.declared.span.Span.{Span}
use Rattle.caf_base.specs.declared.value.AtomicOp.{AtomicOp}
use Rattle.caf_base.specs.Spans.{offsets_of, offsets_from}
use Rattle.caf_events.specs.Memories.{with_value}
use Rattle.caf_events.specs.declared.ask.Ask.{Ask}
use Rattle.caf_events.specs.declared.ask.Ask.TheVariants as asks
use Rattle.caf_events.specs.declared.reply.Reply.{Reply}
use Rattle.caf_events.specs.declared.reply.Reply.TheVariants as replies
use Rattle.caf_events.specs.declared.event.Entry.{Entry}
use Rattle.object_rules.specs.Constructs.{Hold}
use Rattle.object_rules.specs.Locks.{lock_after, event_after}
use Rattle.object_rules.specs.MemoryRules as rules
use Rattle.object_rules.specs.Cells as contents
use Rattle.object_rules.specs.Cells.{Content, MadeMemory, Declared, size_after, value_after, values_after, is_offset, is_within, is_marked}
use Rattle.coarray_memory.specs.Stores.{Store, absent, values, locks, events, TellsStore, signed}
use Rattle.coarray_memory.specs.Sections.{cells_in}
use Rattle.coarray_memory.specs.Memories.{size_in, value_in, lock_in, event_in, touched, reply_now, dead_of, or_reply, TellsAll, SuitsStore, lock_told, event_told, values_told, read_told, write_told, section_in}
use Rattle.coarray_memory.proofs.Cutting.{cells_are, cells_there_is, is_found}

pub and_both : (a b : Bool) → (a && b) ≡ true → (a ≡ true) × (b ≡ true)
and_both true b h = (refl, h)
and_both false b h = absurd (cc)

no_two : (k : Content) → (rules.is_values k ≡ true → rules.is_lock k ≡ true → ⊥) × (rules.is_values k ≡ true → rules.is_event k ≡ true → ⊥) × (rules.is_lock k ≡ true → rules.is_event k ≡ true → ⊥)
no_two (contents.of_kind k) = ((λ a b. absurd (cc)), (λ a b. absurd (cc)), (λ a b. absurd (cc)))
no_two contents.locks = ((λ a b. absurd (cc)), (λ a b. absurd (cc)), (λ a b. absurd (cc)))
no_two contents.events = ((λ a b. absurd (cc)), (λ a b. absurd (cc)), (λ a b. absurd (cc)))

pub one_kind : (d : Option Declared) → (rules.holds rules.is_values d ≡ true → rules.holds rules.is_lock d ≡ true → ⊥) × (rules.holds rules.is_values d ≡ true → rules.holds rules.is_event d ≡ true → ⊥) × (rules.holds rules.is_lock d ≡ true → rules.holds rules.is_event d ≡ true → ⊥)
one_kind None = ((λ a b. absurd (cc)), (λ a b. absurd (cc)), (λ a b. absurd (cc)))
one_kind (Some d) = no_two d.content

pub size_told : (m : MadeMemory) (h : List Entry) (c : ℕ) (s : Store) → TellsStore m h c s → size_after m h c ≡ size_in s
size_told m h c absent t = t
size_told m h c (values vs) t = t.0
size_told m h c (locks ls) t = t.0
size_told m h c (events es) t = t.0

one_offset : (z : ℤ) (ds : List (ℕ × ℤ)) → nat_eq (length ds) 0 ≡ true → offsets_from z ds ≡ z ∷ []
one_offset z [] h = refl
one_offset z (d ∷ ds) h = absurd (let e = eqb-true (length (d ∷ ds)) 0 h in omega arith)

and_true : (b : Bool) → (b && true) ≡ b
and_true true = refl
and_true false = refl

-- a cell that is there, or not
cell_case : {A : Type 0} (xs : List A) (o : ℕ) → ((x : A) × (slice_get xs o ≡ Some x) × (o < length xs) × (nat_lt o (length xs) ≡ true)) ⊎ ((slice_get xs o ≡ None) × (nat_lt o (length xs) ≡ false))
cell_case xs o = elim (cases_lt o (length xs)) [
  | inl l ↦ (let g = get_there xs o l in inl (g.0, g.1, l, lt-ltb o (length xs) l))
  | inr g ↦ inr (get_none xs o g, le-ltb o (length xs) g)
]
  where
    get_there : {A : Type 0} (xs : List A) (k : ℕ) → k < length xs → (x : A) × (slice_get xs k ≡ Some x)
    get_there [] k h = absurd (omega arith)
    get_there (x ∷ xs) zero h = (x, refl)
    get_there (x ∷ xs) (suc k) h = get_there xs k (omega arith)

    get_none : {A : Type 0} (xs : List A) (k : ℕ) → length xs ≤ k → slice_get xs k ≡ None
    get_none [] k h = refl
    get_none (x ∷ xs) zero h = absurd (omega arith)
    get_none (x ∷ xs) (suc k) h = get_none xs k (omega arith)

module _ (m : MadeMemory) (h : List Entry) (c : ℕ) (d : Option Declared) where
  pub lock_is : (s : Store) (o : ℕ) → SuitsStore d s → rules.holds rules.is_lock d ≡ true → TellsStore m h c s → lock_in s o ≡ cond (is_offset (size_in s) (pos o)) (Some (lock_after c o h)) None
  lock_is absent o suits is t = refl
  lock_is (values vs) o suits is t = absurd ((one_kind d).0 suits is)
  lock_is (events es) o suits is t = absurd ((one_kind d).2 is suits)
  lock_is (locks ls) o suits is t = elim (cell_case ls o) [
    | inl g ↦ rw g.3 (t.1 o g.2)
    | inr g ↦ rw g.1 g.0
  ]

  pub event_is : (s : Store) (o : ℕ) → SuitsStore d s → rules.holds rules.is_event d ≡ true → TellsStore m h c s → event_in s o ≡ cond (is_offset (size_in s) (pos o)) (Some (event_after c o h)) None
  event_is absent o suits is t = refl
  event_is (values vs) o suits is t = absurd ((one_kind d).1 suits is)
  event_is (locks ls) o suits is t = absurd ((one_kind d).2 suits is)
  event_is (events es) o suits is t = elim (cell_case es o) [
    | inl g ↦ rw g.3 (t.1 o g.2)
    | inr g ↦ rw g.1 g.0
  ]

  pub value_is : (s : Store) (o : ℕ) → SuitsStore d s → rules.holds rules.is_values d ≡ true → TellsStore m h c s → value_in s o ≡ cond (is_offset (size_in s) (pos o)) (value_after m h c (pos o)) None
  value_is absent o suits is t = refl
  value_is (locks ls) o suits is t = absurd ((one_kind d).0 is suits)
  value_is (events es) o suits is t = absurd ((one_kind d).1 is suits)
  value_is (values vs) o suits is t = elim (cell_case vs o) [
    | inl g ↦ rw g.3 (t.1 o g.2)
    | inr g ↦ rw g.1 g.0
  ]

  -- the values at offsets that are all there
  values_are : (vs : List Value) (os : List ℕ) → AllByRecursion (λ o. o < length vs) os → ((k : ℕ) → k < length vs → slice_get vs k ≡ value_after m h c (pos k)) → values_told vs os ≡ values_after m h c (signed os)
  values_are vs [] a t = refl
  values_are vs (o ∷ os) a t = with_told (slice_get vs o) (slice_index_or vs o (v.Int (pos 0))) (got vs o a.0) ∙ ap (λ x. with_value x (values_told vs os)) (t o a.0) ∙ ap (with_value (value_after m h c (pos o))) (values_are vs os a.1 t)
    where
      got : (vs : List Value) (o : ℕ) → o < length vs → slice_get vs o ≡ Some (slice_index_or vs o (v.Int (pos 0)))
      got [] o l = absurd (omega arith)
      got (w ∷ ws) zero l = refl
      got (w ∷ ws) (suc o) l = got ws o (omega arith)

      with_told : (g : Option Value) (x : Value) → g ≡ Some x → x ∷ values_told vs os ≡ with_value g (values_told vs os)
      with_told g x e = rw e refl

  pub read_is : (s : Store) (zs : List ℤ) (r : Option (List ℕ)) → cells_in (rules.or_zero (size_in s)) zs ≡ r → SuitsStore d s → rules.holds rules.is_values d ≡ true → TellsStore m h c s
      → read_told s r ≡ cond (is_found r) (replies.Values (values_after m h c zs)) replies.Absent
  read_is s zs None e suits is t = refl
  read_is (locks ls) zs (Some os) e suits is t = absurd ((one_kind d).0 is suits)
  read_is (events es) zs (Some os) e suits is t = absurd ((one_kind d).1 is suits)
  read_is (values vs) zs (Some os) e suits is t = (
      let w = cells_are (length vs) zs os e in
      ap (λ l. replies.Values l) (values_are vs os w.1 t.1 ∙ ap (values_after m h c) w.0))
  read_is absent [] (Some os) e suits is t = refl
  read_is absent (z ∷ zs) (Some os) e suits is t = absurd (let w = cells_are 0 (z ∷ zs) os e in none_below os w.0 w.1)
    where
      none_below : (os : List ℕ) → signed os ≡ z ∷ zs → AllByRecursion (λ o. o < 0) os → ⊥
      none_below [] e a = absurd (cc)
      none_below (o ∷ os) e a = absurd (let l = a.0 in omega arith)

none_zero : (zs : List ℤ) (s : Option ℕ) → list_all (is_offset s) zs ≡ list_all (is_offset (Some (rules.or_zero s))) zs
none_zero zs (Some n) = refl
none_zero [] None = refl
none_zero (z ∷ zs) None = ap (λ b. b && list_all (is_offset None) zs) (zero_offset z) ∙ ap (λ b. is_offset (Some 0) z && b) (none_zero zs None)
  where
    zero_offset : (z : ℤ) → is_offset None z ≡ is_offset (Some 0) z
    zero_offset (pos k) = sym (le-ltb k 0 (omega arith))
    zero_offset (negsuc k) = refl

pub dead_is : (a : Ask) (r : Reply) → or_reply (dead_of a) r ≡ rules.dead_reply a r
dead_is (asks.Read owner span) r = refl
dead_is (asks.Write owner span vs) r = refl
dead_is (asks.Atomic owner op span x y) r = refl
dead_is (asks.Free owner span) r = refl
dead_is (asks.Lock owner span) r = refl
dead_is (asks.TryLock owner span) r = refl
dead_is (asks.Unlock owner span) r = refl
dead_is (asks.Post owner span) r = refl
dead_is a r = refl

values_by : (op : AtomicOp) (x y : Value) (k : Content) → rules.suits_atomic op x y k ≡ true → rules.is_values k ≡ true
values_by op x y (contents.of_kind k) h = refl
values_by op x y contents.locks h = absurd (cc)
values_by op x y contents.events h = absurd (cc)

pub holds_by : (op : AtomicOp) (x y : Value) (d : Option Declared) → rules.holds (rules.suits_atomic op x y) d ≡ true → rules.holds rules.is_values d ≡ true
holds_by op x y None h = absurd (cc)
holds_by op x y (Some d) h = values_by op x y d.content h

pub suited : (vs : List Value) (d : Option Declared) → rules.holds (rules.suits_values vs) d ≡ true → rules.holds rules.is_values d ≡ true
suited vs None h = absurd (cc)
suited vs (Some d) h = of_content d.content h
  where
    of_content : (k : Content) → rules.suits_values vs k ≡ true → rules.is_values k ≡ true
    of_content (contents.of_kind k) h = refl
    of_content contents.locks h = absurd (cc)
    of_content contents.events h = absurd (cc)

lock_pull : (b : Bool) (x : Hold) (i : ℕ) (a : Ask) → lock_told (cond b (Some x) None) i a ≡ cond b (lock_told (Some x) i a) replies.Absent
lock_pull true x i a = refl
lock_pull false x i a = refl

event_pull : (b : Bool) (n : ℕ) (a : Ask) → event_told (cond b (Some n) None) a ≡ cond b (event_told (Some n) a) replies.Absent
event_pull true n a = refl
event_pull false n a = refl

atomic_pull : (b : Bool) (w : Option Value) (op : AtomicOp) (x y : Value) → rules.atomic_reply op x y (cond b w None) ≡ cond b (rules.atomic_reply op x y w) replies.Absent
atomic_pull true w op x y = refl
atomic_pull false w op x y = refl

write_found : (r : Option (List ℕ)) → write_told r ≡ cond (is_found r) replies.Done replies.Absent
write_found None = refl
write_found (Some os) = refl

module _ (m : MadeMemory) (h : List Entry) (at : ℕ → Store) (told : TellsAll m h at) (suits : (c : ℕ) → SuitsStore (slice_get m.coarrays c) (at c)) (i : ℕ) where
  pub within_one : (span : Span) → rules.is_one_cell span ≡ true → is_within m h span ≡ is_offset (size_in (at span.coarray)) (pos span.start)
  within_one span one =
      ap (list_all (is_offset (size_after m h span.coarray))) (one_offset (pos span.start) span.dims (and_both (nat_eq (length span.dims) 0) (nat_lt span.start 65536) one).0)
      ∙ and_true (is_offset (size_after m h span.coarray) (pos span.start))
      ∙ ap (λ s. is_offset s (pos span.start)) (size_told m h span.coarray (at span.coarray) (told span.coarray))

  pub lock_by : (span : Span) → rules.is_cell_of m rules.is_lock span ≡ true → lock_in (at span.coarray) span.start ≡ cond (is_within m h span) (Some (lock_after span.coarray span.start h)) None
  lock_by span cell =
      let b = and_both (rules.is_one_cell span) (rules.holds rules.is_lock (slice_get m.coarrays span.coarray)) cell in
      lock_is m h span.coarray (slice_get m.coarrays span.coarray) (at span.coarray) span.start (suits span.coarray) b.1 (told span.coarray)
      ∙ ap (λ t. cond t (Some (lock_after span.coarray span.start h)) None) (sym (within_one span b.0))

  pub event_by : (span : Span) → rules.is_cell_of m rules.is_event span ≡ true → event_in (at span.coarray) span.start ≡ cond (is_within m h span) (Some (event_after span.coarray span.start h)) None
  event_by span cell =
      let b = and_both (rules.is_one_cell span) (rules.holds rules.is_event (slice_get m.coarrays span.coarray)) cell in
      event_is m h span.coarray (slice_get m.coarrays span.coarray) (at span.coarray) span.start (suits span.coarray) b.1 (told span.coarray)
      ∙ ap (λ t. cond t (Some (event_after span.coarray span.start h)) None) (sym (within_one span b.0))

  locks_told : (span : Span) (a : Ask) → rules.is_cell_of m rules.is_lock span ≡ true → lock_told (lock_in (at span.coarray) span.start) i a ≡ cond (is_within m h span) (lock_told (Some (lock_after span.coarray span.start h)) i a) replies.Absent
  locks_told span a cell = ap (λ q. lock_told q i a) (lock_by span cell) ∙ lock_pull (is_within m h span) (lock_after span.coarray span.start h) i a

  events_told : (span : Span) (a : Ask) → rules.is_cell_of m rules.is_event span ≡ true → event_told (event_in (at span.coarray) span.start) a ≡ cond (is_within m h span) (event_told (Some (event_after span.coarray span.start h)) a) replies.Absent
  events_told span a cell = ap (λ q. event_told q a) (event_by span cell) ∙ event_pull (is_within m h span) (event_after span.coarray span.start h) a

  values_told_by : (span : Span) (op : AtomicOp) (x y : Value) → rules.is_cell_of m (rules.suits_atomic op x y) span ≡ true
      → rules.atomic_reply op x y (value_in (at span.coarray) span.start) ≡ cond (is_within m h span) (rules.atomic_reply op x y (value_after m h span.coarray (pos span.start))) replies.Absent
  values_told_by span op x y cell =
      let b = and_both (rules.is_one_cell span) (rules.holds (rules.suits_atomic op x y) (slice_get m.coarrays span.coarray)) cell in
      ap (rules.atomic_reply op x y) (value_is m h span.coarray (slice_get m.coarrays span.coarray) (at span.coarray) span.start (suits span.coarray) (holds_by op x y (slice_get m.coarrays span.coarray) b.1) (told span.coarray)
      ∙ ap (λ t. cond t (value_after m h span.coarray (pos span.start)) None) (sym (within_one span b.0)))
      ∙ atomic_pull (is_within m h span) (value_after m h span.coarray (pos span.start)) op x y

  pub found_within : (span : Span) (r : Option (List ℕ)) → r ≡ cells_in (rules.or_zero (size_in (at span.coarray))) (offsets_of span) → is_found r ≡ is_within m h span
  found_within span r e =
      ap is_found e ∙ sym (cells_there_is (rules.or_zero (size_in (at span.coarray))) (offsets_of span)) ∙ sym (none_zero (offsets_of span) (size_in (at span.coarray)))
      ∙ ap (λ s. list_all (is_offset s) (offsets_of span)) (sym (size_told m h span.coarray (at span.coarray) (told span.coarray)))

  waiting : (t : Bool) (n : ℕ) (a : Ask) → t ≡ true → cond t (event_told (Some n) a) replies.Absent ≡ event_told (Some n) a
  waiting t n a e = rw e refl

  pub touched_is : (a : Ask) (os : Option (List ℕ)) → rules.fits_memory m h i a ≡ true → os ≡ section_in at a → touched at i a os ≡ cond (rules.cells_there m h a) (rules.touch_reply m h i a) replies.Absent
  touched_is (asks.Read owner span) os fits e = (
      let b = and_both _ _ fits in
      read_is m h span.coarray (slice_get m.coarrays span.coarray) (at span.coarray) (offsets_of span) os (sym e) (suits span.coarray) b.1 (told span.coarray)
      ∙ ap (λ t. cond t (replies.Values (values_after m h span.coarray (offsets_of span))) replies.Absent) (found_within span os e))
  touched_is (asks.Write owner span vs) os fits e = write_found os ∙ ap (λ t. cond t replies.Done replies.Absent) (found_within span os e)
  touched_is (asks.Atomic owner op span x y) os fits e = (let b = and_both _ _ fits in values_told_by span op x y b.1)
  touched_is (asks.Lock owner span) os fits e = (let b = and_both _ _ fits in locks_told span (asks.Lock owner span) b.1)
  touched_is (asks.TryLock owner span) os fits e = (let b = and_both _ _ fits in locks_told span (asks.TryLock owner span) b.1)
  touched_is (asks.Unlock owner span) os fits e = (let b = and_both _ _ fits in locks_told span (asks.Unlock owner span) b.1)
  touched_is (asks.Free owner span) os fits e = (let b = and_both _ _ fits in locks_told span (asks.Free owner span) b.1)
  touched_is (asks.Post owner span) os fits e = (let b = and_both _ _ fits in events_told span (asks.Post owner span) b.1)
  touched_is (asks.Wait owner span k) os fits e = (
      let b = and_both _ _ fits in
      let d = and_both _ _ b.0 in
      let w = and_both _ _ d.0 in
      events_told span (asks.Wait owner span k) w.1 ∙ waiting (is_within m h span) (event_after span.coarray span.start h) (asks.Wait owner span k) d.1)
  touched_is (asks.Query owner span) os fits e = (
      let b = and_both _ _ fits in
      let d = and_both _ _ b.0 in
      events_told span (asks.Query owner span) d.1 ∙ waiting (is_within m h span) (event_after span.coarray span.start h) (asks.Query owner span) b.1)
  touched_is a os fits e = refl

  pub reply_is : (marked : Bool) (a : Ask) (os : Option (List ℕ)) → marked ≡ is_marked h → rules.fits_memory m h i a ≡ true → os ≡ section_in at a → reply_now marked at i a os ≡ rules.memory_reply m h i a
  reply_is marked a os marks fits e =
      ap (λ r. cond marked (or_reply (dead_of a) r) r) (touched_is a os fits e)
      ∙ ap (λ r. cond marked r (cond (rules.cells_there m h a) (rules.touch_reply m h i a) replies.Absent)) (dead_is a (cond (rules.cells_there m h a) (rules.touch_reply m h i a) replies.Absent))
      ∙ ap (λ b. cond b (rules.dead_reply a (cond (rules.cells_there m h a) (rules.touch_reply m h i a) replies.Absent)) (cond (rules.cells_there m h a) (rules.touch_reply m h i a) replies.Absent)) marks
