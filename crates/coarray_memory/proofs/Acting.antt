-- A memory is kept by a step that can come.
use Rattle.std.proofs.Common.{◌≡◌, ℕ, zero, suc, ◌+◌, ◌-◌, ◌^◌, ◌<◌, ◌≤◌, Bool, true, false, ◌&&◌, ◌||◌, nat_eq, cond, List, [], ◌∷◌, ◌++◌, length, refl, ap, sym, ◌∙◌, subst, arith, length-append}
use Rattle.std.specs.Prelude.{Option, Some, None, slice_get}
use Rattle.std.specs.List.{AllByRecursion}
use Rattle.std.proofs.lemmas.Bool.{eqb-true}
use Rattle.std.proofs.lemmas.List.Elements.{All-from_recursion}
use Rattle.caf_base.specs.declared.place.ImageNo.{ImageNo}
use Rattle.caf_base.specs.declared.span.Span.{Span}
use Rattle.caf_base.specs.declared.value.Value.{Value}
use Rattle.caf_base.specs.declared.value.AtomicOp.{AtomicOp}
use Rattle.caf_base.specs.Spans.{offsets_of}
use Rattle.caf_events.specs.Histories.{last_stamp_of, last_stamp_from}
use Rattle.caf_events.specs.declared.ask.Ask.{Ask}
use Rattle.caf_events.specs.declared.ask.Ask.TheVariants as asks
use Rattle.caf_events.specs.declared.reply.Reply.{Reply}
use Rattle.caf_events.specs.declared.event.Entry.{Entry}
use Rattle.caf_events.specs.declared.event.Event.{Event}
use Rattle.caf_events.specs.declared.exchange.Whole.{Whole}
use Rattle.object_rules.specs.Locks.{event_after, event_from, event_turn}
use Rattle.object_rules.specs.MemoryRules as rules
use Rattle.object_rules.specs.Cells as contents
use Rattle.object_rules.specs.Cells.{Content, MadeMemory, Declared, size_after, is_within, is_mark, is_marked}
use Rattle.object_rules.proofs.MemoryGrowing.{marked_more}
use Rattle.event_lock.specs.LockCells.{event_ready}
use Rattle.coarray_memory.specs.Stores as plain
use Rattle.coarray_memory.specs.Stores.{TellsStore, fresh_store, signed}
use Rattle.coarray_memory.specs.Sections.{cells_in}
use Rattle.coarray_memory.specs.declared.store.Store.{Store}
use Rattle.coarray_memory.specs.Memories.{Plan, stored_at, lock_done, event_done, value_done, written_where, done_at, reply_now, section_in, section_by, fresh_made, fresh_at, IsMemory, SuitsStore, CanAct, FitsWhere, event_in, event_few, TellsAll}
use Rattle.coarray_memory.proofs.Cutting.{cells_are}
use Rattle.coarray_memory.proofs.Replying.{and_both, size_told, event_by, reply_is}
use Rattle.coarray_memory.proofs.Doing.{Needs, done_tells}

pub section_same : (m : MadeMemory) (h : List Entry) (at : ℕ → plain.Store) → TellsAll m h at → (a : Ask) → section_in at a ≡ section_by m h a
section_same m h at told (asks.Read owner span) = ap (λ s. cells_in (rules.or_zero s) (offsets_of span)) (sym (size_told m h span.coarray (at span.coarray) (told span.coarray)))
section_same m h at told (asks.Write owner span vs) = ap (λ s. cells_in (rules.or_zero s) (offsets_of span)) (sym (size_told m h span.coarray (at span.coarray) (told span.coarray)))
section_same m h at told a = refl

-- the coarray is declared
below : (ds : List Declared) (c : ℕ) (d : Declared) → slice_get ds c ≡ Some d → c < length ds
below [] c d h = absurd (cc)
below (x ∷ xs) zero d h = omega arith
below (x ∷ xs) (suc c) d h = let r = below xs c d h in omega arith

holds_some : (test : Content → Bool) (o : Option Declared) → rules.holds test o ≡ true → (d : Declared) × (o ≡ Some d)
holds_some test None h = absurd (cc)
holds_some test (Some d) h = (d, refl)

holds_below : (ds : List Declared) (c : ℕ) (test : Content → Bool) → rules.holds test (slice_get ds c) ≡ true → c < length ds
holds_below ds c test h = let d = holds_some test (slice_get ds c) h in below ds c d.0 d.1

alloc_some : (o : Option Declared) → rules.is_allocatable o ≡ true → (d : Declared) × (o ≡ Some d)
alloc_some None h = absurd (cc)
alloc_some (Some d) h = (d, refl)

event_few_from : (c o n : ℕ) (h : List Entry) → event_from c o n h ≤ n + length h
event_few_from c o n [] = omega arith
event_few_from c o n (e ∷ es) =
    let a = event_few_from c o (event_turn c o n e.event.ask e.event.reply) es in
    let b = turn_few c o n e.event.ask e.event.reply in
    omega arith
  where
    pick_few : (b : Bool) (x y n : ℕ) → x ≤ n + 1 → y ≤ n + 1 → cond b x y ≤ n + 1
    pick_few true x y n p q = p
    pick_few false x y n p q = q

    turn_few : (c o n : ℕ) (a : Ask) (r : Reply) → event_turn c o n a r ≤ n + 1
    turn_few c o n (asks.Post owner span) r = pick_few _ (n + 1) n n (omega arith) (omega arith)
    turn_few c o n (asks.Wait owner span k) r = pick_few _ (n - k) n n (omega arith) (omega arith)
    turn_few c o n (asks.Create owner k cells) r = pick_few _ 0 n n (omega arith) (omega arith)
    turn_few c o n (asks.Delete owner k) r = pick_few _ 0 n n (omega arith) (omega arith)
    turn_few c o n a r = omega arith

-- a changed store is one of the same kind
suits_lock : (d : Option Declared) (s : plain.Store) (o i : ℕ) (a : Ask) (mk : Bool) → SuitsStore d s → SuitsStore d (lock_done s o i a mk)
suits_lock d plain.absent o i a mk h = h
suits_lock d (plain.values vs) o i a mk h = h
suits_lock d (plain.locks ls) o i a mk h = h
suits_lock d (plain.events es) o i a mk h = h

suits_event : (d : Option Declared) (s : plain.Store) (o : ℕ) (a : Ask) (mk : Bool) → SuitsStore d s → SuitsStore d (event_done s o a mk)
suits_event d plain.absent o a mk h = h
suits_event d (plain.values vs) o a mk h = h
suits_event d (plain.locks ls) o a mk h = h
suits_event d (plain.events es) o a mk h = h

suits_value : (d : Option Declared) (s : plain.Store) (o : ℕ) (op : AtomicOp) (x y : Value) → SuitsStore d s → SuitsStore d (value_done s o op x y)
suits_value d plain.absent o op x y h = h
suits_value d (plain.values vs) o op x y h = h
suits_value d (plain.locks ls) o op x y h = h
suits_value d (plain.events es) o op x y h = h

suits_written : (d : Option Declared) (s : plain.Store) (os : Option (List ℕ)) (vs : List Value) → SuitsStore d s → SuitsStore d (written_where s os vs)
suits_written d s None vs h = h
suits_written d plain.absent (Some os) vs h = h
suits_written d (plain.values ws) (Some os) vs h = h
suits_written d (plain.locks ls) (Some os) vs h = h
suits_written d (plain.events es) (Some os) vs h = h

suits_picked : (d : Option Declared) (b : Bool) (s t : plain.Store) → (b ≡ true → SuitsStore d s) → SuitsStore d t → SuitsStore d (cond b s t)
suits_picked d true s t h g = h refl
suits_picked d false s t h g = g

suits_fresh : (d : Option Declared) (cells : ℕ) → SuitsStore d (fresh_at d cells)
suits_fresh None cells = tt
suits_fresh (Some d) cells = of_content d.content refl
  where
    of_content : (k : Content) → d.content ≡ k → SuitsStore (Some d) (fresh_store k cells)
    of_content (contents.of_kind k) e = ap rules.is_values e
    of_content contents.locks e = ap rules.is_lock e
    of_content contents.events e = ap rules.is_event e

module _ (m : MadeMemory) (i : ℕ) (marked : Bool) (p : Plan) (c : ℕ) (s : plain.Store) (h : SuitsStore (slice_get m.coarrays c) s) where
  done_suits : (a : Ask) → p.fresh ≡ fresh_made m a → SuitsStore (slice_get m.coarrays c) (done_at marked i a p c s)
  done_suits (asks.Write owner span vs) f = suits_picked _ (nat_eq span.coarray c) _ s (λ t. suits_picked _ marked s _ (λ q. h) (suits_written _ s p.cells vs h)) h
  done_suits (asks.Create owner k cells) f = suits_picked _ (nat_eq k c) p.fresh s (λ t. subst (λ x. SuitsStore (slice_get m.coarrays c) x) (sym f) (subst (λ j. SuitsStore (slice_get m.coarrays j) (fresh_at (slice_get m.coarrays k) cells)) (eqb-true k c t) (suits_fresh (slice_get m.coarrays k) cells))) h
  done_suits (asks.Delete owner k) f = suits_picked _ (nat_eq k c) plain.absent s (λ t. tt) h
  done_suits (asks.Atomic owner op span x y) f = suits_picked _ (nat_eq span.coarray c) _ s (λ t. suits_picked _ marked s _ (λ q. h) (suits_value _ s span.start op x y h)) h
  done_suits (asks.Lock owner span) f = suits_picked _ (nat_eq span.coarray c) _ s (λ t. suits_lock _ s span.start i (asks.Lock owner span) marked h) h
  done_suits (asks.TryLock owner span) f = suits_picked _ (nat_eq span.coarray c) _ s (λ t. suits_lock _ s span.start i (asks.TryLock owner span) marked h) h
  done_suits (asks.Unlock owner span) f = suits_picked _ (nat_eq span.coarray c) _ s (λ t. suits_lock _ s span.start i (asks.Unlock owner span) marked h) h
  done_suits (asks.Free owner span) f = suits_picked _ (nat_eq span.coarray c) _ s (λ t. suits_lock _ s span.start i (asks.Free owner span) marked h) h
  done_suits (asks.Post owner span) f = suits_picked _ (nat_eq span.coarray c) _ s (λ t. suits_event _ s span.start (asks.Post owner span) marked h) h
  done_suits (asks.Wait owner span k) f = suits_picked _ (nat_eq span.coarray c) _ s (λ t. suits_event _ s span.start (asks.Wait owner span k) marked h) h
  done_suits a f = h

last_more : (n : ℕ) (h : List Entry) (e : Entry) → last_stamp_from n (h ++ e ∷ []) ≡ e.event.stamp
last_more n [] e = refl
last_more n (x ∷ xs) e = last_more x.event.stamp xs e

signed_length : (os : List ℕ) → length (signed os) ≡ length os
signed_length [] = refl
signed_length (o ∷ os) = ap suc (signed_length os)

-- the cells of a section that is written
written_needs : (m : MadeMemory) (h : List Entry) (i : ℕ) (owner : ImageNo) (span : Span) (vs : List Value) → rules.fits_memory m h i (asks.Write owner span vs) ≡ true
    → (os : List ℕ) → cells_in (rules.or_zero (size_after m h span.coarray)) (offsets_of span) ≡ Some os
    → (signed os ≡ offsets_of span) × ((n : ℕ) → size_after m h span.coarray ≡ Some n → AllByRecursion (λ k. k < n) os) × (length vs ≡ length os)
written_needs m h i owner span vs fits os found =
    let w = cells_are (rules.or_zero (size_after m h span.coarray)) (offsets_of span) os found in
    let b = and_both _ _ fits in
    let d = and_both _ _ b.0 in
    (w.0, (λ n e. subst (λ o. AllByRecursion (λ k. k < rules.or_zero o) os) e w.1), eqb-true (length vs) (length (offsets_of span)) d.1 ∙ ap length (sym w.0) ∙ signed_length os)

needs_of : (m : MadeMemory) (h : List Entry) (at : ℕ → plain.Store) (told : TellsAll m h at) (i : ImageNo) (stamp line : ℕ) (marked : Bool) (p : Plan) (a : Ask)
    → rules.fits_memory m h i.0 a ≡ true → p.cells ≡ section_by m h a → p.fresh ≡ fresh_made m a → Needs m h at told i stamp line marked p a
needs_of m h at told i stamp line marked p (asks.Write owner span vs) fits cells fresh = λ os e. written_needs m h i.0 owner span vs fits os (sym cells ∙ e)
needs_of m h at told i stamp line marked p (asks.Create owner k n) fits cells fresh =
    let b = and_both _ _ fits in
    let d = and_both _ _ b.0 in
    let f = and_both _ _ d.0 in
    let g = alloc_some (slice_get m.coarrays k) f.1 in
    (g.0, g.1, fresh ∙ ap (λ o. fresh_at o n) g.1)
needs_of m h at told i stamp line marked p a fits cells fresh = tt

fits_where : (m : MadeMemory) (h : List Entry) (c : ℕ) (s : plain.Store) (o : Option (List ℕ)) (vs : List Value) → TellsStore m h c s
    → ((os : List ℕ) → o ≡ Some os → ((n : ℕ) → size_after m h c ≡ Some n → AllByRecursion (λ k. k < n) os) × (length vs ≡ length os)) → FitsWhere s o vs
fits_where m h c s None vs t f = tt
fits_where m h c plain.absent (Some os) vs t f = tt
fits_where m h c (plain.locks ls) (Some os) vs t f = tt
fits_where m h c (plain.events es) (Some os) vs t f = tt
fits_where m h c (plain.values ws) (Some os) vs t f = let g = f os refl in (All-from_recursion (λ k. k < length ws) os (g.0 (length ws) t.0), g.1)

few_when : (w : Bool) (n : ℕ) (a : Ask) → (event_ready n a ≡ true) × (n < 2 ^ 62) → event_few (cond w (Some n) None) a
few_when true n a h = h
few_when false n a h = tt

module _ (m : MadeMemory) (h : List Entry) (ss : List Store) (told : TellsAll m h (stored_at ss)) (suits : (c : ℕ) → SuitsStore (slice_get m.coarrays c) (stored_at ss c)) (as_many : length ss ≡ length m.coarrays)
    (i : ImageNo) (marked : Bool) (p : Plan) (few : length h < 2 ^ 62) where
  in_stores : (c : ℕ) (test : Content → Bool) → rules.holds test (slice_get m.coarrays c) ≡ true → c < length ss
  in_stores c test g = let l = holds_below m.coarrays c test g in omega (arith, as_many)

  cell_stores : (span : Span) (test : Content → Bool) (own : Bool) → (own && rules.is_cell_of m test span) ≡ true → span.coarray < length ss
  cell_stores span test own g = let b = and_both own (rules.is_cell_of m test span) g in let d = and_both (rules.is_one_cell span) (rules.holds test (slice_get m.coarrays span.coarray)) b.1 in in_stores span.coarray test d.1

  alloc_stores : (c : ℕ) → rules.is_allocatable (slice_get m.coarrays c) ≡ true → c < length ss
  alloc_stores c g = let d = alloc_some (slice_get m.coarrays c) g in let l = below m.coarrays c d.0 d.1 in omega (arith, as_many)

  few_at : (span : Span) (a : Ask) → rules.is_cell_of m rules.is_event span ≡ true → event_ready (event_after span.coarray span.start h) a ≡ true → event_few (event_in (stored_at ss span.coarray) span.start) a
  few_at span a cell r = subst (λ o. event_few o a) (sym (event_by m h (stored_at ss) told suits i.0 span cell))
      (few_when (is_within m h span) (event_after span.coarray span.start h) a (r, (let n = event_few_from span.coarray span.start 0 h in omega (arith, few))))

  acts : (a : Ask) → rules.memory_ready m h i.0 a ≡ true → p.cells ≡ section_by m h a → CanAct (stored_at ss) (length ss) a marked p
  acts (asks.Create owner k n) ready cells = (
      let f = (and_both _ _ ready).0 in
      let b = and_both _ _ f in
      let d = and_both _ _ b.0 in
      alloc_stores k (and_both _ _ d.0).1)
  acts (asks.Delete owner k) ready cells = (
      let f = (and_both _ _ ready).0 in
      let b = and_both _ _ f in
      alloc_stores k (and_both _ _ b.0).1)
  acts (asks.Write owner span vs) ready cells = (
      let f = (and_both _ _ ready).0 in
      let b = and_both _ _ f in (
        in_stores span.coarray (rules.suits_values vs) b.1,
        fits_where m h span.coarray (stored_at ss span.coarray) p.cells vs (told span.coarray) (λ os e. (let w = written_needs m h i.0 owner span vs f os (sym cells ∙ e) in (w.1, w.2))),
      ))
  acts (asks.Atomic owner op span x y) ready cells = cell_stores span (rules.suits_atomic op x y) (rules.is_here m owner) (and_both _ _ ready).0
  acts (asks.Lock owner span) ready cells = cell_stores span rules.is_lock (rules.is_here m owner) (and_both _ _ ready).0
  acts (asks.TryLock owner span) ready cells = cell_stores span rules.is_lock (rules.is_here m owner) (and_both _ _ ready).0
  acts (asks.Unlock owner span) ready cells = cell_stores span rules.is_lock (rules.is_here m owner) (and_both _ _ ready).0
  acts (asks.Free owner span) ready cells = cell_stores span rules.is_lock (rules.is_here m owner) (and_both _ _ ready).0
  acts (asks.Post owner span) ready cells = (
      let f = (and_both _ _ ready).0 in
      let b = and_both (rules.is_here m owner) (rules.is_cell_of m rules.is_event span) f in
      (cell_stores span rules.is_event (rules.is_here m owner) f, few_at span (asks.Post owner span) b.1 refl))
  acts (asks.Wait owner span k) ready cells = (
      let r = and_both _ _ ready in
      let b = and_both _ _ r.0 in
      let d = and_both _ _ b.0 in
      let g = and_both (rules.is_own m i.0 owner) (rules.is_cell_of m rules.is_event span) d.0 in
      (cell_stores span rules.is_event (rules.is_own m i.0 owner) d.0, few_at span (asks.Wait owner span k) g.1 r.1))
  acts a ready cells = tt

-- the exchange that is due, and its event
abbrev pub due_at : MadeMemory → List Entry → ℕ → Ask → Whole
due_at m h i a = record { ask = a; reply = rules.memory_reply m h i a }

abbrev pub event_of : Whole → ℕ → ℕ → Event
event_of w stamp line = record { ask = w.ask; reply = w.reply; stamp = stamp; line = line }

module _ (m : MadeMemory) (h : List Entry) (ss : List Store) (marked : Bool) (mem : IsMemory m h ss marked) (i : ImageNo) (a : Ask) (p : Plan)
    (ready : rules.memory_ready m h i.0 a ≡ true) (cells : p.cells ≡ section_by m h a) (fresh : p.fresh ≡ fresh_made m a) where
  fits : rules.fits_memory m h i.0 a ≡ true
  fits = (and_both _ _ ready).0

  needs : (stamp line : ℕ) → Needs m h (stored_at ss) mem.tells i stamp line marked p a
  needs stamp line = needs_of m h (stored_at ss) mem.tells i stamp line marked p a fits cells fresh

  pub can_act : length h < 2 ^ 62 → CanAct (stored_at ss) (length ss) a marked p
  can_act few = acts m h ss mem.tells mem.suits mem.as_many i marked p few a ready cells

  pub memory_kept : (new : List Store) → length new ≡ length ss → ((c : ℕ) → stored_at new c ≡ done_at marked i.0 a p c (stored_at ss c)) → (now : Bool) → now ≡ (marked || is_mark a)
      → (reply : Reply) → reply ≡ rules.memory_reply m h i.0 a → (stamp line : ℕ) → last_stamp_of h + 1 ≤ stamp
      → IsMemory m (h ++ record { image = i; event = record { ask = a; reply = reply; stamp = stamp; line = line } } ∷ []) new now
  memory_kept new len done now marks reply is stamp line late =
      let due = reply_is m h (stored_at ss) mem.tells mem.suits i.0 marked a p.cells mem.marks fits (cells ∙ sym (section_same m h (stored_at ss) mem.tells a)) ∙ sym is in
      let steps = mem.steps in
      record {
        tells = λ c. subst (λ r. TellsStore m (h ++ record { image = i; event = record { ask = a; reply = r; stamp = stamp; line = line } } ∷ []) c (stored_at new c)) due
            (subst (λ s. TellsStore m (h ++ record { image = i; event = record { ask = a; reply = reply_now marked (stored_at ss) i.0 a p.cells; stamp = stamp; line = line } } ∷ []) c s) (sym (done c))
            (done_tells m h (stored_at ss) mem.tells i stamp line marked p a (needs stamp line) c));
        suits = λ c. subst (λ s. SuitsStore (slice_get m.coarrays c) s) (sym (done c)) (done_suits m i.0 marked p c (stored_at ss c) (mem.suits c) a fresh);
        as_many = len ∙ mem.as_many;
        marks = marks ∙ ap (λ b. b || is_mark a) mem.marks ∙ sym (marked_more h (record { image = i; event = record { ask = a; reply = reply; stamp = stamp; line = line } }));
        steps = (let l = length-append h (record { image = i; event = record { ask = a; reply = reply; stamp = stamp; line = line } } ∷ []) in let e = last_more 0 h (record { image = i; event = record { ask = a; reply = reply; stamp = stamp; line = line } }) in omega arith);
      }
