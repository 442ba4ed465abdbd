-- What the stores tell is what the history says: whether an ask can come.
use Rattle.std.proofs.Common.{◌≡◌, ℕ, suc, ◌+◌, ◌<◌, Bool, true, false, ◌&&◌, ◌||◌, not, nat_le, cond, List, [], ◌∷◌, length, refl, ap, sym, ◌∙◌, arith}
use Rattle.std.specs.Prelude.{Some, None, slice_get, is_some}
use Rattle.std.specs.List.{range_with_len}
use Rattle.caf_base.specs.declared.place.ImageNo.{ImageNo}
use Rattle.caf_base.specs.declared.span.Span.{Span}
use Rattle.caf_events.specs.declared.ask.Ask.{Ask}
use Rattle.caf_events.specs.declared.ask.Ask.TheVariants as asks
use Rattle.caf_events.specs.declared.event.Entry.{Entry}
use Rattle.object_rules.specs.Constructs.{Hold}
use Rattle.object_rules.specs.Locks.{lock_after, event_after, is_others}
use Rattle.object_rules.specs.MemoryRules as rules
use Rattle.object_rules.specs.Cells.{MadeMemory, size_after, is_within, is_marked}
use Rattle.coarray_memory.specs.declared.store.Store.{Store}
use Rattle.coarray_memory.specs.Memories.{size_in, store_of, stored_at, event_in, total_of, fits_now, comes_now, lock_waits, can_wait, TellsAll, SuitsStore}
use Rattle.coarray_memory.proofs.Replying.{and_both, size_told, lock_by, event_by}

and_under : (b x y : Bool) → (b ≡ true → x ≡ y) → (b && x) ≡ (b && y)
and_under true x y h = h refl
and_under false x y h = refl

not_not : (b : Bool) → not (not b) ≡ b
not_not true = refl
not_not false = refl

lock_comes : (mk w : Bool) (s : Hold) (i : ℕ) (owner : ImageNo) (span : Span) → (mk || not (lock_waits (cond w (Some s) None) i (asks.Lock owner span))) ≡ (mk || not w || not (is_others s i))
lock_comes true true s i owner span = refl
lock_comes true false s i owner span = refl
lock_comes false true s i owner span = not_not (not (is_others s i))
lock_comes false false s i owner span = refl

wait_comes : (o w l : Bool) (n k : ℕ) (owner : ImageNo) (span : Span) → (o && is_some (cond w (Some n) None) && l && can_wait (cond w (Some n) None) (asks.Wait owner span k)) ≡ (o && w && l && nat_le k n)
wait_comes o true l n k owner span = refl
wait_comes true false l n k owner span = refl
wait_comes false false l n k owner span = refl

query_comes : (o w : Bool) (n : ℕ) → (o && is_some (cond w (Some n) None) && true) ≡ (o && w && true)
query_comes o true n = refl
query_comes o false n = refl

total_from : (m : MadeMemory) (h : List Entry) (a : ℕ) (ss : List Store) → ((k : ℕ) → k < length ss → size_after m h (a + k) ≡ size_in (stored_at ss k)) → rules.cells_used m h (range_with_len a (length ss)) ≡ total_of ss
total_from m h a [] t = refl
total_from m h a (s ∷ ss) t =
    let e : a + 0 ≡ a = omega arith in
    ap (λ o. rules.or_zero o + rules.cells_used m h (range_with_len (a + 1) (length ss))) (ap (size_after m h) (sym e) ∙ t 0 (omega arith))
    ∙ ap (λ n. rules.or_zero (size_in (store_of s)) + n) (total_from m h (a + 1) ss (λ k l. (let f : a + 1 + k ≡ a + suc k = omega arith in ap (size_after m h) f ∙ t (suc k) (omega arith))))

pub total_is : (m : MadeMemory) (h : List Entry) (ss : List Store) → length ss ≡ length m.coarrays → TellsAll m h (stored_at ss) → total_of ss ≡ rules.all_cells m h
total_is m h ss n told = sym (ap (λ k. rules.cells_used m h (range_with_len 0 k)) (sym n) ∙ total_from m h 0 ss (λ k l. (let e : 0 + k ≡ k = omega arith in ap (size_after m h) e ∙ size_told m h k (stored_at ss k) (told k))))

module _ (m : MadeMemory) (h : List Entry) (ss : List Store) (told : TellsAll m h (stored_at ss)) (suits : (c : ℕ) → SuitsStore (slice_get m.coarrays c) (stored_at ss c)) (n : length ss ≡ length m.coarrays) (i : ℕ) (marked : Bool) (marks : marked ≡ is_marked h) where
  size_here : (c : ℕ) → size_in (stored_at ss c) ≡ size_after m h c
  size_here c = sym (size_told m h c (stored_at ss c) (told c))

  -- a cell that is one of the coarray's, or the ask doesn't fit
  under_cell : (own cell : Bool) (x y : Bool → Bool) → (cell ≡ true → (b : Bool) → x b ≡ y b) → ((b : Bool) → b ≡ false → x b ≡ y b) → x (own && cell) ≡ y (own && cell)
  under_cell own true x y t f = t refl (own && true)
  under_cell true false x y t f = f (true && false) refl
  under_cell false false x y t f = f (false && false) refl

  pub ready_is : (a : Ask) → (fits_now m (stored_at ss) ss i a && comes_now (stored_at ss) marked i a) ≡ rules.memory_ready m h i a
  ready_is (asks.Create owner coarray cells) =
      ap (λ s. rules.is_own m i owner && rules.is_allocatable (slice_get m.coarrays coarray) && not (is_some s) && nat_le (total_of ss + cells) 65536 && true) (size_here coarray)
      ∙ ap (λ t. rules.is_own m i owner && rules.is_allocatable (slice_get m.coarrays coarray) && not (is_some (size_after m h coarray)) && nat_le (t + cells) 65536 && true) (total_is m h ss n told)
  ready_is (asks.Delete owner coarray) = ap (λ s. rules.is_own m i owner && rules.is_allocatable (slice_get m.coarrays coarray) && is_some s && true) (size_here coarray)
  ready_is (asks.Lock owner span) =
      and_under (rules.is_here m owner && rules.is_cell_of m rules.is_lock span) _ _ (λ f. (
      let b = and_both (rules.is_here m owner) (rules.is_cell_of m rules.is_lock span) f in
      ap (λ q. marked || not (lock_waits q i (asks.Lock owner span))) (lock_by m h (stored_at ss) told suits i span b.1)
      ∙ lock_comes marked (is_within m h span) (lock_after span.coarray span.start h) i owner span
      ∙ ap (λ mk. mk || not (is_within m h span) || not (is_others (lock_after span.coarray span.start h) i)) marks))
  ready_is (asks.Wait owner span k) =
      under_cell (rules.is_own m i owner) (rules.is_cell_of m rules.is_event span)
      (λ o. o && is_some (event_in (stored_at ss span.coarray) span.start) && nat_le 1 k && can_wait (event_in (stored_at ss span.coarray) span.start) (asks.Wait owner span k))
      (λ o. o && is_within m h span && nat_le 1 k && nat_le k (event_after span.coarray span.start h))
      (λ cell o. (
      ap (λ q. o && is_some q && nat_le 1 k && can_wait q (asks.Wait owner span k)) (event_by m h (stored_at ss) told suits i span cell)
      ∙ wait_comes o (is_within m h span) (nat_le 1 k) (event_after span.coarray span.start h) k owner span))
      (λ b e. rw e refl)
  ready_is (asks.Query owner span) =
      under_cell (rules.is_own m i owner) (rules.is_cell_of m rules.is_event span)
      (λ o. o && is_some (event_in (stored_at ss span.coarray) span.start) && true)
      (λ o. o && is_within m h span && true)
      (λ cell o. ap (λ q. o && is_some q && true) (event_by m h (stored_at ss) told suits i span cell) ∙ query_comes o (is_within m h span) (event_after span.coarray span.start h))
      (λ b e. rw e refl)
  ready_is a = refl
