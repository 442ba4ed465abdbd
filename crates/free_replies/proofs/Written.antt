-- What a definition leaves at a cell is told by its ask.
use Rattle.std.proofs.Common.{◌≡◌, ◌<◌, ℕ, zero, suc, ◌+◌, Bool, true, false, ◌&&◌, IsTrue, nat_eq, cond, List, [], ◌∷◌, ◌++◌, length, inl, inr, refl, ap, sym, ◌∙◌, subst, arith}
use Rattle.std.specs.Prelude.{ℤ, pos, nat_lt, map, Option, Some, None, slice_get}
use Rattle.std.specs.List.{list_all, range_with_len}
use Rattle.std.specs.Ordering.{int_eq}
use Rattle.std.proofs.lemmas.Bool.{and_parts, eqb-true, eq-eqb, lt-ltb}
use Rattle.std.proofs.lemmas.Bool.Decides.{Decides-int_eq}
use Rattle.trace_theory.specs.Entries.{Each}
use Rattle.caf_base.specs.declared.place.ImageNo.{ImageNo}
use Rattle.caf_base.specs.declared.span.Span.{Span}
use Rattle.caf_base.specs.declared.value.Value.{Value}
use Rattle.caf_base.specs.Spans.{offsets_of}
use Rattle.caf_events.specs.declared.ask.Ask.{Ask}
use Rattle.caf_events.specs.declared.ask.Ask.TheVariants as asks
use Rattle.caf_events.specs.declared.reply.Reply.{Reply}
use Rattle.caf_events.specs.declared.reply.Reply.TheVariants as replies
use Rattle.caf_events.specs.declared.event.Entry.{Entry}
use Rattle.caf_events.specs.Asks.{place_of, object_of}
use Rattle.object_rules.specs.Scans.{or_else}
use Rattle.object_rules.specs.Cells.{Content, of_kind, locks, events, Declared, MadeMemory, zero_of, size_turn, size_after, written, is_offset, is_within, is_marked, value_beside, value_after, zero_there}
use Rattle.object_rules.specs.MemoryRules.{is_values, holds, suits_values, is_here, fits_memory, value_there, memory_ready, memory_reply}
use Rattle.object_rules.specs.SpanTests.{is_span}
use Rattle.core_runs.specs.CoreRuns.{of_memory}
use Rattle.core_runs.specs.Lawful.{IsLawfulTrace, made_memory}
use Rattle.order_theory.specs.Order.{Within}
use Rattle.order_theory.specs.Races.{Cell, Stands, defines}
use Rattle.order_axioms.specs.Touching.{class_by, class_of, cells_by, cells_of, cells_at, first_cells, made_last}
use Rattle.core_runs.specs.Lists.{key_of}
use Rattle.order_axioms.proofs.CellValues.{cells_within}
use Rattle.order_axioms.proofs.KeptValues.{after_is}
use Rattle.order_axioms.proofs.Marked.{of_here, served_here}
use Rattle.every_order.specs.Decided.{is_free}
use Rattle.free_replies.proofs.Alike.{IsFree, each_stands}

pub all_at : {A : Type 0} (test : A → Bool) (xs : List A) (x : A) → list_all test xs ≡ true → Within x xs → test x ≡ true
all_at test [] x h w = absurd w
all_at test (y ∷ ys) x h (inl e) = subst (λ z. test z ≡ true) (sym e) (and_parts (test y) (list_all test ys) h).0
all_at test (y ∷ ys) x h (inr w) = all_at test ys x (and_parts (test y) (list_all test ys) h).1 w

-- what a definition leaves at the cell, by its ask
abbrev pub left_by : MadeMemory → Cell → Ask → Option Value
left_by m c (asks.Write owner span vs) = cond (holds is_values (slice_get m.coarrays c.coarray)) (value_beside (pos c.offset) (offsets_of span) vs) None
left_by m c (asks.Create owner k cells) = cond (holds is_values (slice_get m.coarrays c.coarray)) (zero_there (slice_get m.coarrays c.coarray)) None
left_by m c a = None

-- a value stands beside each of the offsets
beside_some : (o : ℤ) (os : List ℤ) (vs : List Value) (old : Option Value) → Within o os → length vs ≡ length os → or_else (value_beside o os vs) old ≡ value_beside o os vs
beside_some o [] vs old w same = absurd w
beside_some o (x ∷ xs) [] old w same = absurd (omega arith)
beside_some o (x ∷ xs) (v ∷ vs) old (inl e) same = rw (by (value_beside o xs vs) (int_eq x o) ((Decides-int_eq x o).1 (sym e))) refl
  where
    by : (u : Option Value) (b : Bool) → b ≡ true → or_else (or_else u (cond b (Some v) None)) old ≡ or_else u (cond b (Some v) None)
    by None b t = rw t refl
    by (Some z) b t = refl
beside_some o (x ∷ xs) (v ∷ vs) old (inr w) same = more (value_beside o xs vs) (cond (int_eq x o) (Some v) None) (beside_some o xs vs old w (omega arith))
  where
    more : (u y : Option Value) → or_else u old ≡ u → or_else (or_else u y) old ≡ or_else u y
    more None None h = h
    more None (Some z) h = refl
    more (Some z) y h = refl

-- a cell that is one of the first so many
within_first : (c : Cell) (owner k a n : ℕ) → Within c (map (λ o. record { owner = owner; coarray = k; offset = o }) (range_with_len a n))
    → (c.owner ≡ owner) × (c.coarray ≡ k) × (c.offset < a + n)
within_first c owner k a zero w = absurd w
within_first c owner k a (suc n) (inl e) = let o = ap (λ (z : Cell). z.offset) e in (ap (λ (z : Cell). z.owner) e, ap (λ (z : Cell). z.coarray) e, omega arith)
within_first c owner k a (suc n) (inr w) = let r = within_first c owner k (a + 1) n w in let l = r.2 in (r.0, r.1, omega arith)

pub suits_is : (vs : List Value) (d : Option Declared) → holds (suits_values vs) d ≡ true → holds is_values d ≡ true
suits_is vs None h = absurd (cc)
suits_is vs (Some d) h = content d.content h
  where
    content : (c : Content) → suits_values vs c ≡ true → is_values c ≡ true
    content (of_kind k) h = refl
    content locks h = absurd (cc)
    content events h = absurd (cc)

zero_is : (d : Option Declared) (old : Option Value) → cond (holds is_values d && true) (or_else (zero_there d) old) None ≡ cond (holds is_values d) (zero_there d) None
zero_is None old = refl
zero_is (Some d) old = ap (λ b. cond b (Some (zero_of d.content)) None) (and_true (is_values d.content))
  where
    and_true : (b : Bool) → (b && true) ≡ b
    and_true true = refl
    and_true false = refl

none_left : (b : Bool) (v : Option Value) → cond (b && false) v None ≡ None
none_left true v = refl
none_left false v = refl

-- a write that was made has found its cells
pub done_within : (m : MadeMemory) (h : List Entry) (i : ℕ) (owner : ImageNo) (span : Span) (vs : List Value) → replies.Done ≡ memory_reply m h i (asks.Write owner span vs) → is_within m h span ≡ true
done_within m h i owner span vs e = by (is_marked h) (is_within m h span) e
  where
    by : (x y : Bool) → replies.Done ≡ cond x replies.Dead (cond y replies.Done replies.Absent) → y ≡ true
    by true y e = absurd (cc)
    by false true e = refl
    by false false e = absurd (cc)

-- a cell that is defined is of the memory where the ask is made
owner_is : (c : Cell) (g : List Entry) (a : Ask) (r : Reply) → is_free a r ≡ true → Within c (cells_by g a r) → defines (class_by a) ≡ true → object_of (place_of a) ≡ suc c.owner
owner_is c g (asks.Write owner span vs) replies.Done q w d = ap suc (sym (cells_within c owner.0 span.coarray (offsets_of span) w).0)
owner_is c g (asks.Create owner k cells) r q w d = ap suc (sym (within_first c owner.0 k 0 cells w).0)
owner_is c g (asks.Delete owner k) r q w d = ap suc (sym (within_first c owner.0 k 0 (made_last owner.0 k 0 g) w).0)
owner_is c g a r q w d = absurd (cc)

module _ (s : List Declared) (n : ℕ) (g : List Entry) (lawful : IsLawfulTrace s n g) (free : Each IsFree g) (y : Stands g) (c : Cell) where
  abbrev made : MadeMemory
  made = made_memory s c.owner

  abbrev here : List Entry
  here = of_memory c.owner y.before

  -- the value of the cell after one more ask with this reply
  abbrev After : Ask → Reply → Type 0
  After a r = value_there made (here ++ y.event ∷ []) c.coarray c.offset ≡ left_by made c a

  abbrev turned : Ask → Reply → Option Value
  turned a q =
      cond (holds is_values (slice_get s c.coarray) && is_offset (size_turn c.coarray (size_after made here c.coarray) a) (pos c.offset))
      (or_else (written made c.coarray (pos c.offset) a q) (value_after made here c.coarray (pos c.offset))) None

  write_leaves : (owner : ImageNo) (span : Span) (vs : List Value) → y.event.event.ask ≡ asks.Write owner span vs → y.event.event.reply ≡ replies.Done
      → Within c (cells_at owner.0 span.coarray (offsets_of span)) → After (asks.Write owner span vs) replies.Done
  write_leaves owner span vs e r w =
      let at = cells_within c owner.0 span.coarray (offsets_of span) w in
      let there = served_here s n g lawful y.before y.rest y.event y.split owner (ap place_of e) in
      let m = made_memory s owner.0 in
      let h = of_memory owner.0 y.before in
      let i = y.event.image.0 in
      let fits = (and_parts (fits_memory m h i (asks.Write owner span vs)) true (subst (λ a. IsTrue (memory_ready m h i a)) e there.0)).0 in
      let sized = and_parts (is_here m owner && is_span span && nat_eq (length vs) (length (offsets_of span))) (holds (suits_values vs) (slice_get s span.coarray)) fits in
      let many = eqb-true (length vs) (length (offsets_of span)) (and_parts (is_here m owner && is_span span) (nat_eq (length vs) (length (offsets_of span))) sized.0).1 in
      let within = done_within m h i owner span vs (sym r ∙ there.1 ∙ ap (memory_reply m h i) e) in
      let inside : is_offset (size_after m h span.coarray) (pos c.offset) ≡ true = all_at (is_offset (size_after m h span.coarray)) (offsets_of span) (pos c.offset) within at.2 in
      let inside' : is_offset (size_after made here c.coarray) (pos c.offset) ≡ true =
      subst (λ o. is_offset (size_after (made_memory s o) (of_memory o y.before) c.coarray) (pos c.offset) ≡ true) (sym at.0) (subst (λ k. is_offset (size_after m h k) (pos c.offset) ≡ true) (sym at.1) inside) in
      let values : holds is_values (slice_get s c.coarray) ≡ true = subst (λ k. holds is_values (slice_get s k) ≡ true) (sym at.1) (suits_is vs (slice_get s span.coarray) sized.1) in
      let same = eq-eqb span.coarray c.coarray (sym at.1) in
      let old = value_after made here c.coarray (pos c.offset) in
      after_is made y.before c y.event
      ∙ ap (λ a. turned a y.event.event.reply) e ∙ ap (λ q. turned (asks.Write owner span vs) q) r
      ∙ ap (λ b. cond (holds is_values (slice_get s c.coarray) && is_offset (size_after made here c.coarray) (pos c.offset)) (or_else (cond b (value_beside (pos c.offset) (offsets_of span) vs) None) old) None) same
      ∙ ap (λ v. cond (holds is_values (slice_get s c.coarray) && is_offset (size_after made here c.coarray) (pos c.offset)) v None) (beside_some (pos c.offset) (offsets_of span) vs old at.2 many)
      ∙ ap (λ b. cond (holds is_values (slice_get s c.coarray) && b) (value_beside (pos c.offset) (offsets_of span) vs) None) inside'
      ∙ ap (λ b. cond (b && true) (value_beside (pos c.offset) (offsets_of span) vs) None) values
      ∙ sym (ap (λ b. cond b (value_beside (pos c.offset) (offsets_of span) vs) None) values)

  create_leaves : (owner : ImageNo) (k cells : ℕ) → y.event.event.ask ≡ asks.Create owner k cells → Within c (first_cells owner.0 k cells) → After (asks.Create owner k cells) y.event.event.reply
  create_leaves owner k cells e w =
      let at = within_first c owner.0 k 0 cells w in
      let low = at.2 in
      let same = eq-eqb k c.coarray (sym at.1) in
      let less : nat_lt c.offset cells ≡ true = lt-ltb c.offset cells (omega arith) in
      let old = value_after made here c.coarray (pos c.offset) in
      let size = size_after made here c.coarray in
      let d = slice_get s c.coarray in
      after_is made y.before c y.event
      ∙ ap (λ a. turned a y.event.event.reply) e
      ∙ ap (λ b. cond (holds is_values d && is_offset (cond b (Some cells) size) (pos c.offset)) (or_else (cond (b && nat_lt c.offset cells) (zero_there d) None) old) None) same
      ∙ ap (λ b. cond (holds is_values d && b) (or_else (cond b (zero_there d) None) old) None) less
      ∙ zero_is d old

  delete_leaves : (owner : ImageNo) (k : ℕ) → y.event.event.ask ≡ asks.Delete owner k → c.coarray ≡ k → After (asks.Delete owner k) y.event.event.reply
  delete_leaves owner k e at =
      let same = eq-eqb k c.coarray (sym at) in
      let old = value_after made here c.coarray (pos c.offset) in
      let size = size_after made here c.coarray in
      let d = slice_get s c.coarray in
      after_is made y.before c y.event
      ∙ ap (λ a. turned a y.event.event.reply) e
      ∙ ap (λ b. cond (holds is_values d && is_offset (cond b None size) (pos c.offset)) old None) same
      ∙ none_left (holds is_values d) old

  leaves_by : (a : Ask) (r : Reply) → y.event.event.ask ≡ a → y.event.event.reply ≡ r → is_free a r ≡ true → Within c (cells_by y.before a r) → defines (class_by a) ≡ true
      → value_there made (here ++ y.event ∷ []) c.coarray c.offset ≡ left_by made c a
  leaves_by (asks.Write owner span vs) replies.Done e r f w d = write_leaves owner span vs e r w
  leaves_by (asks.Create owner k cells) r e q f w d = create_leaves owner k cells e w
  leaves_by (asks.Delete owner k) r e q f w d = delete_leaves owner k e (within_first c owner.0 k 0 (made_last owner.0 k 0 y.before) w).1
  leaves_by a r e q f w d = absurd (cc)

  -- What a definition leaves at a cell that it touches.
  pub leaves_told : Within c (cells_of y.before y.event) → defines (class_of y.event) ≡ true → value_there made (of_memory c.owner (y.before ++ y.event ∷ [])) c.coarray c.offset ≡ left_by made c y.event.event.ask
  leaves_told w d = ap (λ h. value_there made h c.coarray c.offset) (of_here (suc c.owner) y.before [] y.event key) ∙ leaves_by y.event.event.ask y.event.event.reply refl refl (each_stands IsFree g free y) w d
    where
      key : key_of y.event ≡ suc c.owner
      key = owner_is c y.before y.event.event.ask y.event.event.reply (each_stands IsFree g free y) w d
