-- An entry that doesn't define a cell leaves its value.
use Rattle.std.proofs.Common.{◌≡◌, ℕ, zero, suc, ◌+◌, ◌<◌, Bool, true, false, ◌&&◌, not, IsTrue, cond, List, [], ◌∷◌, ◌++◌, length, inl, inr, refl, ap, sym, ◌∙◌, subst, arith}
use Rattle.std.specs.Prelude.{ℤ, pos, nat_eq, nat_le, nat_lt, map, Option, Some, None, slice_get, is_some}
use Rattle.std.specs.List.{range_with_len}
use Rattle.std.specs.Ordering.{int_eq}
use Rattle.std.proofs.lemmas.Bool.{cases_Bool, and_parts, both_ways, eqb-true, eq-eqb, ltb-true, not-true}
use Rattle.std.proofs.lemmas.Bool.Decides.{Decides-int_eq}
use Rattle.caf_base.specs.declared.place.ImageNo.{ImageNo}
use Rattle.caf_base.specs.declared.place.Place.TheVariants as places
use Rattle.caf_base.specs.declared.span.Span.{Span}
use Rattle.caf_base.specs.declared.value.AtomicOp.{AtomicOp}
use Rattle.caf_base.specs.declared.value.AtomicOp.TheVariants as ops
use Rattle.caf_base.specs.declared.value.Value.{Value}
use Rattle.caf_base.specs.Spans.{offsets_from, offsets_of}
use Rattle.caf_events.specs.declared.ask.Ask.{Ask}
use Rattle.caf_events.specs.declared.ask.Ask.TheVariants as asks
use Rattle.caf_events.specs.declared.reply.Reply.{Reply}
use Rattle.caf_events.specs.declared.reply.Reply.TheVariants as replies
use Rattle.caf_events.specs.declared.event.Entry.{Entry}
use Rattle.caf_events.specs.Asks.{place_of, object_of}
use Rattle.object_rules.specs.Scans.{or_else}
use Rattle.object_rules.specs.Cells.{Declared, MadeMemory, size_turn, size_from, size_after, first_size, is_offset, is_within, is_marked, atomic_written, value_beside, written, value_after}
use Rattle.object_rules.specs.MemoryRules.{is_values, holds, is_allocatable, is_own, is_here, is_one_cell, is_cell_of, suits_atomic, all_cells, fits_memory, can_come, cells_there, atomic_reply, value_there, memory_ready, memory_reply}
use Rattle.object_rules.proofs.MemoryGrowing.{size_more, value_more}
use Rattle.core_runs.specs.Lists.{key_of}
use Rattle.core_runs.specs.CoreRuns.{of_memory}
use Rattle.order_theory.specs.Order.{Within}
use Rattle.order_theory.specs.Races.{Cell, defines, touches_cell}
use Rattle.order_theory.proofs.Seen.{touches_from}
use Rattle.order_axioms.specs.Touching.{atomic_class, class_by, cells_at, reached, first_cells, made_by, made_last, cells_by}
use Rattle.order_axioms.proofs.CellValues.{within_cells}

not_both : (a b : Bool) → (a && b) ≡ false → b ≡ true → a ≡ false
not_both true b h t = absurd (both_ways b h t)
not_both false b h t = refl

none_there : (a b : Bool) (v : Option Value) → b ≡ false → cond (a && b) v None ≡ None
none_there true b v e = ap (λ z. cond z v None) e
none_there false b v e = refl

-- an offset of none of the cells has no value beside it
beside_none : (o : ℤ) (os : List ℤ) (vs : List Value) → (Within o os → ⊥) → value_beside o os vs ≡ None
beside_none o [] vs n = refl
beside_none o (x ∷ xs) [] n = refl
beside_none o (x ∷ xs) (v ∷ vs) n = elim (cases_Bool (int_eq x o)) [
  | inl t ↦ absurd (n (inl (sym ((Decides-int_eq x o).0 t))))
  | inr f ↦ rw (beside_none o xs vs (λ w. n (inr w)), f) refl
]

within_range : (f : ℕ → Cell) (a n k : ℕ) → k < n → Within (f (a + k)) (map f (range_with_len a n))
within_range f a zero k l = absurd (omega arith)
within_range f a (suc n) zero l = inl (let e : a + 0 ≡ a = omega arith in ap f e)
within_range f a (suc n) (suc k) l = inr (let e : a + 1 + k ≡ a + suc k = omega arith in subst (λ j. Within (f j) (map f (range_with_len (a + 1) n))) e (within_range f (a + 1) n k (omega arith)))

-- a cell that isn't one of the first so many
not_first : (cell : Cell) (many : ℕ) → touches_cell cell (first_cells cell.owner cell.coarray many) ≡ false → nat_lt cell.offset many ≡ false
not_first cell many out = elim (cases_Bool (nat_lt cell.offset many)) [
  | inl t ↦ absurd (
      let w = within_range (λ o. record { owner = cell.owner; coarray = cell.coarray; offset = o }) 0 many cell.offset (ltb-true cell.offset many t) in
      let e : 0 + cell.offset ≡ cell.offset = omega arith in
      both_ways (touches_cell cell (first_cells cell.owner cell.coarray many)) out
      (touches_from cell (first_cells cell.owner cell.coarray many) (subst (λ j. Within (record { owner = cell.owner; coarray = cell.coarray; offset = j }) (first_cells cell.owner cell.coarray many)) e w)))
  | inr f ↦ f
]

-- a coarray that is there after an allocation has as many cells as that gave it
abbrev TellsSize : Option ℕ → ℕ → Type 0
TellsSize None made = Unit {0}
TellsSize (Some n) made = n ≡ made

size_here : (owner c : ℕ) (s : Option ℕ) (made : ℕ) (a : Ask) → object_of (place_of a) ≡ suc owner → TellsSize s made → TellsSize (size_turn c s a) (made_by owner c a made)
size_here owner c s made (asks.Create o k cells) here h = elim (cases_Bool (nat_eq k c)) [
  | inl t ↦ (let e : o.0 ≡ owner = omega arith in rw (t, eq-eqb o.0 owner e) refl)
  | inr f ↦ (let e : o.0 ≡ owner = omega arith in rw (f, eq-eqb o.0 owner e) h)
]
size_here owner c s made (asks.Delete o k) here h = elim (cases_Bool (nat_eq k c)) [
  | inl t ↦ rw t tt
  | inr f ↦ rw f h
]
size_here owner c s made a here h = h

apart : (a b : ℕ) → nat_eq (suc a) (suc b) ≡ false → nat_eq a b ≡ false
apart a b h = elim (cases_Bool (nat_eq a b)) [
  | inl t ↦ absurd (both_ways (nat_eq (suc a) (suc b)) h (eq-eqb (suc a) (suc b) (ap suc (eqb-true a b t))))
  | inr f ↦ f
]

made_elsewhere : (owner c made : ℕ) (a : Ask) → nat_eq (object_of (place_of a)) (suc owner) ≡ false → made_by owner c a made ≡ made
made_elsewhere owner c made (asks.Create o k cells) other = rw (apart o.0 owner other) refl
made_elsewhere owner c made a other = refl

sized : (owner c : ℕ) (g : List Entry) (s : Option ℕ) (made : ℕ) → TellsSize s made → TellsSize (size_from c s (of_memory owner g)) (made_last owner c made g)
sized owner c [] s made h = h
sized owner c (e ∷ g) s made h = elim (cases_Bool (nat_eq (key_of e) (suc owner))) [
  | inl t ↦ rw t (sized owner c g (size_turn c s e.event.ask) (made_by owner c e.event.ask made) (size_here owner c s made e.event.ask (eqb-true (key_of e) (suc owner) t) h))
  | inr f ↦ rw f (subst (λ z. TellsSize (size_from c s (of_memory owner g)) (made_last owner c z g)) (sym (made_elsewhere owner c made e.event.ask f)) (sized owner c g s made h))
]

beyond : (s : Option ℕ) (made o : ℕ) → TellsSize s made → nat_lt o made ≡ false → is_offset s (pos o) ≡ false
beyond None made o h l = refl
beyond (Some n) made o h l = subst (λ z. nat_lt o z ≡ false) (sym h) l

not_there : (s : Option ℕ) (o : ℤ) → is_some s ≡ false → is_offset s o ≡ false
not_there None o h = refl
not_there (Some n) o h = absurd (cc)

first_none : (x : Option Declared) → is_allocatable x ≡ true → first_size x ≡ None
first_none None h = absurd (cc)
first_none (Some d) h = rw h refl

-- an atomic reference replies the value of its cell
ref_reply : (marked there : Bool) (x y now : Value) (v : Option Value) → replies.Old now ≡ cond marked replies.Dead (cond there (atomic_reply ops.Ref x y v) replies.Absent) → v ≡ Some now
ref_reply true there x y now v e = absurd (cc)
ref_reply false false x y now v e = absurd (cc)
ref_reply false true x y now None e = absurd (cc)
ref_reply false true x y now (Some u) e = let q : now ≡ u = cc in ap Some (sym q)

module _ (m : MadeMemory) (g : List Entry) (cell : Cell) where
  -- the history of the cell's memory
  abbrev h : List Entry
  h = of_memory cell.owner g

  abbrev now : Option Value
  now = value_after m h cell.coarray (pos cell.offset)

  -- the value of the cell after one more ask at its memory, with this reply
  abbrev after : Ask → Reply → Option Value
  after a r = cond (holds is_values (slice_get m.coarrays cell.coarray) && is_offset (size_turn cell.coarray (size_after m h cell.coarray) a) (pos cell.offset)) (or_else (written m cell.coarray (pos cell.offset) a r) now) None

  pub after_is : (e : Entry) → value_there m (h ++ e ∷ []) cell.coarray cell.offset ≡ after e.event.ask e.event.reply
  after_is e =
      ap (λ s. cond (holds is_values (slice_get m.coarrays cell.coarray) && is_offset s (pos cell.offset)) (value_after m (h ++ e ∷ []) cell.coarray (pos cell.offset)) None) (size_more m h e cell.coarray)
      ∙ ap (λ v. cond (holds is_values (slice_get m.coarrays cell.coarray) && is_offset (size_turn cell.coarray (size_after m h cell.coarray) e.event.ask) (pos cell.offset)) v None) (value_more m h e cell.coarray (pos cell.offset))

  -- a write that doesn't touch the cell
  write_none : (owner : ImageNo) (span : Span) (vs : List Value) (r : Reply) → owner.0 ≡ cell.owner → touches_cell cell (reached owner.0 span r) ≡ false → written m cell.coarray (pos cell.offset) (asks.Write owner span vs) r ≡ None
  write_none owner span vs replies.Done e out = elim (cases_Bool (nat_eq span.coarray cell.coarray)) [
    | inl t ↦ rw t (beside_none (pos cell.offset) (offsets_of span) vs (λ w.
        both_ways (touches_cell cell (cells_at owner.0 span.coarray (offsets_of span))) out
        (touches_from cell (cells_at owner.0 span.coarray (offsets_of span))
        (subst (λ z. Within cell (cells_at z span.coarray (offsets_of span))) (sym e) (subst (λ z. Within cell (cells_at cell.owner z (offsets_of span))) (sym (eqb-true span.coarray cell.coarray t)) (within_cells cell (offsets_of span) w))))))
    | inr f ↦ rw f refl
  ]
  write_none owner span vs r e out = refl

  -- an atomic action on the cell that doesn't define it references it, and leaves the value that it replies
  ref_same : (op : AtomicOp) (x y old : Value) → defines (atomic_class op) ≡ false → (op ≡ ops.Ref → now ≡ Some old) → or_else (atomic_written op x y (replies.Old old)) now ≡ now
  ref_same ops.Ref x y old f is = sym (is refl)
  ref_same op x y old f is = absurd (cc)

  no_dims : (ds : List (ℕ × ℤ)) → nat_eq (length ds) 0 ≡ true → ds ≡ []
  no_dims [] e = refl
  no_dims (d ∷ ds) e = let many = eqb-true (length (d ∷ ds)) 0 e in absurd (omega arith)

  atomic_same : (owner : ImageNo) (op : AtomicOp) (span : Span) (x y : Value) (r : Reply) (i : ℕ) → owner.0 ≡ cell.owner → span.coarray ≡ cell.coarray → span.start ≡ cell.offset
      → IsTrue (memory_ready m h i (asks.Atomic owner op span x y)) → r ≡ memory_reply m h i (asks.Atomic owner op span x y) → (touches_cell cell (reached owner.0 span r) && defines (atomic_class op)) ≡ false
      → or_else (atomic_written op x y r) now ≡ now
  atomic_same owner op span x y (replies.Old old) i e c s ready is still =
      let fits = (and_parts (fits_memory m h i (asks.Atomic owner op span x y)) (can_come h (cells_there m h (asks.Atomic owner op span x y)) i (asks.Atomic owner op span x y)) ready).0 in
      let one = (and_parts (is_one_cell span) (holds (suits_atomic op x y) (slice_get m.coarrays span.coarray)) (and_parts (is_here m owner) (is_cell_of m (suits_atomic op x y) span) fits).1).0 in
      let scalar = no_dims span.dims (and_parts (nat_eq (length span.dims) 0) (nat_lt span.start 65536) one).0 in
      let offsets : offsets_of span ≡ pos cell.offset ∷ [] = ap (offsets_from (pos span.start)) scalar ∙ ap (λ z. pos z ∷ []) s in
      let within : Within cell (cells_at owner.0 span.coarray (offsets_of span)) =
      subst (λ z. Within cell (cells_at z span.coarray (offsets_of span))) (sym e) (subst (λ z. Within cell (cells_at cell.owner z (offsets_of span))) (sym c) (within_cells cell (offsets_of span) (subst (Within (pos cell.offset)) (sym offsets) (inl refl)))) in
      let touch = touches_from cell (cells_at owner.0 span.coarray (offsets_of span)) within in
      let quiet : defines (atomic_class op) ≡ false = rw touch at still in
      ref_same op x y old quiet (λ ref. (
      let told = ref_reply (is_marked h) (is_within m h span) x y old (value_after m h span.coarray (pos span.start)) (is ∙ ap (λ z. memory_reply m h i (asks.Atomic owner z span x y)) ref) in
      ap (λ z. value_after m h z (pos cell.offset)) (sym c) ∙ ap (λ z. value_after m h span.coarray (pos z)) (sym s) ∙ told))
  atomic_same owner op span x y r i e c s ready is still = refl

  pos_same : (a b : ℕ) → pos a ≡ pos b → a ≡ b
  pos_same a b e = cc

  -- An ask at the cell's memory that doesn't define the cell leaves its value.
  pub kept_after : (i : ℕ) (a : Ask) (r : Reply) → object_of (place_of a) ≡ suc cell.owner → ((o : ImageNo) → place_of a ≡ places.Memory o → IsTrue (memory_ready m h i a) × (r ≡ memory_reply m h i a))
      → (touches_cell cell (cells_by g a r) && defines (class_by a)) ≡ false → after a r ≡ value_there m h cell.coarray cell.offset
  kept_after i (asks.Write owner span vs) r key served quiet =
      let e : owner.0 ≡ cell.owner = omega arith in
      ap (λ v. cond (holds is_values (slice_get m.coarrays cell.coarray) && is_offset (size_after m h cell.coarray) (pos cell.offset)) (or_else v now) None) (write_none owner span vs r e (not_both (touches_cell cell (reached owner.0 span r)) true quiet refl))
  kept_after i (asks.Atomic owner op span x y) r key served quiet =
      let e : owner.0 ≡ cell.owner = omega arith in
      ap (λ v. cond (holds is_values (slice_get m.coarrays cell.coarray) && is_offset (size_after m h cell.coarray) (pos cell.offset)) v None)
      (elim (cases_Bool (nat_eq span.coarray cell.coarray && int_eq (pos span.start) (pos cell.offset))) [
        | inl t ↦ (
            let p = and_parts (nat_eq span.coarray cell.coarray) (int_eq (pos span.start) (pos cell.offset)) t in
            let there = served owner refl in
            rw t (atomic_same owner op span x y r i e (eqb-true span.coarray cell.coarray p.0) (pos_same span.start cell.offset ((Decides-int_eq (pos span.start) (pos cell.offset)).0 p.1)) there.0 there.1 quiet))
        | inr f ↦ rw f refl
      ])
  kept_after i (asks.Create owner k cells) r key served quiet = elim (cases_Bool (nat_eq k cell.coarray)) [
    | inl t ↦ (
        let e : owner.0 ≡ cell.owner = omega arith in
        let c = eqb-true k cell.coarray t in
        let out = not_both (touches_cell cell (first_cells owner.0 k cells)) true quiet refl in
        let low = not_first cell cells (subst (λ z. touches_cell cell (first_cells z cell.coarray cells) ≡ false) e (subst (λ z. touches_cell cell (first_cells owner.0 z cells) ≡ false) c out)) in
        let fits = (and_parts (fits_memory m h i (asks.Create owner k cells)) true (served owner refl).0).0 in
        let absent = not-true (is_some (size_after m h k)) (and_parts (is_own m i owner && is_allocatable (slice_get m.coarrays k)) (not (is_some (size_after m h k))) (and_parts (is_own m i owner && is_allocatable (slice_get m.coarrays k) && not (is_some (size_after m h k))) (nat_le (all_cells m h + cells) 65536) fits).0).1 in
        none_there (holds is_values (slice_get m.coarrays cell.coarray)) (is_offset (size_turn cell.coarray (size_after m h cell.coarray) (asks.Create owner k cells)) (pos cell.offset)) (or_else (written m cell.coarray (pos cell.offset) (asks.Create owner k cells) r) now) (rw t low)
        ∙ sym (none_there (holds is_values (slice_get m.coarrays cell.coarray)) (is_offset (size_after m h cell.coarray) (pos cell.offset)) now (not_there (size_after m h cell.coarray) (pos cell.offset) (subst (λ z. is_some (size_after m h z) ≡ false) c absent))))
    | inr f ↦ rw f refl
  ]
  kept_after i (asks.Delete owner k) r key served quiet = elim (cases_Bool (nat_eq k cell.coarray)) [
    | inl t ↦ (
        let e : owner.0 ≡ cell.owner = omega arith in
        let c = eqb-true k cell.coarray t in
        let out = not_both (touches_cell cell (first_cells owner.0 k (made_last owner.0 k 0 g))) true quiet refl in
        let low = not_first cell (made_last cell.owner cell.coarray 0 g)
        (subst (λ z. touches_cell cell (first_cells z cell.coarray (made_last z cell.coarray 0 g)) ≡ false) e (subst (λ z. touches_cell cell (first_cells owner.0 z (made_last owner.0 z 0 g)) ≡ false) c out)) in
        let fits = (and_parts (fits_memory m h i (asks.Delete owner k)) true (served owner refl).0).0 in
        let allocatable = (and_parts (is_own m i owner) (is_allocatable (slice_get m.coarrays k)) (and_parts (is_own m i owner && is_allocatable (slice_get m.coarrays k)) (is_some (size_after m h k)) fits).0).1 in
        let size : size_after m h cell.coarray ≡ size_from cell.coarray None h = ap (λ z. size_from cell.coarray z h) (first_none (slice_get m.coarrays cell.coarray) (subst (λ z. is_allocatable (slice_get m.coarrays z) ≡ true) c allocatable)) in
        let gone = subst (λ z. is_offset z (pos cell.offset) ≡ false) (sym size) (beyond (size_from cell.coarray None h) (made_last cell.owner cell.coarray 0 g) cell.offset (sized cell.owner cell.coarray g None 0 tt) low) in
        none_there (holds is_values (slice_get m.coarrays cell.coarray)) (is_offset (size_turn cell.coarray (size_after m h cell.coarray) (asks.Delete owner k)) (pos cell.offset)) now (rw t refl)
        ∙ sym (none_there (holds is_values (slice_get m.coarrays cell.coarray)) (is_offset (size_after m h cell.coarray) (pos cell.offset)) now gone))
    | inr f ↦ rw f refl
  ]
  kept_after i a r key served quiet = refl
