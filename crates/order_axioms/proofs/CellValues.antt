-- What a memory's cells hold: each cell of values that is there has a value, and a read that reaches its cells gives
-- the value of each.
use Rattle.std.proofs.Common.{◌≡◌, ◌⊎◌, ℕ, Bool, true, false, ◌&&◌, IsTrue, cond, List, [], ◌∷◌, inl, inr, refl, ap, sym, ◌∙◌, subst}
use Rattle.std.specs.Prelude.{ℤ, pos, negsuc, Option, Some, None, slice_get}
use Rattle.std.specs.List.{list_all}
use Rattle.std.specs.Ordering.{int_eq}
use Rattle.std.proofs.lemmas.Bool.{cases_Bool, and_parts, both_ways}
use Rattle.std.proofs.lemmas.Bool.Decides.{Decides-int_eq}
use Rattle.caf_base.specs.declared.place.ImageNo.{ImageNo}
use Rattle.caf_base.specs.declared.span.Span.{Span}
use Rattle.caf_base.specs.declared.value.Value.{Value}
use Rattle.caf_base.specs.Spans.{offsets_of}
use Rattle.caf_events.specs.declared.ask.Ask.TheVariants as asks
use Rattle.caf_events.specs.declared.reply.Reply.TheVariants as replies
use Rattle.caf_events.specs.declared.event.Entry.{Entry}
use Rattle.caf_events.specs.Memories.{with_value}
use Rattle.object_rules.specs.Scans.{or_else}
use Rattle.object_rules.specs.Cells.{Declared, MadeMemory, size_after, is_offset, is_within, is_marked, value_beside, value_after, values_after}
use Rattle.object_rules.specs.MemoryRules.{is_values, holds, has_first_values, is_here, fits_memory, can_come, cells_there, value_there, memory_ready, memory_reply}
use Rattle.object_rules.specs.SpanTests.{is_span}
use Rattle.object_rules.proofs.CellValues.{all_get, HasValue, has_value}
use Rattle.order_theory.specs.Order.{Within}
use Rattle.order_theory.specs.Races.{Cell}
use Rattle.order_axioms.specs.Touching.{has_reached, cells_at, reached, given}

all_within : {A : Type 0} (test : A → Bool) (xs : List A) (x : A) → list_all test xs ≡ true → Within x xs → test x ≡ true
all_within test [] x h w = absurd w
all_within test (y ∷ ys) x h (inl e) = subst (λ z. test z ≡ true) (sym e) (and_parts (test y) (list_all test ys) h).0
all_within test (y ∷ ys) x h (inr w) = all_within test ys x (and_parts (test y) (list_all test ys) h).1 w

no_negative : (s : Option ℕ) (k : ℕ) → is_offset s (negsuc k) ≡ false
no_negative None k = refl
no_negative (Some n) k = refl

-- a coarray of values that is declared
declared_there : (x : Option Declared) → holds is_values x ≡ true → (d : Declared) × (x ≡ Some d) × (is_values d.content ≡ true)
declared_there None h = absurd (cc)
declared_there (Some d) h = (d, refl, h)

-- the value beside an offset among the values of the cells at these offsets is that of its cell
module _ (m : MadeMemory) (h : List Entry) (c : ℕ) (o : ℤ) (w : Value) (is : value_after m h c o ≡ Some w) where
  abbrev Beside : List ℤ → Option Value → Type 0
  Beside os v = (v ≡ Some w) ⊎ ((v ≡ None) × (Within o os → ⊥))

  put : (x : ℤ) (v : Value) (xs : List ℤ) (rest : Option Value) → value_after m h c x ≡ Some v → Beside xs rest → Beside (x ∷ xs) (or_else rest (cond (int_eq x o) (Some v) None))
  put x v xs rest has (inl e) = inl (rw e refl)
  put x v xs rest has (inr n) = elim (cases_Bool (int_eq x o)) [
    | inl t ↦ inl (rw (n.0, t) (sym has ∙ subst (λ z. value_after m h c z ≡ Some w) (sym ((Decides-int_eq x o).0 t)) is))
    | inr f ↦ inr (rw (n.0, f) refl, λ q. elim q [ inl e ↦ both_ways (int_eq x o) f ((Decides-int_eq x o).1 (sym e)) | inr s ↦ n.1 s ])
  ]

  beside : (os : List ℤ) → ((p : ℤ) → Within p os → HasValue m c h p) → Beside os (value_beside o os (values_after m h c os))
  beside [] all = inr (refl, λ q. q)
  beside (x ∷ xs) all =
      let v = all x (inl refl) in
      subst (λ z. Beside (x ∷ xs) (value_beside o (x ∷ xs) (with_value z (values_after m h c xs)))) (sym v.1)
      (put x v.0 xs (value_beside o xs (values_after m h c xs)) v.1 (beside xs (λ p q. all p (inr q))))

  pub beside_is : (os : List ℤ) → ((p : ℤ) → Within p os → HasValue m c h p) → Within o os → value_beside o os (values_after m h c os) ≡ Some w
  beside_is os all there = elim (beside os all) [ inl e ↦ e | inr n ↦ absurd (n.1 there) ]

-- the cells at some offsets
pub cells_within : (cell : Cell) (owner coarray : ℕ) (os : List ℤ) → Within cell (cells_at owner coarray os) → (cell.owner ≡ owner) × (cell.coarray ≡ coarray) × Within (pos cell.offset) os
cells_within cell owner coarray [] w = absurd w
cells_within cell owner coarray (pos o ∷ os) (inl e) = (ap (λ (z : Cell). z.owner) e, ap (λ (z : Cell). z.coarray) e, inl (ap (λ (z : Cell). pos z.offset) e))
cells_within cell owner coarray (pos o ∷ os) (inr w) = let r = cells_within cell owner coarray os w in (r.0, r.1, inr r.2)
cells_within cell owner coarray (negsuc o ∷ os) w = let r = cells_within cell owner coarray os w in (r.0, r.1, inr r.2)

pub within_cells : (cell : Cell) (os : List ℤ) → Within (pos cell.offset) os → Within cell (cells_at cell.owner cell.coarray os)
within_cells cell [] w = absurd w
within_cells cell (pos p ∷ os) (inl e) = inl (let q : cell.offset ≡ p = cc in ap (λ z. record { owner = cell.owner; coarray = cell.coarray; offset = z }) q)
within_cells cell (pos p ∷ os) (inr w) = inr (within_cells cell os w)
within_cells cell (negsuc p ∷ os) (inl e) = absurd (cc)
within_cells cell (negsuc p ∷ os) (inr w) = within_cells cell os w

-- a read that reaches its cells has their values
read_reached : (marked there : Bool) (vs : List Value) (cell : Cell) (cells : List Cell) → Within cell (cond (has_reached (cond marked replies.Dead (cond there (replies.Values vs) replies.Absent))) cells [])
    → (there ≡ true) × (cond marked replies.Dead (cond there (replies.Values vs) replies.Absent) ≡ replies.Values vs) × Within cell cells
read_reached true there vs cell cells w = absurd w
read_reached false true vs cell cells w = (refl, refl, w)
read_reached false false vs cell cells w = absurd w

there_is : (m : MadeMemory) (h : List Entry) (c o : ℕ) → holds is_values (slice_get m.coarrays c) ≡ true → is_offset (size_after m h c) (pos o) ≡ true → value_there m h c o ≡ value_after m h c (pos o)
there_is m h c o a b = ap (λ z. cond (z && is_offset (size_after m h c) (pos o)) (value_after m h c (pos o)) None) a ∙ ap (λ z. cond z (value_after m h c (pos o)) None) b

module _ (m : MadeMemory) (full : list_all has_first_values m.coarrays ≡ true) (h : List Entry) (i : ℕ) (owner : ImageNo) (span : Span) (ready : IsTrue (memory_ready m h i (asks.Read owner span))) where
  of_values : holds is_values (slice_get m.coarrays span.coarray) ≡ true
  of_values =
      let fits = (and_parts (fits_memory m h i (asks.Read owner span)) (can_come h (cells_there m h (asks.Read owner span)) i (asks.Read owner span)) ready).0 in
      (and_parts (is_here m owner && is_span span) (holds is_values (slice_get m.coarrays span.coarray)) fits).1

  cell_has : (o : ℤ) → is_offset (size_after m h span.coarray) o ≡ true → HasValue m span.coarray h o
  cell_has (pos o) q =
      let d = declared_there (slice_get m.coarrays span.coarray) of_values in
      has_value m span.coarray d.0 d.1 o (all_get has_first_values m.coarrays span.coarray d.0 full d.1) d.2 h q
  cell_has (negsuc o) q = absurd (both_ways (is_offset (size_after m h span.coarray) (negsuc o)) (no_negative (size_after m h span.coarray) o) q)

  -- a read gives the value of each cell that it reaches
  pub read_gives : (cell : Cell) → Within cell (reached owner.0 span (memory_reply m h i (asks.Read owner span)))
      → given cell (asks.Read owner span) (memory_reply m h i (asks.Read owner span)) ≡ value_there m h cell.coarray cell.offset
  read_gives cell w =
      let r = read_reached (is_marked h) (is_within m h span) (values_after m h span.coarray (offsets_of span)) cell (cells_at owner.0 span.coarray (offsets_of span)) w in
      let at = cells_within cell owner.0 span.coarray (offsets_of span) r.2 in
      let inside : (p : ℤ) → Within p (offsets_of span) → is_offset (size_after m h span.coarray) p ≡ true = λ p q. all_within (is_offset (size_after m h span.coarray)) (offsets_of span) p r.0 q in
      let v = cell_has (pos cell.offset) (inside (pos cell.offset) at.2) in
      ap (given cell (asks.Read owner span)) r.1
      ∙ beside_is m h span.coarray (pos cell.offset) v.0 v.1 (offsets_of span) (λ p q. cell_has p (inside p q)) at.2
      ∙ sym (ap (λ k. value_there m h k cell.offset) at.1 ∙ there_is m h span.coarray cell.offset of_values (inside (pos cell.offset) at.2) ∙ v.1)
