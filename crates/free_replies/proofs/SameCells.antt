-- Two histories of a memory with the same values at some cells reply the same to a reference or a definition of these.
use Rattle.std.proofs.Common.{◌≡◌, ℕ, Bool, true, false, ◌&&◌, cond, List, [], ◌∷◌, inl, inr, refl, ap, sym, ◌∙◌}
use Rattle.std.specs.Prelude.{ℤ, pos, negsuc, Option, Some, None, slice_get}
use Rattle.std.specs.List.{list_all}
use Rattle.std.proofs.lemmas.Bool.{and_parts, both_ways}
use Rattle.caf_base.specs.declared.place.ImageNo.{ImageNo}
use Rattle.caf_base.specs.declared.span.Span.{Span}
use Rattle.caf_base.specs.declared.value.Value.{Value}
use Rattle.caf_base.specs.Spans.{offsets_of}
use Rattle.caf_events.specs.declared.ask.Ask.TheVariants as asks
use Rattle.caf_events.specs.declared.reply.Reply.TheVariants as replies
use Rattle.caf_events.specs.declared.event.Entry.{Entry}
use Rattle.caf_events.specs.Memories.{with_value}
use Rattle.object_rules.specs.Cells.{Declared, MadeMemory, size_after, is_offset, is_within, is_marked, value_after, values_after}
use Rattle.object_rules.specs.MemoryRules.{is_values, holds, has_first_values, value_there, memory_reply}
use Rattle.object_rules.proofs.CellValues.{all_get, has_value}
use Rattle.order_theory.specs.Order.{Within}
use Rattle.every_order.specs.Decided.{is_free}

some_there : (a b : Bool) (v : Option Value) (w : Value) → cond (a && b) v None ≡ Some w → (b ≡ true) × (v ≡ Some w)
some_there true true v w e = (refl, e)
some_there true false v w e = absurd (cc)
some_there false b v w e = absurd (cc)

-- a coarray of values that is declared
declared_there : (x : Option Declared) → holds is_values x ≡ true → (d : Declared) × (x ≡ Some d) × (is_values d.content ≡ true)
declared_there None h = absurd (cc)
declared_there (Some d) h = (d, refl, h)

there_is : (m : MadeMemory) (h : List Entry) (c o : ℕ) → holds is_values (slice_get m.coarrays c) ≡ true → is_offset (size_after m h c) (pos o) ≡ true → value_there m h c o ≡ value_after m h c (pos o)
there_is m h c o a b = ap (λ z. cond (z && is_offset (size_after m h c) (pos o)) (value_after m h c (pos o)) None) a ∙ ap (λ z. cond z (value_after m h c (pos o)) None) b

-- a free reply says that the cells were there
read_found : (x y : Bool) (owner : ImageNo) (span : Span) (vs : List Value) → is_free (asks.Read owner span) (cond x replies.Dead (cond y (replies.Values vs) replies.Absent)) ≡ true → y ≡ true
read_found true y owner span vs h = absurd (cc)
read_found false true owner span vs h = refl
read_found false false owner span vs h = absurd (cc)

write_found : (x y : Bool) (owner : ImageNo) (span : Span) (vs : List Value) → is_free (asks.Write owner span vs) (cond x replies.Dead (cond y replies.Done replies.Absent)) ≡ true → y ≡ true
write_found true y owner span vs h = absurd (cc)
write_found false true owner span vs h = refl
write_found false false owner span vs h = absurd (cc)

module _ (m : MadeMemory) (full : list_all has_first_values m.coarrays ≡ true) (g h : List Entry) (c : ℕ) (is : holds is_values (slice_get m.coarrays c) ≡ true) where
  -- where g has the cell, h has it with the same value
  cell_same : (o : ℕ) → value_there m h c o ≡ value_there m g c o → is_offset (size_after m g c) (pos o) ≡ true
      → (is_offset (size_after m h c) (pos o) ≡ true) × (value_after m h c (pos o) ≡ value_after m g c (pos o))
  cell_same o same there =
      let d = declared_there (slice_get m.coarrays c) is in
      let v = has_value m c d.0 d.1 o (all_get has_first_values m.coarrays c d.0 full d.1) d.2 g there in
      let p = some_there (holds is_values (slice_get m.coarrays c)) (is_offset (size_after m h c) (pos o)) (value_after m h c (pos o)) v.0 (same ∙ there_is m g c o is there ∙ v.1) in
      (p.0, p.1 ∙ sym v.1)

  -- the same of the cells at some offsets
  cells_same : (os : List ℤ) → ((o : ℕ) → Within (pos o) os → value_there m h c o ≡ value_there m g c o) → list_all (is_offset (size_after m g c)) os ≡ true
      → (list_all (is_offset (size_after m h c)) os ≡ true) × (values_after m h c os ≡ values_after m g c os)
  cells_same [] same all = (refl, refl)
  cells_same (pos o ∷ os) same all =
      let p = and_parts (is_offset (size_after m g c) (pos o)) (list_all (is_offset (size_after m g c)) os) all in
      let one = cell_same o (same o (inl refl)) p.0 in
      let rest = cells_same os (λ k w. same k (inr w)) p.1 in (
        rw (one.0, rest.0) refl,
        ap (λ v. with_value v (values_after m h c os)) one.1 ∙ ap (with_value (value_after m g c (pos o))) rest.1,
      )
  cells_same (negsuc o ∷ os) same all = absurd (both_ways (is_offset (size_after m g c) (negsuc o)) (no_negative (size_after m g c)) (and_parts (is_offset (size_after m g c) (negsuc o)) (list_all (is_offset (size_after m g c)) os) all).0)
    where
      no_negative : (s : Option ℕ) → is_offset s (negsuc o) ≡ false
      no_negative None = refl
      no_negative (Some n) = refl

-- Where the one reply is free, neither memory is marked, and the values of the cells are the same, the other reply is
-- the same.
module _ (m : MadeMemory) (full : list_all has_first_values m.coarrays ≡ true) (g h : List Entry) (i : ℕ) (owner : ImageNo) (span : Span)
    (is : holds is_values (slice_get m.coarrays span.coarray) ≡ true) (clean_g : is_marked g ≡ false) (clean_h : is_marked h ≡ false) where
  -- the values at the cells of the span are the same, if g has them
  abbrev SameThere : Type 0
  SameThere = is_within m g span ≡ true → (o : ℕ) → Within (pos o) (offsets_of span) → value_there m h span.coarray o ≡ value_there m g span.coarray o

  pub read_same : is_free (asks.Read owner span) (memory_reply m g i (asks.Read owner span)) ≡ true → SameThere
      → memory_reply m h i (asks.Read owner span) ≡ memory_reply m g i (asks.Read owner span)
  read_same free same =
      let within = read_found (is_marked g) (is_within m g span) owner span (values_after m g span.coarray (offsets_of span)) free in
      let r = cells_same m full g h span.coarray is (offsets_of span) (same within) within in
      let vs = values_after m h span.coarray (offsets_of span) in
      let ws = values_after m g span.coarray (offsets_of span) in
      ap (λ b. cond b replies.Dead (cond (is_within m h span) (replies.Values vs) replies.Absent)) clean_h
      ∙ ap (λ b. cond b (replies.Values vs) replies.Absent) r.0 ∙ ap replies.Values r.1
      ∙ sym (ap (λ b. cond b replies.Dead (cond (is_within m g span) (replies.Values ws) replies.Absent)) clean_g ∙ ap (λ b. cond b (replies.Values ws) replies.Absent) within)

  pub write_same : (vs : List Value) → is_free (asks.Write owner span vs) (memory_reply m g i (asks.Write owner span vs)) ≡ true → SameThere
      → memory_reply m h i (asks.Write owner span vs) ≡ memory_reply m g i (asks.Write owner span vs)
  write_same vs free same =
      let within = write_found (is_marked g) (is_within m g span) owner span vs free in
      let r = cells_same m full g h span.coarray is (offsets_of span) (same within) within in
      ap (λ b. cond b replies.Dead (cond (is_within m h span) replies.Done replies.Absent)) clean_h
      ∙ ap (λ b. cond b replies.Done replies.Absent) r.0
      ∙ sym (ap (λ b. cond b replies.Dead (cond (is_within m g span) replies.Done replies.Absent)) clean_g ∙ ap (λ b. cond b replies.Done replies.Absent) within)
