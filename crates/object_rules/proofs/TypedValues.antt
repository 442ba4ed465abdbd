-- After a history that a memory served, the value of each cell that is there is of its coarray's kind.
use Rattle.std.proofs.Common.{◌≡◌, ℕ, zero, suc, Bool, true, false, ◌&&◌, IsTrue, cond, List, [], ◌∷◌, ◌++◌, length, inl, inr, refl, ap, sym, ◌∙◌, subst, append_assoc}
use Rattle.std.specs.Prelude.{ℤ, pos, ◌+ℤ◌, nat_eq, nat_lt, Option, Some, None, slice_get}
use Rattle.std.specs.List.{list_all}
use Rattle.std.specs.Int.{w64, int_bit_and, int_bit_or, int_bit_xor}
use Rattle.std.specs.Ordering.{int_eq}
use Rattle.std.proofs.lemmas.List.{append-nil}
use Rattle.std.proofs.lemmas.Bool.{cases_Bool, and_parts, eqb-true}
use Rattle.std.proofs.lemmas.Bool.Decides.{Decides-int_eq}
use Rattle.caf_base.specs.declared.place.ImageNo.{ImageNo}
use Rattle.caf_base.specs.declared.span.Span.{Span}
use Rattle.caf_base.specs.declared.value.AtomicOp.{AtomicOp}
use Rattle.caf_base.specs.declared.value.AtomicOp.TheVariants as atomics
use Rattle.caf_base.specs.declared.value.Kind.{Kind}
use Rattle.caf_base.specs.declared.value.Kind.TheVariants as kinds
use Rattle.caf_base.specs.declared.value.Value.{Value}
use Rattle.caf_base.specs.declared.value.Value.TheVariants as values
use Rattle.caf_base.specs.Spans.{offsets_of}
use Rattle.caf_events.specs.declared.ask.Ask.{Ask}
use Rattle.caf_events.specs.declared.ask.Ask.TheVariants as asks
use Rattle.caf_events.specs.declared.reply.Reply.{Reply}
use Rattle.caf_events.specs.declared.reply.Reply.TheVariants as replies
use Rattle.caf_events.specs.declared.event.Entry.{Entry}
use Rattle.caf_events.specs.Histories.{Served}
use Rattle.object_rules.specs.Scans.{or_else}
use Rattle.object_rules.specs.Folds.{fits_kind, is_of_kind}
use Rattle.object_rules.specs.SpanTests.{is_span}
use Rattle.object_rules.specs.Cells.{of_kind, Declared, MadeMemory, size_turn, size_after, first_size, is_offset, is_within, is_marked, in_kind_4, same_value, atomic_value, zero_of, atomic_written, value_beside, written, first_there, value_after}
use Rattle.object_rules.specs.MemoryRules.{holds, suits_values, has_first_values, suits_atomic, is_one_cell, is_here, is_cell_of, fits_memory, can_come, cells_there, old_or_overflow, atomic_reply, memory_ready, memory_reply}
use Rattle.object_rules.proofs.MemoryGrowing.{size_more, value_more}

-- the value is of the kind, where there is one
abbrev pub Typed : Kind → Option Value → Type 0
Typed k x = (v : Value) → x ≡ Some v → is_of_kind k v ≡ true

none_typed : (k : Kind) → Typed k None
none_typed k v e = absurd (cc)

some_typed : (k : Kind) (u : Value) → is_of_kind k u ≡ true → Typed k (Some u)
some_typed k u h v e = let s : u ≡ v = cc in subst (λ z. is_of_kind k z ≡ true) s h

or_typed : (k : Kind) (x y : Option Value) → Typed k x → Typed k y → Typed k (or_else x y)
or_typed k None y p q = q
or_typed k (Some u) y p q = p

cond_typed : (k : Kind) (b : Bool) (x y : Option Value) → Typed k x → Typed k y → Typed k (cond b x y)
cond_typed k true x y p q = p
cond_typed k false x y p q = q

in_4 : (n : ℤ) → Typed kinds.I4 (in_kind_4 n)
in_4 n = by_test (fits_kind kinds.I4 n) refl
  where
    by_test : (b : Bool) → fits_kind kinds.I4 n ≡ b → Typed kinds.I4 (cond b (Some (values.Int n)) None)
    by_test true e = some_typed kinds.I4 (values.Int n) e
    by_test false e = none_typed kinds.I4

-- an atomic action leaves a value of the coarray's kind
atomic_typed : (op : AtomicOp) (k : Kind) (now x y : Value) → suits_atomic op x y (of_kind k) ≡ true → is_of_kind k now ≡ true → Typed k (atomic_value op now x y)
atomic_typed op kinds.I8 now x y s t = absurd (cc)
atomic_typed atomics.Ref kinds.I4 now x y s t = some_typed kinds.I4 now t
atomic_typed atomics.Ref kinds.L4 now x y s t = some_typed kinds.L4 now t
atomic_typed atomics.Define kinds.I4 now (values.Int n) y s t = in_4 n
atomic_typed atomics.Define kinds.I4 now (values.Bool b) y s t = absurd (cc)
atomic_typed atomics.Define kinds.L4 now (values.Int n) y s t = absurd (cc)
atomic_typed atomics.Define kinds.L4 now (values.Bool b) y s t = some_typed kinds.L4 (values.Bool b) refl
atomic_typed atomics.Cas kinds.I4 now x (values.Int n) s t = cond_typed kinds.I4 (same_value now x) (in_kind_4 n) (Some now) (in_4 n) (some_typed kinds.I4 now t)
atomic_typed atomics.Cas kinds.I4 now (values.Int m) (values.Bool b) s t = absurd (cc)
atomic_typed atomics.Cas kinds.I4 now (values.Bool c) (values.Bool b) s t = absurd (cc)
atomic_typed atomics.Cas kinds.L4 now (values.Int m) (values.Int n) s t = absurd (cc)
atomic_typed atomics.Cas kinds.L4 now (values.Bool c) (values.Int n) s t = absurd (cc)
atomic_typed atomics.Cas kinds.L4 now x (values.Bool b) s t = cond_typed kinds.L4 (same_value now x) (Some (values.Bool b)) (Some now) (some_typed kinds.L4 (values.Bool b) refl) (some_typed kinds.L4 now t)
atomic_typed atomics.Add kinds.L4 now x y s t = absurd (cc)
atomic_typed atomics.Add kinds.I4 (values.Bool a) x y s t = absurd (cc)
atomic_typed atomics.Add kinds.I4 (values.Int a) (values.Bool b) y s t = absurd (cc)
atomic_typed atomics.Add kinds.I4 (values.Int a) (values.Int b) y s t = in_4 (a +ℤ b)
atomic_typed atomics.And kinds.L4 now x y s t = absurd (cc)
atomic_typed atomics.And kinds.I4 (values.Bool a) x y s t = absurd (cc)
atomic_typed atomics.And kinds.I4 (values.Int a) (values.Bool b) y s t = absurd (cc)
atomic_typed atomics.And kinds.I4 (values.Int a) (values.Int b) y s t = in_4 (int_bit_and w64 a b)
atomic_typed atomics.Or kinds.L4 now x y s t = absurd (cc)
atomic_typed atomics.Or kinds.I4 (values.Bool a) x y s t = absurd (cc)
atomic_typed atomics.Or kinds.I4 (values.Int a) (values.Bool b) y s t = absurd (cc)
atomic_typed atomics.Or kinds.I4 (values.Int a) (values.Int b) y s t = in_4 (int_bit_or w64 a b)
atomic_typed atomics.Xor kinds.L4 now x y s t = absurd (cc)
atomic_typed atomics.Xor kinds.I4 (values.Bool a) x y s t = absurd (cc)
atomic_typed atomics.Xor kinds.I4 (values.Int a) (values.Bool b) y s t = absurd (cc)
atomic_typed atomics.Xor kinds.I4 (values.Int a) (values.Int b) y s t = in_4 (int_bit_xor w64 a b)

-- the value that an atomic action replies is that of its cell
old_told : (now old : Value) (w : Option Value) → replies.Old old ≡ old_or_overflow now w → now ≡ old
old_told now old None e = absurd (cc)
old_told now old (Some w) e = cc

pub old_is : (marked there : Bool) (op : AtomicOp) (x y old : Value) (v : Option Value) → replies.Old old ≡ cond marked replies.Dead (cond there (atomic_reply op x y v) replies.Absent) → v ≡ Some old
old_is true there op x y old v e = absurd (cc)
old_is false false op x y old v e = absurd (cc)
old_is false true op x y old None e = absurd (cc)
old_is false true op x y old (Some now) e = ap Some (old_told now old (atomic_value op now x y) e)

beside_typed : (k : Kind) (o : ℤ) (os : List ℤ) (vs : List Value) → list_all (is_of_kind k) vs ≡ true → Typed k (value_beside o os vs)
beside_typed k o [] vs h = none_typed k
beside_typed k o (x ∷ xs) [] h = none_typed k
beside_typed k o (x ∷ xs) (v ∷ vs) h =
    let p = and_parts (is_of_kind k v) (list_all (is_of_kind k) vs) h in
    or_typed k (value_beside o xs vs) (cond (int_eq x o) (Some v) None) (beside_typed k o xs vs p.1) (cond_typed k (int_eq x o) (Some v) None (some_typed k v p.0) (none_typed k))

get_typed : (k : Kind) (vs : List Value) (o : ℕ) → list_all (is_of_kind k) vs ≡ true → Typed k (slice_get vs o)
get_typed k [] o h = none_typed k
get_typed k (v ∷ vs) zero h = some_typed k v (and_parts (is_of_kind k v) (list_all (is_of_kind k) vs) h).0
get_typed k (v ∷ vs) (suc o) h = get_typed k vs o (and_parts (is_of_kind k v) (list_all (is_of_kind k) vs) h).1

zero_typed : (k : Kind) → is_of_kind k (zero_of (of_kind k)) ≡ true
zero_typed kinds.I4 = refl
zero_typed kinds.I8 = refl
zero_typed kinds.L4 = refl

pos_same : (a b : ℕ) → pos a ≡ pos b → a ≡ b
pos_same a b e = cc

module _ (m : MadeMemory) (c : ℕ) (d : Declared) (there : slice_get m.coarrays c ≡ Some d) (k : Kind) (kind : d.content ≡ of_kind k) (o : ℕ) where
  -- the cell is there and its value of the kind
  abbrev TypedAt : List Entry → Type 0
  TypedAt h = is_offset (size_after m h c) (pos o) ≡ true → Typed k (value_after m h c (pos o))

  first_by : (b : Bool) → d.allocatable ≡ b → has_first_values d ≡ true → is_offset (cond b None (Some d.cells)) (pos o) ≡ true → Typed k (value_after m [] c (pos o))
  first_by true e full q = absurd (cc)
  first_by false e full q =
      let both : (nat_eq (length d.first) d.cells && list_all (is_of_kind k) d.first) ≡ true = rw (e, kind) at full in
      subst (Typed k) (sym (ap (first_there (pos o)) there)) (get_typed k d.first o (and_parts (nat_eq (length d.first) d.cells) (list_all (is_of_kind k) d.first) both).1)

  first_typed : has_first_values d ≡ true → TypedAt []
  first_typed full q = first_by d.allocatable refl full (subst (λ z. is_offset (first_size z) (pos o) ≡ true) there q)

  module _ (h : List Entry) (i : ℕ) (old : TypedAt h) where
    write_typed : (owner : ImageNo) (span : Span) (vs : List Value) (r : Reply) → IsTrue (memory_ready m h i (asks.Write owner span vs)) → Typed k (written m c (pos o) (asks.Write owner span vs) r)
    write_typed owner span vs replies.Done ready = elim (cases_Bool (nat_eq span.coarray c)) [
      | inl t ↦ (
          let fits = (and_parts (fits_memory m h i (asks.Write owner span vs)) (can_come h (cells_there m h (asks.Write owner span vs)) i (asks.Write owner span vs)) ready).0 in
          let suits = (and_parts (is_here m owner && is_span span && nat_eq (length vs) (length (offsets_of span))) (holds (suits_values vs) (slice_get m.coarrays span.coarray)) fits).1 in
          let all = subst (λ z. suits_values vs z ≡ true) kind (subst (λ z. holds (suits_values vs) z ≡ true) (ap (slice_get m.coarrays) (eqb-true span.coarray c t) ∙ there) suits) in
          rw t (beside_typed k (pos o) (offsets_of span) vs all))
      | inr f ↦ rw f (none_typed k)
    ]
    write_typed owner span vs r ready = none_typed k

    atomic_here : (owner : ImageNo) (op : AtomicOp) (span : Span) (x y : Value) (r : Reply) → span.coarray ≡ c → span.start ≡ o → IsTrue (memory_ready m h i (asks.Atomic owner op span x y)) → r ≡ memory_reply m h i (asks.Atomic owner op span x y)
        → Typed k (value_after m h c (pos o)) → Typed k (atomic_written op x y r)
    atomic_here owner op span x y (replies.Old now) same at ready due before =
        let fits = (and_parts (fits_memory m h i (asks.Atomic owner op span x y)) (can_come h (cells_there m h (asks.Atomic owner op span x y)) i (asks.Atomic owner op span x y)) ready).0 in
        let suits = (and_parts (is_one_cell span) (holds (suits_atomic op x y) (slice_get m.coarrays span.coarray)) (and_parts (is_here m owner) (is_cell_of m (suits_atomic op x y) span) fits).1).1 in
        let told = old_is (is_marked h) (is_within m h span) op x y now (value_after m h span.coarray (pos span.start)) due in
        let value : value_after m h c (pos o) ≡ Some now = ap (λ z. value_after m h z (pos o)) (sym same) ∙ ap (λ z. value_after m h span.coarray (pos z)) (sym at) ∙ told in
        atomic_typed op k now x y (subst (λ z. suits_atomic op x y z ≡ true) kind (subst (λ z. holds (suits_atomic op x y) z ≡ true) (ap (slice_get m.coarrays) same ∙ there) suits)) (before now value)
    atomic_here owner op span x y r same at ready due before = none_typed k

    turned_typed : (a : Ask) (r : Reply) → IsTrue (memory_ready m h i a) → r ≡ memory_reply m h i a → is_offset (size_turn c (size_after m h c) a) (pos o) ≡ true → Typed k (or_else (written m c (pos o) a r) (value_after m h c (pos o)))
    turned_typed (asks.Write owner span vs) r ready due q = or_typed k (written m c (pos o) (asks.Write owner span vs) r) (value_after m h c (pos o)) (write_typed owner span vs r ready) (old q)
    turned_typed (asks.Atomic owner op span x y) r ready due q = or_typed k (written m c (pos o) (asks.Atomic owner op span x y) r) (value_after m h c (pos o))
        (elim (cases_Bool (nat_eq span.coarray c && int_eq (pos span.start) (pos o))) [
          | inl t ↦ (
              let p = and_parts (nat_eq span.coarray c) (int_eq (pos span.start) (pos o)) t in
              rw t (atomic_here owner op span x y r (eqb-true span.coarray c p.0) (pos_same span.start o ((Decides-int_eq (pos span.start) (pos o)).0 p.1)) ready due (old q)))
          | inr f ↦ rw f (none_typed k)
        ]) (old q)
    turned_typed (asks.Create owner j cells) r ready due q = elim (cases_Bool (nat_eq j c)) [
      | inl t ↦ (let here : nat_lt o cells ≡ true = rw t at q in rw (t, here, there) (some_typed k (zero_of d.content) (subst (λ z. is_of_kind k (zero_of z) ≡ true) (sym kind) (zero_typed k))))
      | inr f ↦ rw f (old (rw f at q))
    ]
    turned_typed (asks.Delete owner j) r ready due q = elim (cases_Bool (nat_eq j c)) [
      | inl t ↦ absurd (let w : false ≡ true = rw t at q in cc)
      | inr f ↦ old (rw f at q)
    ]
    turned_typed a r ready due q = old q

  more_typed : (h : List Entry) (e : Entry) → TypedAt h → IsTrue (memory_ready m h e.image.0 e.event.ask) → e.event.reply ≡ memory_reply m h e.image.0 e.event.ask → TypedAt (h ++ e ∷ [])
  more_typed h e old ready due q = subst (Typed k) (sym (value_more m h e c (pos o))) (turned_typed h e.image.0 old e.event.ask e.event.reply ready due (subst (λ z. is_offset z (pos o) ≡ true) (size_more m h e c) q))

  all_typed : (b es : List Entry) → TypedAt b → Served (memory_ready m) (memory_reply m) b es → TypedAt (b ++ es)
  all_typed b [] old s = subst TypedAt (sym (append-nil b)) old
  all_typed b (e ∷ es) old s = subst TypedAt (append_assoc b (e ∷ []) es) (all_typed (b ++ e ∷ []) es (more_typed b e old s.0 s.1) s.2)

  -- the value of a cell that is there is of the kind
  pub value_typed : has_first_values d ≡ true → (h : List Entry) → Served (memory_ready m) (memory_reply m) [] h → is_offset (size_after m h c) (pos o) ≡ true → Typed k (value_after m h c (pos o))
  value_typed full h s = all_typed [] h (first_typed full) s
