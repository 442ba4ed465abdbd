-- The law on reads.
use Rattle.std.proofs.Common.{◌≡◌, ℕ, ◌<◌, true, List, ◌∷◌, ◌⊎◌, inl, inr, ap, sym, subst, arith}
use Rattle.std.proofs.lemmas.Bool.{cases_eq}
use Rattle.order_theory.specs.Order.{EdgeRules, done, Begun, Sound}
use Rattle.order_theory.specs.Races.{Cell, reads, is_access, is_atomic, meets, Accesses, Stands, place, segment, Touches, NoRace, OrderedBefore, Writes, IsLatest, Justified, IsLast, ReadsLast, Forward}
use Rattle.order_theory.proofs.Classes.{defines_access, meets_read, meets_writes}
use Rattle.order_theory.proofs.Splits.{done_append}
use Rattle.order_theory.proofs.Clocks.{precedes_or_not}

module _ (E V : Type 0) (r : EdgeRules E) (sound : Sound r) (a : Accesses E V) (t : List E) (forward : Forward r a.touching t) (memory : ReadsLast r a t) (m : ℕ) (clean : NoRace r a.touching t m) where
  -- the segment of each entry has begun
  stands_begun : (x : Stands t) → Begun r.entries t (segment r a.touching t x)
  stands_begun x =
      let e = ap (done r.entries (r.entries.image_of x.event)) x.split in
      let f = done_append E r.entries (r.entries.image_of x.event) x.before (x.event ∷ x.rest) in
      omega arith

  -- Without a race two conflicting accesses of which one stands earlier are ordered.
  in_order : (x y : Stands t) (c : Cell) → Touches r a.touching t x c → Touches r a.touching t y c
      → is_access (a.touching.class_of x.event) ≡ true → is_access (a.touching.class_of y.event) ≡ true
      → meets (a.touching.class_of x.event) (a.touching.class_of y.event) ≡ true → place x < place y → place y < m → OrderedBefore r a.touching t x y
  in_order x y c p q k l meet less below =
      elim (cases_eq (r.entries.image_of x.event) (r.entries.image_of y.event)) [
        | inl s ↦ inl (s, less)
        | inr n ↦ elim (precedes_or_not E r sound t (segment r a.touching t x) (segment r a.touching t y) (stands_begun y)) [
          | inl b ↦ inr b
          | inr un ↦ absurd (clean x y less below (record {
            conflict = record { images = n; cell = c; shared = (p, q); met = meet };
            not_before = un;
            not_after = λ b. (let o = forward y x c c l k q p b in omega arith);
          }))
        ]
      ]

  -- an access that is ordered before another stands before it
  ordered_sooner : (x y : Stands t) (c : Cell) → Touches r a.touching t x c → Touches r a.touching t y c → is_access (a.touching.class_of x.event) ≡ true → is_access (a.touching.class_of y.event) ≡ true → OrderedBefore r a.touching t x y → place x < place y
  ordered_sooner x y c p q k l (inl s) = s.1
  ordered_sooner x y c p q k l (inr b) = forward x y c c k l p q b

  -- each other write that is ordered before the read is ordered before the last one, or both are atomic
  later_write : (x w : Stands t) (c : Cell) → Touches r a.touching t x c → place x < m → IsLast r a t x w c
      → is_access (a.touching.class_of w.event) ≡ true → is_access (a.touching.class_of x.event) ≡ true
      → (v : Stands t) → Writes r a.touching t v c → OrderedBefore r a.touching t v x → (place v ≡ place w → ⊥)
      → OrderedBefore r a.touching t v w ⊎ ((is_atomic (a.touching.class_of v.event) ≡ true) × (is_atomic (a.touching.class_of w.event) ≡ true) × (place v < place w))
  later_write x w c p below l aw ax v wv ev ne =
      let av = defines_access (a.touching.class_of v.event) wv.1 in
      let sooner = ordered_sooner v x c wv.0 p av ax ev in
      let bound = l.last v wv sooner in
      let less = l.sooner in
      elim (meets_writes (a.touching.class_of v.event) (a.touching.class_of w.event) wv.1 l.wrote.1) [
        | inl met ↦ inl (in_order v w c wv.0 l.wrote.0 av aw met (omega arith) (omega arith))
        | inr both ↦ inr (both.0, both.1, omega arith)
      ]

  -- the last write is the latest that is ordered before the read
  latest : (x w : Stands t) (c : Cell) → a.touching.class_of x.event ≡ reads → Touches r a.touching t x c → place x < m → IsLast r a t x w c → IsLatest r a t x w c
  latest x w c k p below l =
      let aw = defines_access (a.touching.class_of w.event) l.wrote.1 in
      let ax : is_access (a.touching.class_of x.event) ≡ true = ap is_access k in
      record {
        wrote = l.wrote;
        ordered = in_order w x c l.wrote.0 p aw ax (subst (λ z. meets (a.touching.class_of w.event) z ≡ true) (sym k) (meets_read (a.touching.class_of w.event) l.wrote.1)) l.sooner below;
        value = l.value;
        latest = λ v wv ev ne. later_write x w c p below l aw ax v wv ev ne;
      }

  -- Each read among the first m entries is justified.
  pub reads_by_any_edges : (x : Stands t) → a.touching.class_of x.event ≡ reads → place x < m → Justified r a t x
  reads_by_any_edges x k below c p =
      let ax : is_access (a.touching.class_of x.event) ≡ true = ap is_access k in
      elim (memory x c k p) [
        | inl l ↦ inl (l.0, latest x l.0 c k p below l.1)
        | inr none ↦ inr (λ w ww ew. none.0 w ww (ordered_sooner w x c ww.0 p (defines_access (a.touching.class_of w.event) ww.1) ax ew), none.1)
      ]
