-- The rule of memory, from what a memory's values are after some entries: a value stays while no entry defines its
-- cell, and a read gives the value of its cell.
use Rattle.std.proofs.Common.{◌≡◌, ◌+◌, ◌<◌, ◌≤◌, Bool, true, false, ◌&&◌, List, [], ◌∷◌, ◌++◌, ◌⊎◌, length, inl, inr, refl, ap, sym, ◌∙◌, subst, arith, append_assoc, length-append}
use Rattle.std.proofs.lemmas.List.{append-nil}
use Rattle.std.proofs.lemmas.Bool.{cases_Bool, cases_lt, and_parts, both_ways}
use Rattle.order_theory.specs.Order.{EdgeRules, Within}
use Rattle.order_theory.specs.Races.{Cell, touches_cell, defines, reads, Accesses, Stands, place, Touches, Writes, IsLast, ReadsLast}
use Rattle.order_theory.proofs.Splits.{fronts_at}
use Rattle.order_theory.proofs.Seen.{touches_tells, touches_from}

module _ (E V : Type 0) (r : EdgeRules E) (a : Accesses E V) (value : List E → Cell → V) where
  -- the entry e after g writes the cell
  abbrev writes_cell : List E → E → Cell → Bool
  writes_cell g e c = touches_cell c (a.touching.cells g e) && defines (a.touching.class_of e)

  -- What is needed of the trace t, with the value of each cell after some entries.
  pub record HasValues (t : List E) : Type 0 where
    pub leaves_is : (g h : List E) (e : E) (c : Cell) → t ≡ g ++ e ∷ h → a.leaves g e c ≡ value (g ++ e ∷ []) c
    pub first_is : (c : Cell) → a.first_value c ≡ value [] c
    pub kept : (g h : List E) (e : E) (c : Cell) → t ≡ g ++ e ∷ h → writes_cell g e c ≡ false → value (g ++ e ∷ []) c ≡ value g c
    pub gives : (x : Stands t) (c : Cell) → a.touching.class_of x.event ≡ reads → Touches r a.touching t x c → a.gives x.event c ≡ value x.before c

  -- no entry of es, after b, writes the cell
  abbrev NoneWrites : Cell → List E → List E → Type 0
  NoneWrites c b [] = Unit {0}
  NoneWrites c b (e ∷ es) = (writes_cell b e c ≡ false) × NoneWrites c (b ++ e ∷ []) es

  -- the last entry of es, after b, that writes the cell
  record LastWriter (c : Cell) (b es : List E) : Type 0 where
    pub before : List E
    pub event : E
    pub rest : List E
    pub split : es ≡ before ++ event ∷ rest
    pub writes : writes_cell (b ++ before) event c ≡ true
    pub none : NoneWrites c (b ++ before ++ event ∷ []) rest

  later_writer : (c : Cell) (b es : List E) (e : E) → LastWriter c (b ++ e ∷ []) es → LastWriter c b (e ∷ es)
  later_writer c b es e w = record {
    before = e ∷ w.before;
    event = w.event;
    rest = w.rest;
    split = ap (λ z. e ∷ z) w.split;
    writes = subst (λ z. writes_cell z w.event c ≡ true) (append_assoc b (e ∷ []) w.before) w.writes;
    none = subst (λ z. NoneWrites c (z ++ w.event ∷ []) w.rest) (append_assoc b (e ∷ []) w.before) w.none;
  }

  last_writer : (c : Cell) (b es : List E) → LastWriter c b es ⊎ NoneWrites c b es
  last_writer c b [] = inr tt
  last_writer c b (e ∷ es) = elim (last_writer c (b ++ e ∷ []) es) [
    | inl w ↦ inl (later_writer c b es e w)
    | inr none ↦ elim (cases_Bool (writes_cell b e c)) [
      | inl t ↦ inl (record { before = []; event = e; rest = es; split = refl; writes = subst (λ z. writes_cell z e c ≡ true) (sym (append-nil b)) t; none = subst (λ z. NoneWrites c (z ++ e ∷ []) es) (sym (append-nil b)) none })
      | inr f ↦ inr (f, none)
    ]
  ]

  -- an entry that writes the cell is none of those of which none does
  not_among : (c : Cell) (b u : List E) (e : E) (v : List E) → NoneWrites c b (u ++ e ∷ v) → writes_cell (b ++ u) e c ≡ false
  not_among c b [] e v n = subst (λ z. writes_cell z e c ≡ false) (sym (append-nil b)) n.0
  not_among c b (x ∷ u) e v n = subst (λ z. writes_cell z e c ≡ false) (append_assoc b (x ∷ []) u) (not_among c (b ++ x ∷ []) u e v n.1)

  module _ (t : List E) (has : HasValues t) where
    -- the value stays while none writes the cell
    stays : (c : Cell) (b es h : List E) → t ≡ b ++ es ++ h → NoneWrites c b es → value (b ++ es) c ≡ value b c
    stays c b [] h s n = ap (λ z. value z c) (append-nil b)
    stays c b (e ∷ es) h s n =
        ap (λ z. value z c) (sym (append_assoc b (e ∷ []) es)) ∙ stays c (b ++ e ∷ []) es h (s ∙ ap (λ z. z ++ h) (sym (append_assoc b (e ∷ []) es))) n.1
        ∙ has.kept b (es ++ h) e c (s ∙ append_assoc b (e ∷ es) h) n.0

    writes_tells : (c : Cell) (g : List E) (e : E) → writes_cell g e c ≡ true → Within c (a.touching.cells g e) × (defines (a.touching.class_of e) ≡ true)
    writes_tells c g e h = let p = and_parts (touches_cell c (a.touching.cells g e)) (defines (a.touching.class_of e)) h in (touches_tells c (a.touching.cells g e) p.0, p.1)

    writes_from : (c : Cell) (g : List E) (e : E) → Within c (a.touching.cells g e) → defines (a.touching.class_of e) ≡ true → writes_cell g e c ≡ true
    writes_from c g e w d = rw (touches_from c (a.touching.cells g e) w, d) refl

    -- a write that stands before the read is not behind the last one
    after_none : (c : Cell) (x : Stands t) (l : LastWriter c [] x.before) → length x.before ≡ length l.before + length (l.event ∷ l.rest) → t ≡ l.before ++ l.event ∷ (l.rest ++ x.event ∷ x.rest)
        → (v : Stands t) → Writes r a.touching t v c → place v < place x → place v ≤ length l.before
    after_none c x l size whole v vw short =
        elim (cases_lt (length l.before) (place v)) [
          | inr m ↦ m
          | inl m ↦ (
              let f = fronts_at E v.before v.rest x.before (x.event ∷ x.rest) v.event (sym v.split ∙ x.split) short in
              let g = fronts_at E l.before l.rest v.before (v.event ∷ f.0) l.event (sym l.split ∙ f.1) m in
              let n = subst (λ z. NoneWrites c (l.before ++ l.event ∷ []) z) g.2 l.none in
              let e = not_among c (l.before ++ l.event ∷ []) g.0 v.event f.0 n in
              let here : l.before ++ l.event ∷ g.0 ≡ (l.before ++ l.event ∷ []) ++ g.0 = sym (append_assoc l.before (l.event ∷ []) g.0) in
              let w = writes_from c v.before v.event vw.0 vw.1 in
              absurd (both_ways (writes_cell v.before v.event c) (subst (λ z. writes_cell z v.event c ≡ false) (sym (g.1 ∙ here)) e) w))
        ]

    -- the last write before a read
    of_last : (x : Stands t) (c : Cell) → a.touching.class_of x.event ≡ reads → Touches r a.touching t x c → LastWriter c [] x.before → (w : Stands t) × IsLast r a t x w c
    of_last x c k touch l =
        let whole : t ≡ l.before ++ l.event ∷ (l.rest ++ x.event ∷ x.rest) = x.split ∙ ap (λ z. z ++ x.event ∷ x.rest) l.split ∙ append_assoc l.before (l.event ∷ l.rest) (x.event ∷ x.rest) in
        let w : Stands t = record { before = l.before; event = l.event; rest = l.rest ++ x.event ∷ x.rest; split = whole } in
        let size = ap length l.split ∙ length-append l.before (l.event ∷ l.rest) in
        let wrote = writes_tells c l.before l.event l.writes in
        let same : value x.before c ≡ value (l.before ++ l.event ∷ []) c =
        ap (λ z. value z c) (l.split ∙ sym (append_assoc l.before (l.event ∷ []) l.rest))
        ∙ stays c (l.before ++ l.event ∷ []) l.rest (x.event ∷ x.rest) (x.split ∙ ap (λ z. z ++ x.event ∷ x.rest) (l.split ∙ sym (append_assoc l.before (l.event ∷ []) l.rest))) l.none in (
          w,
          record {
            wrote = wrote;
            sooner = omega arith;
            value = has.gives x c k touch ∙ same ∙ sym (has.leaves_is l.before (l.rest ++ x.event ∷ x.rest) l.event c whole);
            last = λ v vw short. after_none c x l size whole v vw short;
          },
        )

    -- The rule of memory.
    pub reads_last : ReadsLast r a t
    reads_last x c k touch = elim (last_writer c [] x.before) [
      | inl l ↦ inl (of_last x c k touch l)
      | inr none ↦ inr (
        (λ w ww short.
            let f = fronts_at E w.before w.rest x.before (x.event ∷ x.rest) w.event (sym w.split ∙ x.split) short in
            let e = not_among c [] w.before w.event f.0 (subst (λ z. NoneWrites c [] z) f.1 none) in
            both_ways (writes_cell w.before w.event c) e (writes_from c w.before w.event ww.0 ww.1)),
        has.gives x c k touch ∙ stays c [] x.before (x.event ∷ x.rest) x.split none ∙ sym (has.first_is c),
      )
    ]
