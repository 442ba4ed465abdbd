-- The least number that is in two lists, and the least cell that two entries share.
use Rattle.std.proofs.Common.{◌≡◌, ℕ, ◌+◌, ◌<◌, min, Bool, true, false, nat_eq, ◌&&◌, ◌||◌, cond, List, [], ◌∷◌, ◌++◌, length, get_or, take, ◌⊎◌, inl, inr, refl, ap, sym, ◌∙◌, subst, arith}
use Rattle.std.specs.Prelude.{Option, Some, None}
use Rattle.std.proofs.lemmas.Bool.{eq-eqb, eqb-true, cases_lt, or_cases, or_left, or_right, and_parts, both_ways}
use Rattle.std.proofs.lemmas.List.{take_more}
use Rattle.caf_events.specs.declared.event.Entry.{Entry}
use Rattle.order_theory.specs.Order.{Within}
use Rattle.order_theory.specs.Races.{Cell, meets}
use Rattle.order_axioms.specs.Touching.{class_of, cells_of}
use Rattle.race_watch.specs.declared.touch.Touch.{Touch}
use Rattle.race_watch.specs.Classes.{as_class}
use Rattle.race_watch.specs.Touched.{IsTouch}
use Rattle.race_watch.specs.Rows.{is_in}
use Rattle.race_watch.specs.RowCells.{row_cells}
use Rattle.race_watch.proofs.Noting.{is_in_append}
use Rattle.race_watch.proofs.Marking.{row_tells}
use Rattle.race_search.specs.Partners.{LeastIn, lesser_of, may_meet, Meet, LeastShared}

in_front : (k x : ℕ) (ps : List ℕ) → is_in k ps ≡ true → is_in k (ps ++ x ∷ []) ≡ true
in_front k x ps h = is_in_append k ps (x ∷ []) ∙ or_left (is_in k ps) (nat_eq k x || false) h

at_end : (x : ℕ) (ps : List ℕ) → is_in x (ps ++ x ∷ []) ≡ true
at_end x ps = is_in_append x ps (x ∷ []) ∙ or_right (is_in x ps) (nat_eq x x || false) (or_left (nat_eq x x) false (eq-eqb x x refl))

of_both : (k x : ℕ) (ps : List ℕ) → is_in k (ps ++ x ∷ []) ≡ true → (is_in k ps ≡ true) ⊎ (k ≡ x)
of_both k x ps h = elim (or_cases (is_in k ps) (nat_eq k x || false) (sym (is_in_append k ps (x ∷ [])) ∙ h)) [
  | inl a ↦ inl a
  | inr b ↦ elim (or_cases (nat_eq k x) false b) [ inl e ↦ inr (eqb-true k x e) | inr z ↦ absurd (cc) ]
]

least_by : (ps : List ℕ) (x : ℕ) (ys : List ℕ) (o : Option ℕ) (b : Bool) → is_in x ys ≡ b → LeastIn ps ys o → LeastIn (ps ++ x ∷ []) ys (cond b (lesser_of o x) o)
least_by ps x ys (Some k) true e h =
    elim (cases_lt x k) [
      | inl l ↦ (
          let m : x ≡ min k x = omega arith in
          subst (λ z. LeastIn (ps ++ x ∷ []) ys (Some z)) m
          (at_end x ps, e, λ j p q. elim (of_both j x ps p) [ inl a ↦ (let y = h.2 j a q in omega arith) | inr s ↦ omega arith ]))
      | inr l ↦ (
          let m : k ≡ min k x = omega arith in
          subst (λ z. LeastIn (ps ++ x ∷ []) ys (Some z)) m
          (in_front k x ps h.0, h.1, λ j p q. elim (of_both j x ps p) [ inl a ↦ h.2 j a q | inr s ↦ omega arith ]))
    ]
least_by ps x ys None true e h = (at_end x ps, e, λ j p q. elim (of_both j x ps p) [ inl a ↦ absurd (h j a q) | inr s ↦ omega arith ])
least_by ps x ys (Some k) false e h =
    (in_front k x ps h.0, h.1, λ j p q. elim (of_both j x ps p) [ inl a ↦ h.2 j a q | inr s ↦ absurd (both_ways (is_in x ys) e (subst (λ z. is_in z ys ≡ true) s q)) ])
least_by ps x ys None false e h = λ j p q. elim (of_both j x ps p) [ inl a ↦ h j a q | inr s ↦ both_ways (is_in x ys) e (subst (λ z. is_in z ys ≡ true) s q) ]

pub least_step : (xs : List ℕ) (i d x : ℕ) (ys : List ℕ) (o : Option ℕ) (b : Bool) → i < length xs → x ≡ get_or xs i d → b ≡ is_in x ys → LeastIn (take i xs) ys o → LeastIn (take (i + 1) xs) ys (cond b (lesser_of o x) o)
least_step xs i d x ys o b l e t h =
    subst (λ z. LeastIn z ys (cond b (lesser_of o x) o)) (ap (λ z. take i xs ++ z ∷ []) e ∙ sym (take_more xs i d l)) (least_by (take i xs) x ys o b (sym t) h)

-- a cell of a row
in_row : (o c : ℕ) (os : List ℕ) (k : ℕ) → is_in k os ≡ true → Within (record { owner = o; coarray = c; offset = k }) (row_cells o c os)
in_row o c [] k h = absurd (cc)
in_row o c (x ∷ os) k h = elim (or_cases (nat_eq k x) (is_in k os) h) [
  | inl e ↦ inl (ap (λ z. record { owner = o; coarray = c; offset = z }) (eqb-true k x e))
  | inr w ↦ inr (in_row o c os k w)
]

offset_in : (o c : ℕ) (os : List ℕ) (d : Cell) → Within d (row_cells o c os) → is_in d.offset os ≡ true
offset_in o c [] d w = absurd w
offset_in o c (x ∷ os) d (inl e) = or_left (nat_eq d.offset x) (is_in d.offset os) (eq-eqb d.offset x (ap (λ z. z.offset) e))
offset_in o c (x ∷ os) d (inr w) = or_right (nat_eq d.offset x) (is_in d.offset os) (offset_in o c os d w)

three_true : (a b c : Bool) → a ≡ true → b ≡ true → c ≡ true → (a && b && c) ≡ true
three_true a b c x y z = rw (x, y, z) refl

-- what two entries touch
module _ (n : ℕ) (b : List Entry) (x : Entry) (g : List Entry) (e : Entry) (o t : Touch) (there : IsTouch n (class_of x) (cells_of b x) o) (here : IsTouch n (class_of e) (cells_of g e) t) where
  of_there : (c : Cell) → Within c (cells_of b x) → Within c (row_cells o.owner.0 o.coarray o.cells.items)
  of_there c w = subst (Within c) there.cells_are w

  of_here : (c : Cell) → Within c (cells_of g e) → Within c (row_cells t.owner.0 t.coarray t.cells.items)
  of_here c w = subst (Within c) here.cells_are w

  -- they share no cell, or their classes don't meet
  pub never : may_meet o t ≡ false → Meet b x g e → ⊥
  never h m =
      let p = row_tells o.owner.0 o.coarray o.cells.items m.cell (of_there m.cell m.there) in
      let q = row_tells t.owner.0 t.coarray t.cells.items m.cell (of_here m.cell m.here) in
      both_ways (may_meet o t) h (three_true (nat_eq o.owner.0 t.owner.0) (nat_eq o.coarray t.coarray) (meets (as_class o.class) (as_class t.class))
      (eq-eqb o.owner.0 t.owner.0 (sym p.0 ∙ q.0)) (eq-eqb o.coarray t.coarray (sym p.1 ∙ q.1))
      (ap (λ z. meets z (as_class t.class)) there.class_is ∙ ap (meets (class_of x)) here.class_is ∙ m.met))

  -- where their classes meet in one coarray, the least offset of both tells the least cell
  pub least : may_meet o t ≡ true → (k : ℕ) → LeastIn o.cells.items t.cells.items (Some k) → (c : Cell) → c ≡ record { owner = t.owner.0; coarray = t.coarray; offset = k } → Meet b x g e × LeastShared b x g e c
  least h k l c is =
      let u = and_parts (nat_eq o.owner.0 t.owner.0 && nat_eq o.coarray t.coarray) (meets (as_class o.class) (as_class t.class)) h in
      let v = and_parts (nat_eq o.owner.0 t.owner.0) (nat_eq o.coarray t.coarray) u.0 in
      let owners = eqb-true o.owner.0 t.owner.0 v.0 in
      let coarrays = eqb-true o.coarray t.coarray v.1 in
      let of_x : Within c (cells_of b x) = subst (λ z. Within z (cells_of b x)) (ap (λ z. record { owner = z; coarray = o.coarray; offset = k }) owners ∙ ap (λ z. record { owner = t.owner.0; coarray = z; offset = k }) coarrays ∙ sym is)
      (subst (Within (record { owner = o.owner.0; coarray = o.coarray; offset = k })) (sym there.cells_are) (in_row o.owner.0 o.coarray o.cells.items k l.0)) in
      let of_e : Within c (cells_of g e) = subst (λ z. Within z (cells_of g e)) (sym is) (subst (Within (record { owner = t.owner.0; coarray = t.coarray; offset = k })) (sym here.cells_are) (in_row t.owner.0 t.coarray t.cells.items k l.1)) in
      let met = ap (λ z. meets z (class_of e)) (sym there.class_is) ∙ ap (meets (as_class o.class)) (sym here.class_is) ∙ u.1 in (
        record { cell = c; there = of_x; here = of_e; met = met },
        record {
          there = of_x;
          here = of_e;
          least_is = λ d w z.
              let q = row_tells t.owner.0 t.coarray t.cells.items d (of_here d z) in
              let m = l.2 d.offset (offset_in o.owner.0 o.coarray o.cells.items d (of_there d w)) (offset_in t.owner.0 t.coarray t.cells.items d (of_here d z)) in
              (q.0 ∙ sym (ap (λ y. y.owner) is), q.1 ∙ sym (ap (λ y. y.coarray) is), (let f = ap (λ y. y.offset) is in omega arith));
        },
      )

  -- and where there is none, they share no cell
  pub none : LeastIn o.cells.items t.cells.items None → Meet b x g e → ⊥
  none l m = l m.cell.offset (offset_in o.owner.0 o.coarray o.cells.items m.cell (of_there m.cell m.there)) (offset_in t.owner.0 t.coarray t.cells.items m.cell (of_here m.cell m.here))
