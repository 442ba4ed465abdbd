-- Own lists of a trace and of what follows it: the same entries of one image, and how many segments they complete.
use Rattle.std.proofs.Common.{◌≡◌, ℕ, zero, suc, ◌+◌, ◌<◌, ◌≤◌, true, false, nat_eq, cond, List, [], ◌∷◌, ◌++◌, length, map, inl, inr, refl, ap, sym, ◌∙◌, subst, arith, append_assoc, length-append}
use Rattle.std.proofs.lemmas.List.{map-append, length-map}
use Rattle.std.proofs.lemmas.List.Elements.{filter-append}
use Rattle.std.proofs.lemmas.Bool.{eq-eqb, cases_lt, cases_Bool, eqb-true}
use Rattle.order_theory.specs.Order.{done, segment_of}
use Rattle.order_theory.specs.Races.{Stands}
use Rattle.order_theory.specs.Acts.{View, entries, completing}
use Rattle.order_theory.specs.Facts.{own_list}
use Rattle.order_theory.proofs.Splits.{fronts, same_fronts}
use Rattle.order_cuts.specs.Cuts.{Likeness, marks, Follows, own_place, IsInside, IsSame}

module _ (E S : Type 0) (v : View E) (k : Likeness v S) where
  -- how many segments entries with these marks complete
  abbrev pub done_by : List S → ℕ
  done_by [] = 0
  done_by (s ∷ ss) = cond (completing (k.act_by s)) 1 0 + done_by ss

  pub done_by_append : (a b : List S) → done_by (a ++ b) ≡ done_by a + done_by b
  done_by_append [] b = omega arith
  done_by_append (s ∷ a) b = let e = done_by_append a b in omega arith

  -- the marks of an image's list tell how many segments of it are completed
  pub done_is : (i : ℕ) (g : List E) → done (entries v) i g ≡ done_by (marks v k i g)
  done_is i [] = refl
  done_is i (e ∷ g) =
      let h = done_is i g in
      elim (cases_Bool (nat_eq (v.image e) i)) [
        | inl a ↦ (let c = ap completing (k.tells e) in rw (a, c) (omega arith))
        | inr a ↦ rw a (omega arith)
      ]

  -- an image's list at one of its entries
  own_at : (t : List E) (x : Stands t) → own_list v (v.image x.event) t ≡ own_list v (v.image x.event) x.before ++ x.event ∷ own_list v (v.image x.event) x.rest
  own_at t x =
      ap (own_list v (v.image x.event)) x.split ∙ filter-append (λ y. nat_eq (v.image y) (v.image x.event)) x.before (x.event ∷ x.rest)
      ∙ ap (λ b. own_list v (v.image x.event) x.before ++ cond b (x.event ∷ own_list v (v.image x.event) x.rest) (own_list v (v.image x.event) x.rest)) (eq-eqb (v.image x.event) (v.image x.event) refl)

  -- and its marks
  pub marks_at : (t : List E) (x : Stands t) → marks v k (v.image x.event) t ≡ marks v k (v.image x.event) x.before ++ k.mark x.event ∷ marks v k (v.image x.event) x.rest
  marks_at t x = ap (map k.mark) (own_at t x) ∙ map-append k.mark (own_list v (v.image x.event) x.before) (x.event ∷ own_list v (v.image x.event) x.rest)

  -- an entry that stands has its place among its image's
  pub placed : (t : List E) (x : Stands t) → own_place v k x < length (own_list v (v.image x.event) t)
  placed t x = let e = ap length (own_at t x) in let l = length-append (own_list v (v.image x.event) x.before) (x.event ∷ own_list v (v.image x.event) x.rest) in omega arith

  -- one entry behind another one
  own_later : (i m : ℕ) (e : E) (t : List E) → nat_eq (v.image e) i ≡ true → (y : Stands t) × (v.image y.event ≡ i) × (length (own_list v i y.before) ≡ m)
      → (y : Stands (e ∷ t)) × (v.image y.event ≡ i) × (length (own_list v i y.before) ≡ suc m)
  own_later i m e t a (y, b, c) = (record { before = e ∷ y.before; event = y.event; rest = y.rest; split = ap (λ z. e ∷ z) y.split }, b, rw a (ap suc c))

  others_later : (i m : ℕ) (e : E) (t : List E) → nat_eq (v.image e) i ≡ false → (y : Stands t) × (v.image y.event ≡ i) × (length (own_list v i y.before) ≡ m)
      → (y : Stands (e ∷ t)) × (v.image y.event ≡ i) × (length (own_list v i y.before) ≡ m)
  others_later i m e t a (y, b, c) = (record { before = e ∷ y.before; event = y.event; rest = y.rest; split = ap (λ z. e ∷ z) y.split }, b, rw a c)

  -- the entry at each such place
  pub at_place : (i m : ℕ) (t : List E) → m < length (own_list v i t) → (y : Stands t) × (v.image y.event ≡ i) × (length (own_list v i y.before) ≡ m)
  at_place i m [] l = absurd (omega arith)
  at_place i zero (e ∷ t) l =
      elim (cases_Bool (nat_eq (v.image e) i)) [
        | inl a ↦ (record { before = []; event = e; rest = t; split = refl }, eqb-true (v.image e) i a, refl)
        | inr a ↦ others_later i zero e t a (at_place i zero t (rw a at l))
      ]
  at_place i (suc m) (e ∷ t) l =
      elim (cases_Bool (nat_eq (v.image e) i)) [
        | inl a ↦ own_later i m e t a (at_place i m t (let h = rw a at l in omega arith))
        | inr a ↦ others_later i (suc m) e t a (at_place i (suc m) t (rw a at l))
      ]

  module _ (t f : List E) (fol : Follows v k t f) where
    -- two entries that are the same have the same marks before them, and the same mark
    pub same_marks : (x : Stands t) (y : Stands f) → IsSame v k x y → (marks v k (v.image x.event) x.before ≡ marks v k (v.image x.event) y.before) × (k.mark x.event ≡ k.mark y.event)
    same_marks x y s =
        let i = v.image x.event in
        let mine : marks v k i t ≡ marks v k i x.before ++ k.mark x.event ∷ marks v k i x.rest = marks_at t x in
        let yours : marks v k i f ≡ marks v k i y.before ++ k.mark y.event ∷ marks v k i y.rest = subst (λ j. marks v k j f ≡ marks v k j y.before ++ k.mark y.event ∷ marks v k j y.rest) (sym s.image) (marks_at f y) in
        let whole : marks v k i x.before ++ k.mark x.event ∷ marks v k i x.rest ≡ marks v k i y.before ++ k.mark y.event ∷ (marks v k i y.rest ++ fol.left i) =
        sym mine ∙ fol.splits i ∙ ap (λ z. z ++ fol.left i) yours ∙ append_assoc (marks v k i y.before) (k.mark y.event ∷ marks v k i y.rest) (fol.left i) in
        let long : length (own_list v i x.before) ≡ length (own_list v i y.before) = s.own ∙ ap (λ j. length (own_list v j y.before)) (sym s.image) in
        let size : length (marks v k i x.before) ≡ length (marks v k i y.before) = length-map (own_list v i x.before) k.mark ∙ long ∙ sym (length-map (own_list v i y.before) k.mark) in
        let both = same_fronts S (marks v k i x.before) (k.mark x.event ∷ marks v k i x.rest) (marks v k i y.before) (k.mark y.event ∷ (marks v k i y.rest ++ fol.left i)) whole size in
        let tails = both.1 in
        let heads : k.mark x.event ≡ k.mark y.event = cc in
        (both.0, heads)

    -- they act alike, in the same segment
    pub same_act : (x : Stands t) (y : Stands f) → IsSame v k x y → v.act x.event ≡ v.act y.event
    same_act x y s = k.tells x.event ∙ ap k.act_by (same_marks x y s).1 ∙ sym (k.tells y.event)

    pub same_done : (x : Stands t) (y : Stands f) → IsSame v k x y → done (entries v) (v.image x.event) x.before ≡ done (entries v) (v.image y.event) y.before
    same_done x y s =
        done_is (v.image x.event) x.before ∙ ap done_by (same_marks x y s).0 ∙ sym (done_is (v.image x.event) y.before) ∙ ap (λ j. done (entries v) j y.before) s.image

    pub same_segment : (x : Stands t) (y : Stands f) → IsSame v k x y → segment_of (entries v) x.before x.event ≡ segment_of (entries v) y.before y.event
    same_segment x y s = ap (λ j. record { image = j; number = done (entries v) (v.image x.event) x.before }) s.image ∙ ap (λ n. record { image = v.image y.event; number = n }) (same_done x y s)

    -- an entry that is inside is there
    pub there : (x : Stands t) → IsInside v k f x → (y : Stands f) × IsSame v k x y
    there x l = let r = at_place (v.image x.event) (own_place v k x) f l in (r.0, record { image = sym r.1; own = sym r.2 ∙ ap (λ j. length (own_list v j r.0.before)) (sym r.1) })

    -- f has no more of an image than t
    pub no_more : (i : ℕ) → length (own_list v i f) ≤ length (own_list v i t)
    no_more i =
        let a = ap length (fol.splits i) ∙ length-append (marks v k i f) (fol.left i) in
        let b = length-map (own_list v i t) k.mark in
        let c = length-map (own_list v i f) k.mark in
        omega arith

    -- each entry of f is one of t
    pub known : (y : Stands f) → (x : Stands t) × IsSame v k x y
    known y =
        let p = placed f y in
        let m = no_more (v.image y.event) in
        let r = at_place (v.image y.event) (own_place v k y) t (omega arith) in
        (r.0, record { image = r.1; own = ap (λ j. length (own_list v j r.0.before)) r.1 ∙ r.2 })

    -- an entry before which fewer segments are completed than in f is inside
    pub inside_by_done : (x : Stands t) → done (entries v) (v.image x.event) x.before < done (entries v) (v.image x.event) f → IsInside v k f x
    inside_by_done x l =
        elim (cases_lt (own_place v k x) (length (own_list v (v.image x.event) f))) [
          | inl m ↦ m
          | inr m ↦ (
              let i = v.image x.event in
              let a = length-map (own_list v i x.before) k.mark in
              let b = length-map (own_list v i f) k.mark in
              let p = fronts S (marks v k i f) (fol.left i) (marks v k i x.before) (k.mark x.event ∷ marks v k i x.rest) (sym (fol.splits i) ∙ marks_at t x) (omega arith) in
              let d = done_is i x.before ∙ ap done_by p.1 ∙ done_by_append (marks v k i f) p.0 in
              let e = done_is i f in
              absurd (omega arith))
        ]
