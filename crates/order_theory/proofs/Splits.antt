-- Two splits of one list, and how many segments a front of it completes.
use Rattle.std.proofs.Common.{◌≡◌, ℕ, suc, ◌+◌, ◌<◌, ◌≤◌, ◌-◌, Bool, true, false, nat_eq, ◌&&◌, cond, List, [], ◌∷◌, ◌++◌, length, inl, inr, refl, ap, sym, ◌∙◌, arith, append_assoc, length-append}
use Rattle.std.proofs.lemmas.Bool.{eq-eqb, cases_lt, cases_Bool, cases_eq, eqb-true, and_parts}
use Rattle.order_theory.specs.Order.{Segment, Entries, done, segment_of, Begun}

module _ (E : Type 0) where
  -- Of two splits of one list the shorter front is a front of the longer one.
  pub fronts : (g h g' h' : List E) → g ++ h ≡ g' ++ h' → length g ≤ length g' → (k : List E) × (g' ≡ g ++ k) × (h ≡ k ++ h')
  fronts [] h g' h' e l = (g', refl, e)
  fronts (x ∷ g) h [] h' e l = absurd (omega arith)
  fronts (x ∷ g) h (y ∷ g') h' e l =
      let heads : x ≡ y = cc in
      let tails : g ++ h ≡ g' ++ h' = cc in
      let r = fronts g h g' h' tails (omega arith) in
      (r.0, ap (λ zs. y ∷ zs) r.1 ∙ ap (λ z. z ∷ g ++ r.0) (sym heads), r.2)

  -- the same with an entry: a shorter front ends before the other's
  pub fronts_at : (g h g' h' : List E) (x : E) → g ++ x ∷ h ≡ g' ++ h' → length g < length g' → (k : List E) × (g' ≡ g ++ x ∷ k) × (h ≡ k ++ h')
  fronts_at [] h [] h' x e l = absurd (omega arith)
  fronts_at [] h (y ∷ g') h' x e l =
      let heads : x ≡ y = cc in
      let tails : h ≡ g' ++ h' = cc in
      (g', ap (λ z. z ∷ g') (sym heads), tails)
  fronts_at (z ∷ g) h [] h' x e l = absurd (omega arith)
  fronts_at (z ∷ g) h (y ∷ g') h' x e l =
      let heads : z ≡ y = cc in
      let tails : g ++ x ∷ h ≡ g' ++ h' = cc in
      let r = fronts_at g h g' h' x tails (omega arith) in
      (r.0, ap (λ zs. y ∷ zs) r.1 ∙ ap (λ w. w ∷ g ++ x ∷ r.0) (sym heads), r.2)

  module _ (r : Entries E) where
    -- two lists complete together what each completes
    pub done_append : (i : ℕ) (g h : List E) → done r i (g ++ h) ≡ done r i g + done r i h
    done_append i [] h = omega arith
    done_append i (x ∷ g) h = let e = done_append i g h in omega arith

    cond_one : (b : Bool) → cond b 1 0 ≤ 1
    cond_one true = omega arith
    cond_one false = omega arith

    -- no more segments are completed than there are entries
    pub done_length : (i : ℕ) (g : List E) → done r i g ≤ length g
    done_length i [] = omega arith
    done_length i (x ∷ g) = let h = done_length i g in let k = cond_one (nat_eq (r.image_of x) i && r.completes x) in omega arith

    -- a longer front of one list has no fewer completed segments
    pub done_front : (i : ℕ) (g h g' h' : List E) → g ++ h ≡ g' ++ h' → length g ≤ length g' → done r i g ≤ done r i g'
    done_front i g h g' h' e l =
        let f = fronts g h g' h' e l in
        let k = ap (done r i) f.1 ∙ done_append i g f.0 in
        omega arith

    -- and one with more completed segments is longer
    pub longer : (i : ℕ) (g h g' h' : List E) → g ++ h ≡ g' ++ h' → done r i g < done r i g' → length g < length g'
    longer i g h g' h' e l =
        elim (cases_lt (length g) (length g')) [
          | inl n ↦ n
          | inr m ↦ absurd (let k = done_front i g' h' g h (sym e) m in omega arith)
        ]

    -- a completing entry completes one more segment of its image
    pub done_at : (g : List E) (x : E) → r.completes x ≡ true → done r (r.image_of x) (g ++ x ∷ []) ≡ suc (done r (r.image_of x) g)
    done_at g x c =
        let e = done_append (r.image_of x) g (x ∷ []) in
        let f : done r (r.image_of x) (x ∷ []) ≡ 1 = rw (eq-eqb (r.image_of x) (r.image_of x) refl, c) (omega arith) in
        omega arith

    -- The entry that completes segment n of image j.
    pub record Completing (j n : ℕ) (t : List E) : Type 0 where
      pub before : List E
      pub event : E
      pub rest : List E
      pub split : t ≡ before ++ event ∷ rest
      pub of_image : r.image_of event ≡ j
      pub completes : r.completes event ≡ true
      pub count : done r j before ≡ n

    -- it stands behind the first entry
    later_one : (j n m : ℕ) (e : E) (es : List E) → cond (nat_eq (r.image_of e) j && r.completes e) 1 0 + m ≡ n → Completing j m es → Completing j n (e ∷ es)
    later_one j n m e es h f = record {
      before = e ∷ f.before;
      event = f.event;
      rest = f.rest;
      split = ap (λ zs. e ∷ zs) f.split;
      of_image = f.of_image;
      completes = f.completes;
      count = (let p = f.count in omega arith);
    }

    -- or it is the first entry
    first_one : (j n : ℕ) (e : E) (es : List E) → n ≡ 0 → (nat_eq (r.image_of e) j && r.completes e) ≡ true → Completing j n (e ∷ es)
    first_one j n e es z b = record {
      before = [];
      event = e;
      rest = es;
      split = refl;
      of_image = eqb-true (r.image_of e) j (and_parts _ _ b).0;
      completes = (and_parts (nat_eq (r.image_of e) j) (r.completes e) b).1;
      count = sym z;
    }

    -- each completed segment has such an entry
    pub completing_event : (j n : ℕ) (t : List E) → n < done r j t → Completing j n t
    completing_event j n [] l = absurd (omega arith)
    completing_event j n (e ∷ es) l =
        elim (cases_Bool (nat_eq (r.image_of e) j && r.completes e)) [
          | inl b ↦ elim (cases_eq n 0) [
            | inl z ↦ first_one j n e es z b
            | inr k ↦ (let h = rw b at l in later_one j n (n - 1) e es (rw b (omega arith)) (completing_event j (n - 1) es (omega arith)))
          ]
          | inr b ↦ (let h = rw b at l in later_one j n n e es (rw b (omega arith)) (completing_event j n es (omega arith)))
        ]

    -- a segment that has begun stays so
    pub begun_more : (g h : List E) (a : Segment) → Begun r g a → Begun r (g ++ h) a
    begun_more g h a b = let e = done_append a.image g h in omega arith

    -- nothing of a completed segment stands after the entry that completes it
    pub no_later : (t g h g' h' : List E) (x f : E) → t ≡ g ++ x ∷ h → t ≡ g' ++ f ∷ h' → r.completes x ≡ true → segment_of r g x ≡ segment_of r g' f → length g' ≤ length g
    no_later t g h g' h' x f s s' c same =
        elim (cases_lt (length g) (length g')) [
          | inr l ↦ l
          | inl l ↦ (
              let k = done_at g x c in
              let more = done_front (r.image_of x) (g ++ x ∷ []) h g' (f ∷ h') (append_assoc g (x ∷ []) h ∙ sym s ∙ s') (omega (arith, length-append g (x ∷ []))) in
              let n = ap (λ z. z.number) same in
              let i = ap (λ z. done r z.image g') same in
              absurd (omega arith))
        ]

  -- of two splits of one list with fronts of one length both parts are the same
  pub same_fronts : (g h g' h' : List E) → g ++ h ≡ g' ++ h' → length g ≡ length g' → (g ≡ g') × (h ≡ h')
  same_fronts [] h [] h' e l = (refl, e)
  same_fronts [] h (y ∷ g') h' e l = absurd (omega arith)
  same_fronts (x ∷ g) h [] h' e l = absurd (omega arith)
  same_fronts (x ∷ g) h (y ∷ g') h' e l =
      let heads : x ≡ y = cc in
      let tails : g ++ h ≡ g' ++ h' = cc in
      let s = same_fronts g h g' h' tails (omega arith) in
      (ap (λ z. z ∷ g) heads ∙ ap (λ zs. y ∷ zs) s.0, s.1)
