-- The better of two answers: what was read, or the fault that stands further on.
use Rattle.std.proofs.Common.{◌≡◌, ◌<◌, true, cond, List, [], ◌∷◌, ◌++◌, ◌⊎◌, inl, inr, refl, ap, sym, ◌∙◌, subst, arith, append_assoc, length, nat_lt, ltb-true, ltb-false}
use Rattle.std.proofs.lemmas.Bool.{cases_Bool, le-ltb, lt-ltb}
use Rattle.std.proofs.lemmas.List.{length-append, append-nil}
use Rattle.reader_theory.specs.Words.{Mark, Cause, expected, too_deep, Verdict, found, fault}
use Rattle.reader_theory.specs.Refusals.{Begins, Opens, StopsAt, Refused, Reads, Answers}
use Rattle.reader_theory.specs.Readers.{joined, worse, further, best, rest_of}
use Rattle.reader_theory.proofs.Marks.{same_front}
use Rattle.reader_theory.proofs.Fronts.{begins_front, read_begins, opens_begins}

-- a longer front goes on with the first token that the shorter one leaves
pub longer_front : {T : Type 0} (f g r s : List T) → f ++ r ≡ g ++ s → length r < length s → (x : T) × (b : List T) × (f ≡ g ++ x ∷ b) × (s ≡ x ∷ (b ++ r))
longer_front [] [] r s e l = absurd (let n = ap length e in omega arith)
longer_front (x ∷ f) [] r s e l = (x, f, refl, sym e)
longer_front [] (y ∷ g) r s e l = absurd (let n = ap length e in let k = length-append g s in omega arith)
longer_front (x ∷ f) (y ∷ g) r s e l =
    let h : x ≡ y = cc in
    let t : f ++ r ≡ g ++ s = cc in
    let k = longer_front f g r s t l in
    (k.0, k.1, ap (λ z. z ∷ f) h ∙ ap (λ z. y ∷ z) k.2, k.3)

module _ {T A : Type 0} (L M K : A → List (Mark T) → Type 0) (from_first : (a : A) (w : List (Mark T)) → L a w → K a w) (from_second : (a : A) (w : List (Mark T)) → M a w → K a w) (out : (a : A) (w : List (Mark T)) → K a w → L a w ⊎ M a w) where
  begins_out : (front : List T) → Begins K front → Begins L front ⊎ Begins M front
  begins_out front (a, w, v, h, s, e) = elim (out a (w ++ v) h) [ inl k ↦ inl (a, w, v, k, s, e) | inr k ↦ inr (a, w, v, k, s, e) ]

  opens_out : (front : List T) (x : T) → Opens K front x → Opens L front x ⊎ Opens M front x
  opens_out front x (a, w, v, h, s, e) = elim (out a (w ++ record { token = x; deep = true } ∷ v) h) [ inl k ↦ inl (a, w, v, k, s, e) | inr k ↦ inr (a, w, v, k, s, e) ]

  reads_out : (ts : List T) (a : A) → Reads K ts a → Reads L ts a ⊎ Reads M ts a
  reads_out ts a (w, h, s, e) = elim (out a w h) [ inl k ↦ inl (w, k, s, e) | inr k ↦ inr (w, k, s, e) ]

  begins_in : (front : List T) → Begins L front → Begins K front
  begins_in front (a, w, v, h, s, e) = (a, w, v, from_first a (w ++ v) h, s, e)

  opens_in : (front : List T) (x : T) → Opens L front x → Opens K front x
  opens_in front x (a, w, v, h, s, e) = (a, w, v, from_first a (w ++ record { token = x; deep = true } ∷ v) h, s, e)

  opens_in_second : (front : List T) (x : T) → Opens M front x → Opens K front x
  opens_in_second front x (a, w, v, h, s, e) = (a, w, v, from_second a (w ++ record { token = x; deep = true } ∷ v) h, s, e)

  reads_in : (ts : List T) (a : A) → Reads L ts a → Reads K ts a
  reads_in ts a (w, h, s, e) = (w, from_first a w h, s, e)

  stops_first : (front : List T) (d : Cause) (s : List T) (x : T) (u : List T) → StopsAt M front d s → s ≡ x ∷ u → Begins M (front ++ x ∷ []) → ⊥
  stops_first front d [] x u h e b = absurd (cc)
  stops_first front expected (y ∷ s) x u h e b = let k : x ≡ y = cc in h.0 (subst (λ z. Begins M (front ++ z ∷ [])) k b)
  stops_first front too_deep (y ∷ s) x u h e b = let k : x ≡ y = cc in h.0 (subst (λ z. Begins M (front ++ z ∷ [])) k b)

  -- where the one language goes further, its fault is that of both
  module _ (ts : List T) (d : Cause) (s : List T) (g : Refused M ts d s) where
    past : (front r t : List T) → ts ≡ front ++ r → length r < length s → Begins M (front ++ t) → ⊥
    past front r t e l b =
        let k = longer_front front g.front r s (sym e ∙ g.split) l in
        let i : front ++ t ≡ (g.front ++ k.0 ∷ []) ++ (k.1 ++ t) = ap (λ z. z ++ t) k.2 ∙ (append_assoc g.front (k.0 ∷ k.1) t ∙ sym (append_assoc g.front (k.0 ∷ []) (k.1 ++ t))) in
        stops_first g.front d s k.0 (k.1 ++ r) g.stops k.3 (begins_front M (g.front ++ k.0 ∷ []) (k.1 ++ t) (subst (Begins M) i b))

    past_stops : (front : List T) (c : Cause) (r : List T) → ts ≡ front ++ r → length r < length s → StopsAt L front c r → StopsAt K front c r
    past_stops front c [] e l h = (h.0, λ a k. absurd (elim (reads_out front a k) [ inl i ↦ h.1 a i | inr i ↦ past front [] [] e l (subst (Begins M) (sym (append-nil front)) (read_begins M front a i)) ]))
    past_stops front expected (x ∷ r) e l h = (
      λ b. absurd (elim (begins_out (front ++ x ∷ []) b) [ inl i ↦ h.0 i | inr i ↦ past front (x ∷ r) (x ∷ []) e l i ]),
      λ o. absurd (elim (opens_out front x o) [ inl i ↦ h.1 i | inr i ↦ past front (x ∷ r) [] e l (subst (Begins M) (sym (append-nil front)) (opens_begins M front x i)) ]),
    )
    past_stops front too_deep (x ∷ r) e l h = (
      λ b. absurd (elim (begins_out (front ++ x ∷ []) b) [ inl i ↦ h.0 i | inr i ↦ past front (x ∷ r) (x ∷ []) e l i ]),
      opens_in front x h.1,
    )

    pub goes_further : (c : Cause) (r : List T) → Refused L ts c r → length r < length s → Refused K ts c r
    goes_further c r f l = record { front = f.front; split = f.split; begins = begins_in f.front f.begins; stops = past_stops f.front c r f.split l f.stops }

  level_stops : (front : List T) (c d : Cause) (r : List T) → StopsAt L front c r → StopsAt M front d r → StopsAt K front (worse c d) r
  level_stops front c d [] h k = (ap (λ z. worse z d) h.0 ∙ k.0, λ a i. absurd (elim (reads_out front a i) [ inl j ↦ h.1 a j | inr j ↦ k.1 a j ]))
  level_stops front expected expected (x ∷ r) h k = (
    λ b. absurd (elim (begins_out (front ++ x ∷ []) b) [ inl i ↦ h.0 i | inr i ↦ k.0 i ]),
    λ o. absurd (elim (opens_out front x o) [ inl i ↦ h.1 i | inr i ↦ k.1 i ]),
  )
  level_stops front expected too_deep (x ∷ r) h k = (
    λ b. absurd (elim (begins_out (front ++ x ∷ []) b) [ inl i ↦ h.0 i | inr i ↦ k.0 i ]),
    opens_in_second front x k.1,
  )
  level_stops front too_deep expected (x ∷ r) h k = (
    λ b. absurd (elim (begins_out (front ++ x ∷ []) b) [ inl i ↦ h.0 i | inr i ↦ k.0 i ]),
    opens_in front x h.1,
  )
  level_stops front too_deep too_deep (x ∷ r) h k = (
    λ b. absurd (elim (begins_out (front ++ x ∷ []) b) [ inl i ↦ h.0 i | inr i ↦ k.0 i ]),
    opens_in front x h.1,
  )

  pub level_fault : (ts : List T) (c d : Cause) (r s : List T) → Refused L ts c r → Refused M ts d s → length r ≡ length s → Refused K ts (worse c d) r
  level_fault ts c d r s f g l =
      let k = same_front f.front g.front r s (sym f.split ∙ g.split) l in
      record { front = f.front; split = f.split; begins = begins_in f.front f.begins; stops = level_stops f.front c d r f.stops (subst (λ z. StopsAt M z d r) (sym k.0) (subst (StopsAt M g.front d) (sym k.1) g.stops)) }

module _ {T A : Type 0} (L M K : A → List (Mark T) → Type 0) (from_first : (a : A) (w : List (Mark T)) → L a w → K a w) (from_second : (a : A) (w : List (Mark T)) → M a w → K a w) (out : (a : A) (w : List (Mark T)) → K a w → L a w ⊎ M a w) where
  turn : (a : A) (w : List (Mark T)) → K a w → M a w ⊎ L a w
  turn a w h = elim (out a w h) [ inl k ↦ inr k | inr k ↦ inl k ]

  both_faults : (ts : List T) (c d : Cause) (r s : List T) → Refused L ts c r → Refused M ts d s → Answers K ts (further c r d s)
  both_faults ts c d r s f g = elim (cases_Bool (nat_lt (length r) (length s))) [
    | inl t ↦ subst (λ b. Answers K ts (cond b (fault c r) (cond (nat_lt (length s) (length r)) (fault d s) (fault (worse c d) r)))) (sym t) (goes_further L M K from_first from_second out ts d s g c r f (ltb-true (length r) (length s) t))
    | inr e ↦ subst (λ b. Answers K ts (cond b (fault c r) (cond (nat_lt (length s) (length r)) (fault d s) (fault (worse c d) r)))) (sym e) (elim (cases_Bool (nat_lt (length s) (length r))) [
      | inl t ↦ subst (λ b. Answers K ts (cond b (fault d s) (fault (worse c d) r))) (sym t) (goes_further M L K from_second from_first turn ts c r f d s g (ltb-true (length s) (length r) t))
      | inr i ↦ subst (λ b. Answers K ts (cond b (fault d s) (fault (worse c d) r))) (sym i) (level_fault L M K from_first from_second out ts c d r s f g (let x = ltb-false (length r) (length s) e in let y = ltb-false (length s) (length r) i in omega arith))
    ])
  ]

  -- the better of two exact answers is exact for both languages
  pub exact_best : (ts : List T) (v u : Verdict T A) → Answers L ts v → Answers M ts u → Answers K ts (best v u)
  exact_best ts (found a r) u h k = (h.0, reads_in L M K from_first from_second out ts a h.1)
  exact_best ts (fault c r) (found b s) h k = (k.0, reads_in M L K from_second from_first turn ts b k.1)
  exact_best ts (fault c r) (fault d s) h k = both_faults ts c d r s h k

  -- and each text has one reading, where no text has one in each
  pub one_of_best : ((ts : List T) (a b : A) → Reads L ts a → Reads L ts b → a ≡ b) → ((ts : List T) (a b : A) → Reads M ts a → Reads M ts b → a ≡ b) → ((ts : List T) (a b : A) → Reads L ts a → Reads M ts b → ⊥) → (ts : List T) (a b : A) → Reads K ts a → Reads K ts b → a ≡ b
  one_of_best l m apart ts a b h k = elim (reads_out L M K from_first from_second out ts a h) [
    | inl i ↦ elim (reads_out L M K from_first from_second out ts b k) [ inl j ↦ l ts a b i j | inr j ↦ absurd (apart ts a b i j) ]
    | inr i ↦ elim (reads_out L M K from_first from_second out ts b k) [ inl j ↦ absurd (apart ts b a j i) | inr j ↦ m ts a b i j ]
  ]

-- The part that is read decides, where the other alternative's fault stands inside it.
module _ {T A B C : Type 0} (f : A → B → C) (a : A) (c : Cause) (s : List T) where
  pub first_decides : (v : Verdict T B) → length (rest_of v) < length s → best (joined f a v) (fault c s) ≡ joined f a v
  first_decides (found b r) h = refl
  first_decides (fault d r) h = ap (λ t. cond t (fault d r) (cond (nat_lt (length s) (length r)) (fault c s) (fault (worse d c) r))) (lt-ltb (length r) (length s) h)

  pub later_decides : (v : Verdict T B) → length (rest_of v) < length s → best (fault c s) (joined f a v) ≡ joined f a v
  later_decides (found b r) h = refl
  later_decides (fault d r) h =
      ap (λ t. cond t (fault c s) (cond (nat_lt (length r) (length s)) (fault d r) (fault (worse c d) s))) (le-ltb (length s) (length r) (omega arith))
      ∙ ap (λ t. cond t (fault d r) (fault (worse c d) s)) (lt-ltb (length r) (length s) h)
