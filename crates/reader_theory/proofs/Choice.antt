-- A choice by the first token, and a part that may be left out.
use Rattle.std.proofs.Common.{◌≡◌, Bool, true, false, cond, List, [], ◌∷◌, ◌++◌, inl, inr, refl, ap, sym, ◌∙◌, subst, Option, Some, None}
use Rattle.std.proofs.lemmas.Bool.{cases_Bool}
use Rattle.reader_theory.specs.Words.{Mark, bare, Verdict, found}
use Rattle.reader_theory.specs.Readers.{mapped, pick, optional}
use Rattle.reader_theory.specs.Exactness.{judge, Stops, never, Heads, Tells, Exact}
use Rattle.reader_theory.specs.Languages.{Image, Nothing, Or, Optional}
use Rattle.reader_theory.proofs.Marks.{never_stops}
use Rattle.reader_theory.proofs.Single.{carry, exact_mapped, exact_nothing, relabel}

no_front : {T : Type 0} (front b : List T) (y : T) → [] ≡ front ++ y ∷ b → ⊥
no_front [] b y e = absurd (cc)
no_front (f ∷ front) b y e = absurd (cc)

same_head : {T A : Type 0} (r s : List T → Verdict T A) (z : T) (rest : List T) → ((u : List T) → s (z ∷ u) ≡ r (z ∷ u)) → (front b : List T) (y : T) → z ∷ rest ≡ front ++ y ∷ b → (v : List T) → s (front ++ y ∷ v) ≡ r (front ++ y ∷ v)
same_head r s z rest same [] b y e v = let k : z ≡ y = cc in subst (λ t. s (t ∷ v) ≡ r (t ∷ v)) k (same v)
same_head r s z rest same (f ∷ front) b y e v = let k : z ≡ f = cc in subst (λ t. s (t ∷ (front ++ y ∷ v)) ≡ r (t ∷ (front ++ y ∷ v))) k (same (front ++ y ∷ v))

module _ {T A : Type 0} (test : T → Bool) (L M : A → List (Mark T) → Type 0) (p q : List T → Verdict T A) (first second : T → Bool) (x : Exact L first p) (y : Exact M second q) (more : T → Bool) (heads : (a : A) (w : List (Mark T)) → L a w → Heads test w) (other : (a : A) (w : List (Mark T)) (rest : List T) → M a w → Stops more rest → Stops test (bare w ++ rest)) (wide : (rest : List T) → Stops more rest → Stops first rest) (wider : (rest : List T) → Stops more rest → Stops second rest) where
  taken : (z : T) (rest : List T) → test z ≡ true → pick test p q (z ∷ rest) ≡ p (z ∷ rest)
  taken z rest e = ap (λ b. cond b (p (z ∷ rest)) (q (z ∷ rest))) e

  left : (z : T) (rest : List T) → test z ≡ false → pick test p q (z ∷ rest) ≡ q (z ∷ rest)
  left z rest e = ap (λ b. cond b (p (z ∷ rest)) (q (z ∷ rest))) e

  pick_tells : (ts : List T) → Tells (Or L M) (pick test p q) ts (pick test p q ts)
  pick_tells [] = carry M (Or L M) (λ a w. inr) q (pick test p q) [] (q []) (λ front b y e stop. absurd (no_front front b y e)) (y.tells [])
  pick_tells (z ∷ rest) = elim (cases_Bool (test z)) [
    | inl t ↦ subst (Tells (Or L M) (pick test p q) (z ∷ rest)) (sym (taken z rest t)) (carry L (Or L M) (λ a w. inl) p (pick test p q) (z ∷ rest) (p (z ∷ rest)) (λ front b y e stop. same_head p (pick test p q) z rest (λ u. taken z u t) front b y e) (x.tells (z ∷ rest)))
    | inr f ↦ subst (Tells (Or L M) (pick test p q) (z ∷ rest)) (sym (left z rest f)) (carry M (Or L M) (λ a w. inr) q (pick test p q) (z ∷ rest) (q (z ∷ rest)) (λ front b y e stop. same_head q (pick test p q) z rest (λ u. left z u f) front b y e) (y.tells (z ∷ rest)))
  ]

  headed : (w : List (Mark T)) (rest : List T) → Heads test w → pick test p q (bare w ++ rest) ≡ p (bare w ++ rest)
  headed [] rest h = absurd h
  headed (m ∷ w) rest h = taken m.token (bare w ++ rest) h

  stopped : (ts : List T) → Stops test ts → pick test p q ts ≡ q ts
  stopped [] h = refl
  stopped (z ∷ rest) h = left z rest h

  pick_given : (a : A) (w : List (Mark T)) (rest : List T) → Or L M a w → Stops more rest → pick test p q (bare w ++ rest) ≡ judge w a rest
  pick_given a w rest (inl h) stops = headed w rest (heads a w h) ∙ x.given a w rest h (wide rest stops)
  pick_given a w rest (inr h) stops = stopped (bare w ++ rest) (other a w rest h stops) ∙ y.given a w rest h (wider rest stops)

  pub exact_pick : Exact (Or L M) more (pick test p q)
  exact_pick = record {
    tells = pick_tells;
    given = pick_given;
    some = y.some;
    some_word = y.some_word;
    is_some = inr y.is_some;
  }

-- A part that may be left out.
module _ {T A : Type 0} (test : T → Bool) (L : A → List (Mark T) → Type 0) (p : List T → Verdict T A) (first : T → Bool) (x : Exact L first p) (more : T → Bool) (heads : (a : A) (w : List (Mark T)) → L a w → Heads test w) (wide : (rest : List T) → Stops more rest → Stops first rest) (ends : (rest : List T) → Stops more rest → Stops test rest) where
  abbrev Some_or_none : Option A → List (Mark T) → Type 0
  Some_or_none = Or (Image Some L) (Nothing None)

  into : (o : Option A) (w : List (Mark T)) → Some_or_none o w → Optional L o w
  into o w (inl (a, e, h)) = subst (λ z. Optional L z w) (sym e) h
  into o w (inr h) = subst (λ z. Optional L z w) (sym h.0) h.1

  from : (o : Option A) (w : List (Mark T)) → Optional L o w → Some_or_none o w
  from None w h = inr (refl, h)
  from (Some a) w h = inl (a, refl, h)

  pub exact_optional : Exact (Optional L) more (optional test p)
  exact_optional = relabel Some_or_none (Optional L) (optional test p) more more
      (exact_pick test (Image Some L) (Nothing None) (mapped Some p) (found None) first never
      (exact_mapped Some L (Image Some L) p first first x (λ a w h. (a, refl, h)) (λ o w h. h) (λ rest s. s))
      (exact_nothing None) more
      (λ o w (a, e, h). heads a w h)
      (λ o w rest h stops. subst (λ z. Stops test (bare z ++ rest)) (sym h.1) (ends rest stops))
      wide (λ rest s. never_stops rest))
      into from (λ rest s. s)
