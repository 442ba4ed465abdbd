-- A choice by the first two tokens.
use Rattle.std.proofs.Common.{◌≡◌, Bool, true, false, cond, List, [], ◌∷◌, ◌++◌, inl, inr, refl, ap, sym, ◌∙◌, subst}
use Rattle.std.proofs.lemmas.Bool.{cases_Bool}
use Rattle.reader_theory.specs.Words.{Mark, bare, Verdict}
use Rattle.reader_theory.specs.Readers.{two_pass, ahead, rest_of}
use Rattle.reader_theory.specs.Exactness.{judge, Stops, Eats, Tells, Exact}
use Rattle.reader_theory.specs.Languages.{Or}
use Rattle.reader_theory.proofs.Single.{carry}

module _ {T A : Type 0} (one two : T → Bool) (L M : A → List (Mark T) → Type 0) (p q : List T → Verdict T A) (first second : T → Bool) (x : Exact L first p) (y : Exact M second q) (more : T → Bool) (pairs : (a : A) (w : List (Mark T)) (rest : List T) → L a w → two_pass one two (bare w ++ rest) ≡ true) (other : (a : A) (w : List (Mark T)) (rest : List T) → M a w → Stops more rest → two_pass one two (bare w ++ rest) ≡ false) (wide : (rest : List T) → Stops more rest → Stops first rest) (wider : (rest : List T) → Stops more rest → Stops second rest) (p_eats : Eats one p) (q_eats : Eats one q) where
  -- the test is the same however the text goes on behind its second token, and without a first token that passes
  same_test : (front b : List T) (z : T) (u : List T) → (front ≡ [] → one z ≡ false) → two_pass one two (front ++ z ∷ u) ≡ two_pass one two (front ++ z ∷ b)
  same_test [] [] z [] n = refl
  same_test [] [] z (v ∷ u) n = ap (λ d. cond d (two v) false) (n refl)
  same_test [] (c ∷ b) z [] n = sym (ap (λ d. cond d (two c) false) (n refl))
  same_test [] (c ∷ b) z (v ∷ u) n = ap (λ d. cond d (two v) false) (n refl) ∙ sym (ap (λ d. cond d (two c) false) (n refl))
  same_test (f ∷ []) b z u n = refl
  same_test (f ∷ g ∷ front) b z u n = refl

  there : (d : Bool) (r : List T → Verdict T A) (ts : List T) → ((us : List T) → two_pass one two us ≡ d → ahead one two p q us ≡ r us) → Eats one r → two_pass one two ts ≡ d → (front b : List T) (z : T) → ts ≡ front ++ z ∷ b → rest_of (r ts) ≡ z ∷ b → (u : List T) → ahead one two p q (front ++ z ∷ u) ≡ r (front ++ z ∷ u)
  there d r ts chosen eats is front b z e stop u = chosen (front ++ z ∷ u) (same_test front b z u (not_first front e) ∙ (ap (two_pass one two) (sym e) ∙ is))
    where
      not_first : (front : List T) → ts ≡ front ++ z ∷ b → front ≡ [] → one z ≡ false
      not_first [] e n = elim (cases_Bool (one z)) [ inl t ↦ absurd (eats z b t (ap (λ us. rest_of (r us)) (sym e) ∙ stop)) | inr f ↦ f ]
      not_first (f ∷ front) e n = absurd (cc)

  taken : (us : List T) → two_pass one two us ≡ true → ahead one two p q us ≡ p us
  taken us e = ap (λ d. cond d (p us) (q us)) e

  left : (us : List T) → two_pass one two us ≡ false → ahead one two p q us ≡ q us
  left us e = ap (λ d. cond d (p us) (q us)) e

  ahead_tells : (ts : List T) → Tells (Or L M) (ahead one two p q) ts (ahead one two p q ts)
  ahead_tells ts = elim (cases_Bool (two_pass one two ts)) [
    | inl t ↦ subst (Tells (Or L M) (ahead one two p q) ts) (sym (taken ts t)) (carry L (Or L M) (λ a w. inl) p (ahead one two p q) ts (p ts) (there true p ts taken p_eats t) (x.tells ts))
    | inr f ↦ subst (Tells (Or L M) (ahead one two p q) ts) (sym (left ts f)) (carry M (Or L M) (λ a w. inr) q (ahead one two p q) ts (q ts) (there false q ts left q_eats f) (y.tells ts))
  ]

  ahead_given : (a : A) (w : List (Mark T)) (rest : List T) → Or L M a w → Stops more rest → ahead one two p q (bare w ++ rest) ≡ judge w a rest
  ahead_given a w rest (inl h) stops = taken (bare w ++ rest) (pairs a w rest h) ∙ x.given a w rest h (wide rest stops)
  ahead_given a w rest (inr h) stops = left (bare w ++ rest) (other a w rest h stops) ∙ y.given a w rest h (wider rest stops)

  pub exact_ahead : Exact (Or L M) more (ahead one two p q)
  exact_ahead = record { tells = ahead_tells; given = ahead_given; some = y.some; some_word = y.some_word; is_some = inr y.is_some }
