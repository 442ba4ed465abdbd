-- Where no level is left.
use Rattle.std.proofs.Common.{◌≡◌, Bool, true, cond, List, [], ◌∷◌, ◌++◌, inl, inr, refl, ap, sym, ◌∙◌, subst}
use Rattle.std.proofs.lemmas.Bool.{cases_Bool}
use Rattle.reader_theory.specs.Words.{Mark, bare, expected, too_deep, fault}
use Rattle.reader_theory.specs.Readers.{sunk}
use Rattle.reader_theory.specs.Exactness.{judge, Local, Misses, Tells, Exact, Sunken}

module _ {T A : Type 0} (L : A → List (Mark T) → Type 0) (test : T → Bool) (some : A) (some_word : List (Mark T)) (is_some : L some some_word) (starts : (a : A) (w : List (Mark T)) → L a w → Sunken test w) (can : (x : T) → test x ≡ true → (a : A) × (v : List (Mark T)) × L a (record { token = x; deep = true } ∷ v)) where
  sunk_misses : (ts rest : List T) → ts ≡ rest → Local (sunk {A = A} test) [] (fault expected rest) → Misses L (sunk test) ts rest
  sunk_misses ts rest e h = record { tree = some; front = []; back = some_word; is_word = is_some; shallow = tt; split = e; alone = h }

  sunk_tells : (ts : List T) → Tells L (sunk test) ts (sunk test ts)
  sunk_tells [] = sunk_misses [] [] refl tt
  sunk_tells (x ∷ rest) = elim (cases_Bool (test x)) [
    | inl t ↦ (let c = can x t in subst (λ b. Tells L (sunk test) (x ∷ rest) (cond b (fault too_deep (x ∷ rest)) (fault expected (x ∷ rest)))) (sym t) (record {
      tree = c.0;
      front = [];
      at = record { token = x; deep = true };
      back = c.1;
      behind = rest;
      is_word = c.2;
      shallow = tt;
      deep = refl;
      is_rest = refl;
      split = refl;
      alone = λ v. ap (λ b. cond b (fault too_deep (x ∷ v)) (fault expected (x ∷ v))) t;
    }))
    | inr f ↦ subst (λ b. Tells L (sunk test) (x ∷ rest) (cond b (fault too_deep (x ∷ rest)) (fault expected (x ∷ rest)))) (sym f) (sunk_misses (x ∷ rest) (x ∷ rest) refl (λ v. ap (λ b. cond b (fault too_deep (x ∷ v)) (fault expected (x ∷ v))) f))
  ]

  sunk_word : (a : A) (w : List (Mark T)) (rest : List T) → Sunken test w → sunk test (bare w ++ rest) ≡ judge w a rest
  sunk_word a [] rest h = absurd h
  sunk_word a (m ∷ w) rest h =
      ap (λ b. cond b (fault too_deep (m.token ∷ (bare w ++ rest))) (fault expected (m.token ∷ (bare w ++ rest)))) h.0
      ∙ sym (ap (λ b. cond b (fault too_deep (m.token ∷ (bare w ++ rest))) (judge w a rest)) h.1)

  pub exact_sunk : (more : T → Bool) → Exact L more (sunk test)
  exact_sunk more = record {
    tells = sunk_tells;
    given = λ a w rest h stops. sunk_word a w rest (starts a w h);
    some = some;
    some_word = some_word;
    is_some = is_some;
  }
