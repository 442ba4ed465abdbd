-- A reader with as much fuel as there are tokens.
use Rattle.std.proofs.Common.{◌≡◌, ℕ, ◌+◌, ◌≤◌, Bool, List, [], ◌∷◌, ◌++◌, refl, ap, sym, ◌∙◌, subst, arith, length}
use Rattle.std.proofs.lemmas.List.{append_cancel_right, length-append}
use Rattle.reader_theory.specs.Words.{Mark, bare, expected, too_deep, Verdict, found, fault}
use Rattle.reader_theory.specs.Exactness.{judge, Stops, Local, Tells, Exact}

abbrev pub fueled : {T A : Type 0} → (ℕ → List T → Verdict T A) → List T → Verdict T A
fueled r ts = r (length ts) ts

module _ {T A : Type 0} (L : ℕ → A → List (Mark T) → Type 0) (K : A → List (Mark T) → Type 0) (r : ℕ → List T → Verdict T A) (more : T → Bool) (x : (n : ℕ) → Exact (L n) more (r n)) (into : (n : ℕ) (a : A) (w : List (Mark T)) → L n a w → K a w) (enough : (n : ℕ) (a : A) (w : List (Mark T)) → length (bare w) ≤ n → K a w → L n a w) (agree : (n m : ℕ) (ts : List T) → length ts ≤ n → length ts ≤ m → r n ts ≡ r m ts) where
  found_alone : (ts : List T) (a : A) (front rest : List T) → ts ≡ front ++ rest → r (length ts) ts ≡ found a rest → Local (fueled r) front (found a rest)
  found_alone ts a front [] split e = tt
  found_alone ts a front (y ∷ u) split e = λ v.
      let n = length ts + length (front ++ y ∷ v) in
      let t = subst (Tells (L n) (r n) ts) (agree n (length ts) ts (omega arith) (omega arith) ∙ e) ((x n).tells ts) in
      let k = append_cancel_right (bare t.word) front (y ∷ u) (sym t.split ∙ split) in
      agree (length (front ++ y ∷ v)) n (front ++ y ∷ v) (omega arith) (omega arith) ∙ (ap (λ z. r n (z ++ y ∷ v)) (sym k) ∙ t.alone v)

  missed_alone : (ts front rest : List T) → ts ≡ front ++ rest → r (length ts) ts ≡ fault expected rest → Local (fueled r) front (fault expected rest)
  missed_alone ts front [] split e = tt
  missed_alone ts front (y ∷ u) split e = λ v.
      let n = length ts + length (front ++ y ∷ v) in
      let t = subst (Tells (L n) (r n) ts) (agree n (length ts) ts (omega arith) (omega arith) ∙ e) ((x n).tells ts) in
      let k = append_cancel_right (bare t.front) front (y ∷ u) (sym t.split ∙ split) in
      agree (length (front ++ y ∷ v)) n (front ++ y ∷ v) (omega arith) (omega arith) ∙ (ap (λ z. r n (z ++ y ∷ v)) (sym k) ∙ t.alone v)

  sunk_alone : (ts front rest : List T) → ts ≡ front ++ rest → r (length ts) ts ≡ fault too_deep rest → Local (fueled r) front (fault too_deep rest)
  sunk_alone ts front [] split e = tt
  sunk_alone ts front (y ∷ u) split e = λ v.
      let n = length ts + length (front ++ y ∷ v) in
      let t = subst (Tells (L n) (r n) ts) (agree n (length ts) ts (omega arith) (omega arith) ∙ e) ((x n).tells ts) in
      let k = append_cancel_right (bare t.front) front (y ∷ u) (sym t.split ∙ split) in
      agree (length (front ++ y ∷ v)) n (front ++ y ∷ v) (omega arith) (omega arith) ∙ (ap (λ z. r n (z ++ y ∷ v)) (sym k) ∙ t.alone v)

  fueled_tells : (ts : List T) (v : Verdict T A) → r (length ts) ts ≡ v → Tells (L (length ts)) (r (length ts)) ts v → Tells K (fueled r) ts v
  fueled_tells ts (found a rest) e t = record { word = t.word; is_word = into (length ts) a t.word t.is_word; shallow = t.shallow; split = t.split; alone = found_alone ts a (bare t.word) rest t.split e }
  fueled_tells ts (fault expected rest) e t = record { tree = t.tree; front = t.front; back = t.back; is_word = into (length ts) t.tree (t.front ++ t.back) t.is_word; shallow = t.shallow; split = t.split; alone = missed_alone ts (bare t.front) rest t.split e }
  fueled_tells ts (fault too_deep rest) e t = record { tree = t.tree; front = t.front; at = t.at; back = t.back; behind = t.behind; is_word = into (length ts) t.tree (t.front ++ t.at ∷ t.back) t.is_word; shallow = t.shallow; deep = t.deep; is_rest = t.is_rest; split = t.split; alone = sunk_alone ts (bare t.front) rest t.split e }

  fueled_given : (a : A) (w : List (Mark T)) (rest : List T) → K a w → Stops more rest → fueled r (bare w ++ rest) ≡ judge w a rest
  fueled_given a w rest h stops =
      let n = length (bare w ++ rest) in
      let e = length-append (bare w) rest in
      (x n).given a w rest (enough n a w (omega arith) h) stops

  pub exact_fueled : Exact K more (fueled r)
  exact_fueled = record {
    tells = λ ts. fueled_tells ts (r (length ts) ts) refl ((x (length ts)).tells ts);
    given = fueled_given;
    some = (x 0).some;
    some_word = (x 0).some_word;
    is_some = into 0 (x 0).some (x 0).some_word (x 0).is_some;
  }
