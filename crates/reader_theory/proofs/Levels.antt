-- Tokens that are marked by their level: one token, what stands behind one or between two, and where no level is left
-- for these.
use Rattle.std.proofs.Common.{◌≡◌, ℕ, suc, ◌-◌, ◌≤◌, Bool, true, false, List, [], ◌∷◌, ◌++◌, refl, ap, sym, ◌∙◌, subst, arith, zero, length}
use Rattle.std.proofs.lemmas.Bool.{le-ltb, lt-ltb}
use Rattle.reader_theory.specs.Words.{Mark, bare, Shallow, ◌⟫◌, Verdict}
use Rattle.reader_theory.specs.Readers.{token, both, first, second, behind, between, sunk}
use Rattle.reader_theory.specs.Exactness.{Stops, never, Sunken, Exact}
use Rattle.reader_theory.specs.Languages.{Single}
use Rattle.reader_theory.proofs.Independent.{Both}
use Rattle.reader_theory.specs.Levels.{mark, word, One, Behind, Between, ShallowFor}
use Rattle.reader_theory.proofs.Marks.{never_stops}
use Rattle.reader_theory.proofs.Single.{exact_token, relabel}
use Rattle.reader_theory.proofs.Sequence.{exact_both}
use Rattle.reader_theory.proofs.Deep.{exact_sunk}

module _ {T : Type 0} (limit level : ℕ) where
  pub flat : (x : T) → level ≤ limit → record { token = x; deep = false } ≡ mark limit level x
  flat x here = ap (λ b. record { token = x; deep = b }) (sym (le-ltb limit level here))

  pub exact_one : (test : T → Bool) (sample : T) → test sample ≡ true → level ≤ limit → Exact (One test limit level) never (token test)
  exact_one test sample fits here = relabel (Single test) (One test limit level) (token test) never never (exact_token test sample fits)
      (λ x w k. (k.0, k.1 ∙ ap (λ m. m ∷ []) (flat x here)))
      (λ x w k. (k.0, k.1 ∙ ap (λ m. m ∷ []) (sym (flat x here))))
      (λ rest s. s)

-- what stands behind a token that alone passes its test
module _ {T A : Type 0} (limit level : ℕ) (here : level ≤ limit) (test : T → Bool) (sign : T) (passes : test sign ≡ true) (alone : (x : T) → test x ≡ true → x ≡ sign) (L : A → List (Mark T) → Type 0) (more : T → Bool) (r : List T → Verdict T A) (x : Exact L more r) where
  pub exact_behind : Exact (Behind limit level sign L) more (behind test r)
  exact_behind = relabel (Both second (One test limit level) L) (Behind limit level sign L) _ more more
      (exact_both second (One test limit level) L (token test) r never more (exact_one limit level test sign passes here) x (λ b w rest h s. never_stops (bare w ++ rest)))
      (λ a w (o, b, e, (u, v, p, h, split)). (u, v, p.1 ∙ ap (λ z. mark limit level z ∷ []) (alone o p.0), subst (λ z. L z v) (sym e) h, split))
      (λ a w (u, v, p, h, split). (sign, a, refl, (u, v, (passes, p), h, split)))
      (λ rest s. s)

-- what stands between two
module _ {T A : Type 0} (limit level : ℕ) (here : level ≤ limit) (opens closes : T → Bool) (opener closer : T) (opens_it : opens opener ≡ true) (alone_opens : (x : T) → opens x ≡ true → x ≡ opener) (closes_it : closes closer ≡ true) (alone_closes : (x : T) → closes x ≡ true → x ≡ closer) (L : A → List (Mark T) → Type 0) (more : T → Bool) (r : List T → Verdict T A) (x : Exact L more r) (stops : more closer ≡ false) where
  abbrev Closed : A → List (Mark T) → Type 0
  Closed a w = (L a ⟫ word limit level closer) w

  closed : Exact Closed never (both first r (token closes))
  closed = relabel (Both first L (One closes limit level)) Closed _ never never
      (exact_both first L (One closes limit level) r (token closes) more never x (exact_one limit level closes closer closes_it here)
      (λ y w rest h s. subst (λ z. Stops more (bare z ++ rest)) (sym h.1) (subst (λ z. more z ≡ false) (sym (alone_closes y h.0)) stops)))
      (λ a w (b, o, e, (u, v, h, p, split)). (u, v, subst (λ z. L z u) (sym e) h, p.1 ∙ ap (λ z. mark limit level z ∷ []) (alone_closes o p.0), split))
      (λ a w (u, v, h, p, split). (a, closer, refl, (u, v, h, (closes_it, p), split)))
      (λ rest s. s)

  pub exact_between : Exact (Between limit level opener closer L) never (between opens closes r)
  exact_between = exact_behind limit level here opens opener opens_it alone_opens Closed never (both first r (token closes)) closed

-- no level is left for a token that begins each word of the language and alone passes its test
module _ {T A : Type 0} (limit : ℕ) (test : T → Bool) (sign : T) (passes : test sign ≡ true) (alone : (x : T) → test x ≡ true → x ≡ sign) (L : A → List (Mark T) → Type 0) (some : A) (some_word : List (Mark T)) (is_some : L some some_word) where
  pub sunk_behind : (more : T → Bool) → Exact (Behind limit (suc limit) sign L) more (sunk test)
  sunk_behind = exact_sunk (Behind limit (suc limit) sign L) test some (mark limit (suc limit) sign ∷ some_word) made
      (λ a w (u, v, p, h, split). subst (Sunken test) (sym (split ∙ ap (λ z. z ++ v) p)) (passes, lt-ltb limit (suc limit) (omega arith)))
      (λ x t. (some, some_word, subst (λ z. Behind limit (suc limit) sign L some (z ∷ some_word)) (same x t) made))
    where
      made : Behind limit (suc limit) sign L some (mark limit (suc limit) sign ∷ some_word)
      made = (mark limit (suc limit) sign ∷ [], some_word, refl, is_some, refl)

      same : (x : T) → test x ≡ true → mark limit (suc limit) sign ≡ record { token = x; deep = true }
      same x t = ap (λ b. record { token = sign; deep = b }) (lt-ltb limit (suc limit) (omega arith)) ∙ ap (λ z. record { token = z; deep = true }) (sym (alone x t))

-- the same between two
module _ {T A : Type 0} (limit : ℕ) (opens : T → Bool) (opener closer : T) (passes : opens opener ≡ true) (alone : (x : T) → opens x ≡ true → x ≡ opener) (L : A → List (Mark T) → Type 0) (some : A) (some_word : List (Mark T)) (is_some : L some some_word) where
  pub sunk_between : (more : T → Bool) → Exact (Between limit (suc limit) opener closer L) more (sunk opens)
  sunk_between = sunk_behind limit opens opener passes alone (λ a w. (L a ⟫ word limit (suc limit) closer) w) some (some_word ++ mark limit (suc limit) closer ∷ []) (some_word, mark limit (suc limit) closer ∷ [], is_some, refl, refl)

-- Words whose first so many tokens aren't too deep.
module _ {T : Type 0} where
  pub shallow_less : (n m : ℕ) (w : List (Mark T)) → m ≤ n → ShallowFor n w → ShallowFor m w
  shallow_less n zero w l h = tt
  shallow_less zero (suc m) w l h = absurd (omega arith)
  shallow_less (suc n) (suc m) [] l h = tt
  shallow_less (suc n) (suc m) (k ∷ w) l h = (h.0, shallow_less n m w (omega arith) h.1)

  pub shallow_parts : (n : ℕ) (u v : List (Mark T)) → ShallowFor n u → ShallowFor (n - length u) v → ShallowFor n (u ++ v)
  shallow_parts zero u v h k = tt
  shallow_parts (suc n) [] v h k = let e : suc n - 0 ≡ suc n = omega arith in subst (λ z. ShallowFor z v) e k
  shallow_parts (suc n) (m ∷ u) v h k = let e : suc n - suc (length u) ≡ n - length u = omega arith in (h.0, shallow_parts n u v h.1 (subst (λ z. ShallowFor z v) e k))

  -- a front of no more tokens is shallow
  pub shallow_fronts : (n : ℕ) (u v : List (Mark T)) → length u ≤ n → ShallowFor n (u ++ v) → Shallow u
  shallow_fronts n [] v l h = tt
  shallow_fronts zero (m ∷ u) v l h = absurd (omega arith)
  shallow_fronts (suc n) (m ∷ u) v l h = (h.0, shallow_fronts n u v (omega arith) h.1)
