-- Repetition, in which the items so far may decide what the next may be.
use Rattle.std.proofs.Common.{◌≡◌, ℕ, zero, suc, ◌≤◌, Bool, true, false, cond, List, [], ◌∷◌, ◌++◌, inl, inr, refl, ap, sym, ◌∙◌, subst, arith, length}
use Rattle.std.proofs.lemmas.List.{length-append}
use Rattle.reader_theory.specs.Words.{Mark, bare, Verdict, found, fault}
use Rattle.reader_theory.specs.Readers.{joined, then_by, both_by, more_of, several_by, many_by, many}
use Rattle.reader_theory.specs.Exactness.{Stops, never, Heads, Finds, Tells, Exact}
use Rattle.reader_theory.specs.Languages.{Nothing, Or, By, Items_by, Items}
use Rattle.reader_theory.proofs.Marks.{bare_append, heads_more, never_stops}
use Rattle.reader_theory.proofs.Single.{exact_nothing, widen}
use Rattle.reader_theory.proofs.Choice.{exact_pick}
use Rattle.reader_theory.proofs.Sequence.{exact_by}
use Rattle.reader_theory.proofs.Fuel.{exact_fueled}

-- no more than so many items
abbrev Several_by : {T A S : Type 0} → (S → A → List (Mark T) → Type 0) → (S → A → S) → ℕ → S → List A → List (Mark T) → Type 0
Several_by L next zero s = Nothing []
Several_by L next (suc n) s = Or (By more_of (L s) (λ a. Several_by L next n (next s a))) (Nothing [])

module _ {T A S : Type 0} (L : S → A → List (Mark T) → Type 0) (p : S → List T → Verdict T A) (next : S → A → S) (test first more : T → Bool) (x : (s : S) → Exact (L s) first (p s)) (heads : (s : S) (a : A) (w : List (Mark T)) → L s a w → Heads test w) (wide : (rest : List T) → Stops more rest → Stops first rest) (ends : (rest : List T) → Stops more rest → Stops test rest) (goes : (z : T) → test z ≡ true → first z ≡ false) where
  begins : (w : List (Mark T)) (rest : List T) → Heads test w → Stops first (bare w ++ rest)
  begins [] rest h = absurd h
  begins (m ∷ w) rest h = goes m.token h

  -- behind an item stands an item, or what stands behind them all
  apart : (n : ℕ) (s : S) (es : List A) (w : List (Mark T)) (rest : List T) → Several_by L next n s es w → Stops more rest → Stops first (bare w ++ rest)
  apart zero s es w rest h stops = subst (λ z. Stops first (bare z ++ rest)) (sym h.1) (wide rest stops)
  apart (suc n) s es w rest (inl (a, bs, e, (u, v, h, k, split))) stops = subst (λ z. Stops first (bare z ++ rest)) (sym split) (begins (u ++ v) rest (heads_more test u v (heads s a u h)))
  apart (suc n) s es w rest (inr h) stops = subst (λ z. Stops first (bare z ++ rest)) (sym h.1) (wide rest stops)

  exact_several_by : (n : ℕ) (s : S) → Exact (Several_by L next n s) more (several_by test p next n s)
  exact_several_by zero s = widen (Nothing []) (found []) never more (exact_nothing []) (λ rest h. never_stops rest)
  exact_several_by (suc n) s = exact_pick test (By more_of (L s) (λ a. Several_by L next n (next s a))) (Nothing []) (both_by more_of (p s) (λ a. several_by test p next n (next s a))) (found []) more never
      (exact_by more_of (L s) (λ a. Several_by L next n (next s a)) (p s) (λ a. several_by test p next n (next s a)) first more (x s) (λ a. exact_several_by n (next s a)) (λ a. apart n (next s a)))
      (exact_nothing []) more
      (λ es w (a, bs, e, (u, v, h, k, split)). subst (Heads test) (sym split) (heads_more test u v (heads s a u h)))
      (λ es w rest h stops. subst (λ z. Stops test (bare z ++ rest)) (sym h.1) (ends rest stops))
      (λ rest h. h) (λ rest h. never_stops rest)

  -- what is left behind an item is shorter
  shorter : (s : S) (z : T) (rest : List T) (a : A) (left : List T) → Finds (L s) (p s) (z ∷ rest) a left → length left ≤ length rest
  shorter s z rest a left t = by_word t.word (heads s a t.word t.is_word) t.split
    where
      by_word : (w : List (Mark T)) → Heads test w → z ∷ rest ≡ bare w ++ left → length left ≤ length rest
      by_word [] h e = absurd h
      by_word (m ∷ w) h e =
          let k : rest ≡ bare w ++ left = cc in
          let l = ap length k ∙ length-append (bare w) left in
          omega arith

  agree_behind : (n m : ℕ) (s : S) (z : T) (rest : List T) → ((r : S) (ts : List T) → length ts ≤ length rest → several_by test p next n r ts ≡ several_by test p next m r ts) → (v : Verdict T A) → Tells (L s) (p s) (z ∷ rest) v → then_by more_of (λ a. several_by test p next n (next s a)) v ≡ then_by more_of (λ a. several_by test p next m (next s a)) v
  agree_behind n m s z rest same (found a left) t = ap (joined more_of a) (same (next s a) left (shorter s z rest a left t))
  agree_behind n m s z rest same (fault c left) t = refl

  -- as much fuel as there are tokens is enough
  agree : (n m : ℕ) (s : S) (ts : List T) → length ts ≤ n → length ts ≤ m → several_by test p next n s ts ≡ several_by test p next m s ts
  agree zero zero s ts h k = refl
  agree zero (suc m) s [] h k = refl
  agree zero (suc m) s (z ∷ rest) h k = absurd (omega arith)
  agree (suc n) zero s [] h k = refl
  agree (suc n) zero s (z ∷ rest) h k = absurd (omega arith)
  agree (suc n) (suc m) s [] h k = refl
  agree (suc n) (suc m) s (z ∷ rest) h k =
      ap (λ v. cond (test z) v (found [] (z ∷ rest))) (agree_behind n m s z rest (λ r ts l. agree n m r ts (omega arith) (omega arith)) (p s (z ∷ rest)) ((x s).tells (z ∷ rest)))

  into_items : (n : ℕ) (s : S) (es : List A) (w : List (Mark T)) → Several_by L next n s es w → Items_by L next es s w
  into_items zero s es w h = subst (λ z. Items_by L next z s w) (sym h.0) h.1
  into_items (suc n) s es w (inl (a, bs, e, (u, v, h, k, split))) = subst (λ z. Items_by L next z s w) (sym e) (u, v, h, into_items n (next s a) bs v k, split)
  into_items (suc n) s es w (inr h) = subst (λ z. Items_by L next z s w) (sym h.0) h.1

  longer : (u v w : List (Mark T)) (n : ℕ) → Heads test u → w ≡ u ++ v → length (bare w) ≤ suc n → length (bare v) ≤ n
  longer [] v w n h e k = absurd h
  longer (m ∷ u) v w n h e k =
      let l = ap (λ z. length (bare z)) e ∙ ap (λ z. suc (length z)) (bare_append u v) in
      let s = length-append (bare u) (bare v) in
      omega arith

  none : (u v w : List (Mark T)) → Heads test u → length (bare w) ≤ 0 → w ≡ u ++ v → ⊥
  none [] v w b h e = b
  none (m ∷ u) v w b h e = let l = ap (λ z. length (bare z)) e in absurd (omega arith)

  enough_fuel : (n : ℕ) (s : S) (es : List A) (w : List (Mark T)) → length (bare w) ≤ n → Items_by L next es s w → Several_by L next n s es w
  enough_fuel zero s [] w h k = (refl, k)
  enough_fuel (suc n) s [] w h k = inr (refl, k)
  enough_fuel zero s (a ∷ es) w h (u, v, i, j, split) = absurd (none u v w (heads s a u i) h split)
  enough_fuel (suc n) s (a ∷ es) w h (u, v, i, j, split) = inl (a, es, refl, (u, v, i, enough_fuel n (next s a) es v (longer u v w n (heads s a u i) split h) j, split))

  pub exact_many_by : (s : S) → Exact (λ es w. Items_by L next es s w) more (many_by test p next s)
  exact_many_by s = exact_fueled (λ n. Several_by L next n s) (λ es w. Items_by L next es s w) (λ n. several_by test p next n s) more (λ n. exact_several_by n s) (λ n. into_items n s) (λ n. enough_fuel n s) (λ n m. agree n m s)

-- all items are alike
module _ {T A : Type 0} (L : A → List (Mark T) → Type 0) (p : List T → Verdict T A) (test first more : T → Bool) (x : Exact L first p) (heads : (a : A) (w : List (Mark T)) → L a w → Heads test w) (wide : (rest : List T) → Stops more rest → Stops first rest) (ends : (rest : List T) → Stops more rest → Stops test rest) (goes : (z : T) → test z ≡ true → first z ≡ false) where
  pub exact_many : Exact (Items L) more (many test p)
  exact_many = exact_many_by {S = Unit {0}} (λ _. L) (λ _. p) (λ s a. s) test first more (λ _. x) (λ _. heads) wide ends goes tt
