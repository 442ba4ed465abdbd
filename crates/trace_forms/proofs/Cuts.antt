-- Texts that are cut where a class of bytes ends: the same text is cut at the same place.
use Rattle.std.proofs.Common.{◌≡◌, ℕ, ◌<◌, Bool, true, false, not, ◌&&◌, List, [], ◌∷◌, ◌++◌, flat_map, length, refl}
use Rattle.std.proofs.Common.{ap, sym, ◌∙◌, subst, true≢false, arith}
use Rattle.std.specs.List.{list_all}
use Rattle.std.proofs.lemmas.List.Folds.{list_all-append}
use Rattle.trace_theory.specs.Entries.{Each}
use Rattle.trace_text.specs.TraceText.{behind, joined}

pub and_first : (a b : Bool) → (a && b) ≡ true → a ≡ true
and_first true b h = refl
and_first false b h = h

pub and_second : (a b : Bool) → (a && b) ≡ true → b ≡ true
and_second true b h = h
and_second false b h = absurd (true≢false (sym h))

pub and_both : (a b : Bool) → a ≡ true → b ≡ true → (a && b) ≡ true
and_both a b p q = ap (λ x. x && b) p ∙ q

-- a byte isn't in a class and outside of it
pub not_both : (a : Bool) → a ≡ true → not a ≡ true → ⊥
not_both a p q = true≢false (sym q ∙ ap not p)

-- what follows doesn't begin with a byte of the class
abbrev pub stops : (ℕ → Bool) → List ℕ → Bool
stops test [] = true
stops test (b ∷ bs) = not (test b)

-- two texts of a class, each with what follows it: if all is the same, so are the texts
pub span_same : (test : ℕ → Bool) (xs ys r s : List ℕ) → list_all test xs ≡ true → list_all test ys ≡ true
    → stops test r ≡ true → stops test s ≡ true → xs ++ r ≡ ys ++ s → (xs ≡ ys) × (r ≡ s)
span_same test [] [] r s hx hy sr ss e = (refl, e)
span_same test [] (y ∷ ys) r s hx hy sr ss e =
    absurd (not_both (test y) (and_first (test y) _ hy) (subst (λ z. stops test z ≡ true) e sr))
span_same test (x ∷ xs) [] r s hx hy sr ss e =
    absurd (not_both (test x) (and_first (test x) _ hx) (subst (λ z. stops test z ≡ true) (sym e) ss))
span_same test (x ∷ xs) (y ∷ ys) r s hx hy sr ss e =
    let h : x ≡ y = cc in
    let t : xs ++ r ≡ ys ++ s = cc in
    let q = span_same test xs ys r s (and_second (test x) _ hx) (and_second (test y) _ hy) sr ss t in
    ((λ i. h i ∷ q.0 i), q.1)

-- a text of the class isn't one that has a byte outside of it
pub differ_by : (test : ℕ → Bool) (xs ys : List ℕ) → list_all test xs ≡ true → list_all test ys ≡ false → xs ≡ ys → ⊥
differ_by test xs ys p q e = true≢false (sym p ∙ ap (list_all test) e ∙ q)

pub all_append : (test : ℕ → Bool) (xs ys : List ℕ) → list_all test xs ≡ true → list_all test ys ≡ true
    → list_all test (xs ++ ys) ≡ true
all_append test xs ys p q = list_all-append test xs ys ∙ and_both (list_all test xs) (list_all test ys) p q

-- a class within another one
pub all_within : (test wide : ℕ → Bool) → ((b : ℕ) → test b ≡ true → wide b ≡ true) → (xs : List ℕ)
    → list_all test xs ≡ true → list_all wide xs ≡ true
all_within test wide f [] h = refl
all_within test wide f (x ∷ xs) h = and_both (wide x) _ (f x (and_first (test x) _ h))
    (all_within test wide f xs (and_second (test x) _ h))

-- the texts of items with a byte between them
module _ {A : Type 0} (P : A → Type 0) (test : ℕ → Bool) (c : ℕ) (text : A → List ℕ) where
  -- what is wanted of each item's text
  pub record Items : Type 0 where
    pub outside : test c ≡ false
    pub inside : (x : A) → P x → list_all test (text x) ≡ true
    pub same : (x y : A) → P x → P y → text x ≡ text y → x ≡ y

  pub flat_stops : Items → (xs : List A) → stops test (flat_map (behind (c ∷ []) text) xs) ≡ true
  flat_stops i [] = refl
  flat_stops i (x ∷ xs) = ap not i.outside

  pub flat_same : Items → (xs ys : List A) → Each P xs → Each P ys → flat_map (behind (c ∷ []) text) xs ≡ flat_map
      (behind (c ∷ []) text) ys → xs ≡ ys
  flat_same i [] [] px py e = refl
  flat_same i [] (y ∷ ys) px py e = absurd (cc)
  flat_same i (x ∷ xs) [] px py e = absurd (cc)
  flat_same i (x ∷ xs) (y ∷ ys) px py e =
      let t : text x ++ flat_map (behind (c ∷ []) text) xs ≡ text y ++ flat_map (behind (c ∷ []) text) ys = cc in
      let q = span_same test (text x) (text y) (flat_map (behind (c ∷ []) text) xs)
      (flat_map (behind (c ∷ []) text) ys) (i.inside x px.0) (i.inside y py.0) (flat_stops i xs)
      (flat_stops i ys) t in
      let h = i.same x y px.0 py.0 q.0 in
      let r = flat_same i xs ys px.1 py.1 q.1 in
      (λ k. h k ∷ r k)

  pub joined_same : Items → ((x : A) → P x → 0 < length (text x)) → (xs ys : List A) → Each P xs → Each P ys
      → joined (c ∷ []) text xs ≡ joined (c ∷ []) text ys → xs ≡ ys
  joined_same i some [] [] px py e = refl
  joined_same i some [] (y ∷ ys) px py e = absurd (empty_front (text y) _ (some y py.0) (sym e))
    where
      empty_front : (zs ws : List ℕ) → 0 < length zs → zs ++ ws ≡ [] → ⊥
      empty_front [] ws k h = omega arith
      empty_front (z ∷ zs) ws k h = cc
  joined_same i some (x ∷ xs) [] px py e = absurd (empty_front (text x) _ (some x px.0) e)
    where
      empty_front : (zs ws : List ℕ) → 0 < length zs → zs ++ ws ≡ [] → ⊥
      empty_front [] ws k h = omega arith
      empty_front (z ∷ zs) ws k h = cc
  joined_same i some (x ∷ xs) (y ∷ ys) px py e =
      let q = span_same test (text x) (text y) (flat_map (behind (c ∷ []) text) xs)
      (flat_map (behind (c ∷ []) text) ys) (i.inside x px.0) (i.inside y py.0) (flat_stops i xs)
      (flat_stops i ys) e in
      let h = i.same x y px.0 py.0 q.0 in
      let r = flat_same i xs ys px.1 py.1 q.1 in
      (λ k. h k ∷ r k)

  -- all of it is in a wider class
  pub flat_inside : Items → (wide : ℕ → Bool) → wide c ≡ true → ((b : ℕ) → test b ≡ true → wide b ≡ true)
      → (xs : List A) → Each P xs → list_all wide (flat_map (behind (c ∷ []) text) xs) ≡ true
  flat_inside i wide w f [] px = refl
  flat_inside i wide w f (x ∷ xs) px =
      and_both (wide c) _ w
      (all_append wide (text x) _ (all_within test wide f (text x) (i.inside x px.0))
      (flat_inside i wide w f xs px.1))

  pub joined_inside : Items → (wide : ℕ → Bool) → wide c ≡ true → ((b : ℕ) → test b ≡ true → wide b ≡ true)
      → (xs : List A) → Each P xs → list_all wide (joined (c ∷ []) text xs) ≡ true
  joined_inside i wide w f [] px = refl
  joined_inside i wide w f (x ∷ xs) px =
      all_append wide (text x) _ (all_within test wide f (text x) (i.inside x px.0)) (flat_inside i wide w f xs px.1)
