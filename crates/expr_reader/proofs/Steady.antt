-- Readers that look no further than where they stop. Of two texts that are alike up to a place both get one answer
-- where it stops before that place; where the reader comes to the place in both and finds something up to there in the
-- one, in the other it doesn't expect more there.
use Rattle.std.proofs.Common.{◌≡◌, ℕ, zero, suc, ◌+◌, ◌≤◌, Bool, true, false, cond, List, [], ◌∷◌, ◌++◌, ◌⊎◌, inl, inr, length, refl, ap, sym, subst, arith}
use Rattle.std.specs.Prelude.{Some, None}
use Rattle.reader_theory.specs.Words.{Cause, expected, too_deep, Verdict, found, fault}
use Rattle.reader_theory.specs.Readers.{token, sunk, turned, mapped, joined, then_by, both_by, both, pick, two_pass, ahead, optional, more_of, several_by, many_by, rest_of}

module _ {T : Type 0} where
  -- the answer to z ∷ t, or to a text that ends so, stops behind z, or at z since a level too deep begins there
  abbrev pub Past : {A : Type 0} → List T → Verdict T A → Type 0
  Past t (found a r) = length r ≤ length t
  Past t (fault expected r) = length r ≤ length t
  Past t (fault too_deep r) = length r ≤ suc (length t)

  -- it stops at z or behind it
  abbrev pub Near : {A : Type 0} → List T → Verdict T A → Type 0
  Near t v = length (rest_of v) ≤ suc (length t)

  -- the answers to two texts of which the one ends with x ∷ u and the other with y ∷ v, alike in front of that
  pub data Agree {A : Type 0} (x y : T) (u v : List T) (V W : Verdict T A) : Type 0 where
    read : (a : A) (g : List T) → V ≡ found a (g ++ x ∷ u) → W ≡ found a (g ++ y ∷ v) → Agree x y u v V W
    stop : (c : Cause) (g : List T) → V ≡ fault c (g ++ x ∷ u) → W ≡ fault c (g ++ y ∷ v) → Agree x y u v V W
    past : Near u V → Near v W → Past u V ⊎ Past v W → Agree x y u v V W

  pub record Firm {A : Type 0} (p : List T → Verdict T A) : Type 0 where
    pub shrinks : (ts : List T) → length (rest_of (p ts)) ≤ length ts
    pub steady : (x y : T) (u v g : List T) → Agree x y u v (p (g ++ x ∷ u)) (p (g ++ y ∷ v))

  -- the reader takes a first token that passes, or it is too deep
  abbrev pub Passes : {A : Type 0} → (T → Bool) → (List T → Verdict T A) → Type 0
  Passes test p = (z : T) (t : List T) → test z ≡ true → Past t (p (z ∷ t))

  -- the reader takes a first token that passes
  abbrev pub Takes : {A : Type 0} → (T → Bool) → (List T → Verdict T A) → Type 0
  Takes test p = (z : T) (t : List T) → test z ≡ true → length (rest_of (p (z ∷ t))) ≤ length t

  -- what it finds has a token
  abbrev pub Solid : {A : Type 0} → (List T → Verdict T A) → Type 0
  Solid {A} p = (z : T) (t : List T) (a : A) (r : List T) → p (z ∷ t) ≡ found a r → length r ≤ length t

  pub past_short : {A : Type 0} (t : List T) (V : Verdict T A) → length (rest_of V) ≤ length t → Past t V
  past_short t (found a r) l = l
  past_short t (fault expected r) l = l
  past_short t (fault too_deep r) l = omega arith

  -- other trees
  pub past_turned : {A B : Type 0} (f : A → B) (t : List T) (V : Verdict T A) → Past t V → Past t (turned f V)
  past_turned f t (found a r) h = h
  past_turned f t (fault expected r) h = h
  past_turned f t (fault too_deep r) h = h

  pub rest_turned : {A B : Type 0} (f : A → B) (V : Verdict T A) → rest_of (turned f V) ≡ rest_of V
  rest_turned f (found a r) = refl
  rest_turned f (fault c r) = refl

  past_joined : {A B C : Type 0} (f : A → B → C) (a : A) (t : List T) (V : Verdict T B) → Past t V → Past t (joined f a V)
  past_joined f a t (found b r) h = h
  past_joined f a t (fault expected r) h = h
  past_joined f a t (fault too_deep r) h = h

  pub rest_joined : {A B C : Type 0} (f : A → B → C) (a : A) (V : Verdict T B) → rest_of (joined f a V) ≡ rest_of V
  rest_joined f a (found b r) = refl
  rest_joined f a (fault c r) = refl

  module _ (x y : T) (u v : List T) where
    pub either_past : {A B : Type 0} (V W : Verdict T A) (X Y : Verdict T B) → (Past u V → Past u X) → (Past v W → Past v Y) → Past u V ⊎ Past v W → Past u X ⊎ Past v Y
    either_past V W X Y f g (inl h) = inl (f h)
    either_past V W X Y f g (inr h) = inr (g h)

    pub agree_turned : {A B : Type 0} (f : A → B) (V W : Verdict T A) → Agree x y u v V W → Agree x y u v (turned f V) (turned f W)
    agree_turned f V W (read a g e h) = read (f a) g (ap (turned f) e) (ap (turned f) h)
    agree_turned f V W (stop c g e h) = stop c g (ap (turned f) e) (ap (turned f) h)
    agree_turned f V W (past n m o) =
        let i = ap length (rest_turned f V) in
        let j = ap length (rest_turned f W) in
        past (omega arith) (omega arith) (either_past V W (turned f V) (turned f W) (past_turned f u V) (past_turned f v W) o)

    agree_joined : {A B C : Type 0} (f : A → B → C) (a : A) (V W : Verdict T B) → Agree x y u v V W → Agree x y u v (joined f a V) (joined f a W)
    agree_joined f a V W (read b g e h) = read (f a b) g (ap (joined f a) e) (ap (joined f a) h)
    agree_joined f a V W (stop c g e h) = stop c g (ap (joined f a) e) (ap (joined f a) h)
    agree_joined f a V W (past n m o) =
        let i = ap length (rest_joined f a V) in
        let j = ap length (rest_joined f a W) in
        past (omega arith) (omega arith) (either_past V W (joined f a V) (joined f a W) (past_joined f a u V) (past_joined f a v W) o)

    pub agree_as : {A : Type 0} (V W X Y : Verdict T A) → V ≡ X → W ≡ Y → Agree x y u v X Y → Agree x y u v V W
    agree_as V W X Y e h k = subst (λ z. Agree x y u v z W) (sym e) (subst (λ z. Agree x y u v X z) (sym h) k)

  -- one part behind another
  module _ {A B C : Type 0} (f : A → B → C) (q : A → List T → Verdict T B) (shrinks : (a : A) (ts : List T) → length (rest_of (q a ts)) ≤ length ts) where
    rest_then : (V : Verdict T A) → length (rest_of (then_by f q V)) ≤ length (rest_of V)
    rest_then (found a r) = let i = ap length (rest_joined f a (q a r)) in let j = shrinks a r in omega arith
    rest_then (fault c r) = omega arith

    past_then : (t : List T) (V : Verdict T A) → Past t V → Past t (then_by f q V)
    past_then t (found a r) h = past_short t (joined f a (q a r)) (let i = ap length (rest_joined f a (q a r)) in let j = shrinks a r in omega arith)
    past_then t (fault expected r) h = h
    past_then t (fault too_deep r) h = h

    agree_then : ((a : A) → Firm (q a)) → (x y : T) (u v : List T) (V W : Verdict T A) → Agree x y u v V W → Agree x y u v (then_by f q V) (then_by f q W)
    agree_then firm x y u v V W (read a g e h) =
        agree_as x y u v (then_by f q V) (then_by f q W) (joined f a (q a (g ++ x ∷ u))) (joined f a (q a (g ++ y ∷ v))) (ap (then_by f q) e) (ap (then_by f q) h)
        (agree_joined x y u v f a (q a (g ++ x ∷ u)) (q a (g ++ y ∷ v)) ((firm a).steady x y u v g))
    agree_then firm x y u v V W (stop c g e h) = stop c g (ap (then_by f q) e) (ap (then_by f q) h)
    agree_then firm x y u v V W (past n m o) =
        let i = rest_then V in
        let j = rest_then W in
        past (omega arith) (omega arith) (either_past x y u v V W (then_by f q V) (then_by f q W) (past_then u V) (past_then v W) o)

    pub passes_by : (test : T → Bool) (p : List T → Verdict T A) → Passes test p → Passes test (both_by f p q)
    passes_by test p h z t e = past_then t (p (z ∷ t)) (h z t e)

    pub takes_by : (test : T → Bool) (p : List T → Verdict T A) → Takes test p → Takes test (both_by f p q)
    takes_by test p h z t e = let i = h z t e in let j = rest_then (p (z ∷ t)) in omega arith

    pub solid_by : (p : List T → Verdict T A) → Solid p → Solid (both_by f p q)
    solid_by p h z t c r e = by_verdict (p (z ∷ t)) refl e
      where
        by_verdict : (V : Verdict T A) → p (z ∷ t) ≡ V → then_by f q V ≡ found c r → length r ≤ length t
        by_verdict (found a s) k e = let i = h z t a s k in let j = shrinks a s in let l = ap length (rest_joined f a (q a s)) in let m = ap (λ w. length (rest_of w)) e in omega arith
        by_verdict (fault d s) k e = absurd (cc)

  pub firm_by : {A B C : Type 0} (f : A → B → C) (p : List T → Verdict T A) (q : A → List T → Verdict T B) → Firm p → ((a : A) → Firm (q a)) → Firm (both_by f p q)
  firm_by f p q k l = record {
    shrinks = λ ts. let i = rest_then f q (λ a. (l a).shrinks) (p ts) in let j = k.shrinks ts in omega arith;
    steady = λ x y u v g. agree_then f q (λ a. (l a).shrinks) l x y u v (p (g ++ x ∷ u)) (p (g ++ y ∷ v)) (k.steady x y u v g);
  }

  pub firm_both : {A B C : Type 0} (f : A → B → C) (p : List T → Verdict T A) (q : List T → Verdict T B) → Firm p → Firm q → Firm (both f p q)
  firm_both f p q k l = firm_by f p (λ _. q) k (λ _. l)

  pub firm_mapped : {A B : Type 0} (f : A → B) (p : List T → Verdict T A) → Firm p → Firm (mapped f p)
  firm_mapped f p k = record {
    shrinks = λ ts. let i = ap length (rest_turned f (p ts)) in let j = k.shrinks ts in omega arith;
    steady = λ x y u v g. agree_turned x y u v f (p (g ++ x ∷ u)) (p (g ++ y ∷ v)) (k.steady x y u v g);
  }

  pub passes_mapped : {A B : Type 0} (test : T → Bool) (f : A → B) (p : List T → Verdict T A) → Passes test p → Passes test (mapped f p)
  passes_mapped test f p h z t e = past_turned f t (p (z ∷ t)) (h z t e)

  pub takes_mapped : {A B : Type 0} (test : T → Bool) (f : A → B) (p : List T → Verdict T A) → Takes test p → Takes test (mapped f p)
  takes_mapped test f p h z t e = let i = h z t e in let j = ap length (rest_turned f (p (z ∷ t))) in omega arith

  pub solid_mapped : {A B : Type 0} (f : A → B) (p : List T → Verdict T A) → Solid p → Solid (mapped f p)
  solid_mapped f p h z t b r e = by_verdict (p (z ∷ t)) refl e
    where
      by_verdict : (V : Verdict T _) → p (z ∷ t) ≡ V → turned f V ≡ found b r → length r ≤ length t
      by_verdict (found a s) k e = let i = h z t a s k in let j = ap (λ w. length (rest_of w)) e in omega arith
      by_verdict (fault d s) k e = absurd (cc)

  -- no token, and one
  pub firm_found : {A : Type 0} (a : A) → Firm (found a)
  firm_found a = record { shrinks = λ ts. omega arith; steady = λ x y u v g. read a g refl refl }

  module _ (test : T → Bool) where
    one : Bool → T → List T → Verdict T T
    one b x u = cond b (found x u) (fault expected (x ∷ u))

    one_rest : (b : Bool) (x : T) (u : List T) → length (rest_of (one b x u)) ≤ suc (length u)
    unfolding one
    one_rest true x u = omega arith
    one_rest false x u = omega arith

    one_shrinks : (ts : List T) → length (rest_of (token test ts)) ≤ length ts
    unfolding one
    one_shrinks [] = omega arith
    one_shrinks (x ∷ u) = one_rest (test x) x u

    one_here : (x y : T) (u v : List T) (b c : Bool) → Agree x y u v (one b x u) (one c y v)
    unfolding one
    one_here x y u v true c = past (omega arith) (one_rest c y v) (inl (omega arith))
    one_here x y u v false true = past (omega arith) (omega arith) (inr (omega arith))
    one_here x y u v false false = stop expected [] refl refl

    one_before : (x y z : T) (u v g : List T) (b : Bool) → Agree x y u v (one b z (g ++ x ∷ u)) (one b z (g ++ y ∷ v))
    unfolding one
    one_before x y z u v g true = read z g refl refl
    one_before x y z u v g false = stop expected (z ∷ g) refl refl

    one_steady : (x y : T) (u v g : List T) → Agree x y u v (token test (g ++ x ∷ u)) (token test (g ++ y ∷ v))
    unfolding one
    one_steady x y u v [] = one_here x y u v (test x) (test y)
    one_steady x y u v (z ∷ g) = one_before x y z u v g (test z)

    pub firm_token : Firm (token test)
    firm_token = record { shrinks = one_shrinks; steady = one_steady }

    pub takes_token : Takes test (token test)
    takes_token z t e = subst (λ b. length (rest_of (cond b (found z t) (fault expected (z ∷ t)))) ≤ length t) (sym e) (omega arith)

    pub passes_token : Passes test (token test)
    passes_token z t e = past_short t (token test (z ∷ t)) (takes_token z t e)

    pub solid_token : Solid (token test)
    solid_token z t a r e = by_test (test z) e
      where
        by_test : (b : Bool) → cond b (found z t) (fault expected (z ∷ t)) ≡ found a r → length r ≤ length t
        by_test true e = let i = ap (λ w. length (rest_of w)) e in omega arith
        by_test false e = absurd (cc)

  -- a level that isn't there
  module _ (A : Type 0) (test : T → Bool) where
    deep : Bool → List T → Verdict T A
    deep b ts = cond b (fault too_deep ts) (fault expected ts)

    deep_rest : (b : Bool) (ts : List T) → length (rest_of (deep b ts)) ≤ length ts
    unfolding deep
    deep_rest true ts = omega arith
    deep_rest false ts = omega arith

    deep_shrinks : (ts : List T) → length (rest_of (sunk {A = A} test ts)) ≤ length ts
    unfolding deep
    deep_shrinks [] = omega arith
    deep_shrinks (x ∷ u) = deep_rest (test x) (x ∷ u)

    deep_here : (x y : T) (u v : List T) (b c : Bool) → Agree x y u v (deep b (x ∷ u)) (deep c (y ∷ v))
    unfolding deep
    deep_here x y u v true c = past (omega arith) (deep_rest c (y ∷ v)) (inl (omega arith))
    deep_here x y u v false true = past (omega arith) (omega arith) (inr (omega arith))
    deep_here x y u v false false = stop expected [] refl refl

    deep_before : (x y : T) (u v g : List T) (b : Bool) → Agree x y u v (deep b (g ++ x ∷ u)) (deep b (g ++ y ∷ v))
    unfolding deep
    deep_before x y u v g true = stop too_deep g refl refl
    deep_before x y u v g false = stop expected g refl refl

    deep_steady : (x y : T) (u v g : List T) → Agree x y u v (sunk {A = A} test (g ++ x ∷ u)) (sunk {A = A} test (g ++ y ∷ v))
    unfolding deep
    deep_steady x y u v [] = deep_here x y u v (test x) (test y)
    deep_steady x y u v (z ∷ g) = deep_before x y u v (z ∷ g) (test z)

    pub firm_sunk : Firm (sunk {A = A} test)
    firm_sunk = record { shrinks = deep_shrinks; steady = deep_steady }

    pub passes_sunk : Passes test (sunk {A = A} test)
    passes_sunk z t e = subst (λ b. Past t (cond {A = Verdict T A} b (fault too_deep (z ∷ t)) (fault expected (z ∷ t)))) (sym e) (omega arith)

    pub solid_sunk : Solid (sunk {A = A} test)
    solid_sunk z t a r e = by_test (test z) e
      where
        by_test : (b : Bool) → cond {A = Verdict T A} b (fault too_deep (z ∷ t)) (fault expected (z ∷ t)) ≡ found a r → length r ≤ length t
        by_test true e = absurd (cc)
        by_test false e = absurd (cc)

  -- a choice by the first token
  module _ {A : Type 0} (test : T → Bool) (p q : List T → Verdict T A) where
    chosen : Bool → List T → Verdict T A
    chosen b ts = cond b (p ts) (q ts)

    module _ (k : Firm p) (l : Firm q) where
      chosen_rest : (b : Bool) (ts : List T) → length (rest_of (chosen b ts)) ≤ length ts
      unfolding chosen
      chosen_rest true ts = k.shrinks ts
      chosen_rest false ts = l.shrinks ts

      chosen_before : (x y : T) (u v g : List T) (b : Bool) → Agree x y u v (chosen b (g ++ x ∷ u)) (chosen b (g ++ y ∷ v))
      unfolding chosen
      chosen_before x y u v g true = k.steady x y u v g
      chosen_before x y u v g false = l.steady x y u v g

      pick_shrinks : (ts : List T) → length (rest_of (pick test p q ts)) ≤ length ts
      unfolding chosen
      pick_shrinks [] = l.shrinks []
      pick_shrinks (x ∷ u) = chosen_rest (test x) (x ∷ u)

      module _ (passes : Passes test p) where
        chosen_here : (x y : T) (u v : List T) (b c : Bool) → (b ≡ true → Past u (p (x ∷ u))) → (c ≡ true → Past v (p (y ∷ v))) → Agree x y u v (chosen b (x ∷ u)) (chosen c (y ∷ v))
        unfolding chosen
        chosen_here x y u v true true f g = k.steady x y u v []
        chosen_here x y u v true false f g = past (k.shrinks (x ∷ u)) (l.shrinks (y ∷ v)) (inl (f refl))
        chosen_here x y u v false true f g = past (l.shrinks (x ∷ u)) (k.shrinks (y ∷ v)) (inr (g refl))
        chosen_here x y u v false false f g = l.steady x y u v []

        pick_steady : (x y : T) (u v g : List T) → Agree x y u v (pick test p q (g ++ x ∷ u)) (pick test p q (g ++ y ∷ v))
        unfolding chosen
        pick_steady x y u v [] = chosen_here x y u v (test x) (test y) (passes x u) (passes y v)
        pick_steady x y u v (z ∷ g) = chosen_before x y u v (z ∷ g) (test z)

        pub firm_pick : Firm (pick test p q)
        firm_pick = record { shrinks = pick_shrinks; steady = pick_steady }

    pub solid_pick : Solid p → Solid q → Solid (pick test p q)
    solid_pick k l z t a r e = by_test (test z) e
      where
        by_test : (b : Bool) → cond b (p (z ∷ t)) (q (z ∷ t)) ≡ found a r → length r ≤ length t
        by_test true e = k z t a r e
        by_test false e = l z t a r e

  pub firm_optional : {A : Type 0} (test : T → Bool) (p : List T → Verdict T A) → Firm p → Passes test p → Firm (optional test p)
  firm_optional test p k h = firm_pick test (mapped Some p) (found None) (firm_mapped Some p k) (firm_found None) (passes_mapped test Some p h)

  -- a choice by the first two tokens
  module _ {A : Type 0} (first second : T → Bool) (p q : List T → Verdict T A) (k : Firm p) (l : Firm q) (two : (z w : T) (t : List T) → first z ≡ true → second w ≡ true → length (rest_of (p (z ∷ w ∷ t))) ≤ length t) (takes : Takes first q) where
    by_two : Bool → List T → Verdict T A
    by_two b ts = cond b (p ts) (q ts)

    ahead_shrinks : (ts : List T) → length (rest_of (ahead first second p q ts)) ≤ length ts
    ahead_shrinks ts = by_test (two_pass first second ts)
      where
        by_test : (b : Bool) → length (rest_of (cond b (p ts) (q ts))) ≤ length ts
        by_test true = k.shrinks ts
        by_test false = l.shrinks ts

    two_before : (x y : T) (u v g : List T) (b : Bool) → Agree x y u v (by_two b (g ++ x ∷ u)) (by_two b (g ++ y ∷ v))
    unfolding by_two
    two_before x y u v g true = k.steady x y u v g
    two_before x y u v g false = l.steady x y u v g

    past_two : (z : T) (t : List T) → two_pass first second (z ∷ t) ≡ true → Past t (p (z ∷ t))
    past_two z [] e = absurd (cc)
    past_two z (w ∷ t) e = by_tests (first z) (second w) refl refl e
      where
        by_tests : (b c : Bool) → first z ≡ b → second w ≡ c → cond b c false ≡ true → Past (w ∷ t) (p (z ∷ w ∷ t))
        by_tests true true f g e = past_short (w ∷ t) (p (z ∷ w ∷ t)) (let i = two z w t f g in omega arith)
        by_tests true false f g e = absurd (cc)
        by_tests false c f g e = absurd (cc)

    two_here : (x y : T) (u v : List T) (b c : Bool) → (b ≡ true → Past u (p (x ∷ u))) → (c ≡ true → Past v (p (y ∷ v))) → Agree x y u v (by_two b (x ∷ u)) (by_two c (y ∷ v))
    unfolding by_two
    two_here x y u v true true f g = k.steady x y u v []
    two_here x y u v true false f g = past (k.shrinks (x ∷ u)) (l.shrinks (y ∷ v)) (inl (f refl))
    two_here x y u v false true f g = past (l.shrinks (x ∷ u)) (k.shrinks (y ∷ v)) (inr (g refl))
    two_here x y u v false false f g = l.steady x y u v []

    -- behind a first token that passes, the second decides
    two_there : (z x y : T) (u v : List T) → first z ≡ true → (b c : Bool) → second x ≡ b → second y ≡ c → Agree x y u v (by_two b (z ∷ x ∷ u)) (by_two c (z ∷ y ∷ v))
    unfolding by_two
    two_there z x y u v e true true f g = k.steady x y u v (z ∷ [])
    two_there z x y u v e true false f g = let i = two z x u e f in let j = takes z (y ∷ v) e in past (omega arith) (omega arith) (inl (past_short u (p (z ∷ x ∷ u)) i))
    two_there z x y u v e false true f g = let i = two z y v e g in let j = takes z (x ∷ u) e in past (omega arith) (omega arith) (inr (past_short v (p (z ∷ y ∷ v)) i))
    two_there z x y u v e false false f g = l.steady x y u v (z ∷ [])

    two_behind : (z x y : T) (u v : List T) (b : Bool) → first z ≡ b → Agree x y u v (by_two (cond b (second x) false) (z ∷ x ∷ u)) (by_two (cond b (second y) false) (z ∷ y ∷ v))
    unfolding by_two
    two_behind z x y u v true e = two_there z x y u v e (second x) (second y) refl refl
    two_behind z x y u v false e = l.steady x y u v (z ∷ [])

    ahead_steady : (x y : T) (u v g : List T) → Agree x y u v (ahead first second p q (g ++ x ∷ u)) (ahead first second p q (g ++ y ∷ v))
    unfolding by_two
    ahead_steady x y u v [] = two_here x y u v (two_pass first second (x ∷ u)) (two_pass first second (y ∷ v)) (past_two x u) (past_two y v)
    ahead_steady x y u v (z ∷ []) = two_behind z x y u v (first z) refl
    ahead_steady x y u v (z ∷ w ∷ g) = two_before x y u v (z ∷ w ∷ g) (cond (first z) (second w) false)

    pub firm_ahead : Firm (ahead first second p q)
    firm_ahead = record { shrinks = ahead_shrinks; steady = ahead_steady }

    pub passes_ahead : (test : T → Bool) → Passes test q → Passes test (ahead first second p q)
    passes_ahead test h z t e = by_test (two_pass first second (z ∷ t)) (past_two z t)
      where
        by_test : (b : Bool) → (b ≡ true → Past t (p (z ∷ t))) → Past t (cond b (p (z ∷ t)) (q (z ∷ t)))
        by_test true f = f refl
        by_test false f = h z t e

  -- repetition
  module _ {A S : Type 0} (test : T → Bool) (p : S → List T → Verdict T A) (next : S → A → S) (k : (s : S) → Firm (p s)) (passes : (s : S) → Passes test (p s)) where
    pub firm_several : (n : ℕ) (s : S) → Firm (several_by test p next n s)
    firm_several zero s = firm_found []
    firm_several (suc n) s = firm_pick test (both_by more_of (p s) (λ a. several_by test p next n (next s a))) (found [])
        (firm_by more_of (p s) (λ a. several_by test p next n (next s a)) (k s) (λ a. firm_several n (next s a))) (firm_found [])
        (passes_by more_of (λ a. several_by test p next n (next s a)) (λ a. (firm_several n (next s a)).shrinks) test (p s) (passes s))

    -- as much fuel as there are tokens is enough
    enough : (n m : ℕ) (s : S) (ts : List T) → length ts ≤ n → length ts ≤ m → several_by test p next n s ts ≡ several_by test p next m s ts
    enough zero zero s ts h i = refl
    enough zero (suc m) s [] h i = refl
    enough zero (suc m) s (z ∷ t) h i = absurd (omega arith)
    enough (suc n) zero s [] h i = refl
    enough (suc n) zero s (z ∷ t) h i = absurd (omega arith)
    enough (suc n) (suc m) s [] h i = refl
    enough (suc n) (suc m) s (z ∷ t) h i = by_test (λ a r l. enough n m (next s a) r (omega arith) (omega arith)) (test z) refl
      where
        behind : ((a : A) (r : List T) → length r ≤ length t → several_by test p next n (next s a) r ≡ several_by test p next m (next s a) r) → (V : Verdict T A) → Past t V → then_by more_of (λ a. several_by test p next n (next s a)) V ≡ then_by more_of (λ a. several_by test p next m (next s a)) V
        behind same (found a r) l = ap (joined more_of a) (same a r l)
        behind same (fault c r) l = refl

        by_test : ((a : A) (r : List T) → length r ≤ length t → several_by test p next n (next s a) r ≡ several_by test p next m (next s a) r) → (b : Bool) → test z ≡ b → cond b (then_by more_of (λ a. several_by test p next n (next s a)) (p s (z ∷ t))) (found [] (z ∷ t)) ≡ cond b (then_by more_of (λ a. several_by test p next m (next s a)) (p s (z ∷ t))) (found [] (z ∷ t))
        by_test same true e = behind same (p s (z ∷ t)) (passes s z t e)
        by_test same false e = refl

    pub firm_many : (s : S) → Firm (many_by test p next s)
    firm_many s = record {
      shrinks = λ ts. (firm_several (length ts) s).shrinks ts;
      steady = λ x y u v g.
          let n = length (g ++ x ∷ u) in
          let m = length (g ++ y ∷ v) in
          agree_as x y u v (many_by test p next s (g ++ x ∷ u)) (many_by test p next s (g ++ y ∷ v)) (several_by test p next (n + m) s (g ++ x ∷ u)) (several_by test p next (n + m) s (g ++ y ∷ v))
          (enough n (n + m) s (g ++ x ∷ u) (omega arith) (omega arith)) (enough m (n + m) s (g ++ y ∷ v) (omega arith) (omega arith)) ((firm_several (n + m) s).steady x y u v g);
    }
