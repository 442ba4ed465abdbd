-- One part behind another, which may depend on it.
use Rattle.std.proofs.Common.{◌≡◌, Bool, true, false, cond, List, [], ◌∷◌, ◌++◌, refl, ap, sym, ◌∙◌, subst, append_assoc}
use Rattle.reader_theory.specs.Words.{Mark, bare, Cause, expected, too_deep, Verdict, found, fault}
use Rattle.reader_theory.specs.Readers.{joined, then_by, both_by, both}
use Rattle.reader_theory.specs.Exactness.{judge, Stops, Local, Finds, Tells, Exact}
use Rattle.reader_theory.specs.Languages.{By}
use Rattle.reader_theory.proofs.Independent.{Both}
use Rattle.reader_theory.proofs.Marks.{shallow_append, regroup}

-- a part that stops further on stops there whatever comes behind
pub local_at : {T A : Type 0} (p : List T → Verdict T A) (front : List T) (a : A) (rest w : List T) (y : T) (u v : List T) → Local p front (found a rest) → rest ≡ w ++ y ∷ u → p (front ++ (w ++ y ∷ v)) ≡ found a (w ++ y ∷ v)
local_at {T} p front a [] [] y u v h e = absurd (cc)
local_at {T} p front a [] (x ∷ w) y u v h e = absurd (cc)
local_at {T} p front a (z ∷ rest) [] y u v h e = let k : z ≡ y = cc in subst (λ t. p (front ++ t ∷ v) ≡ found a (t ∷ v)) k (h v)
local_at {T} p front a (z ∷ rest) (x ∷ w) y u v h e = let k : z ≡ x = cc in subst (λ t. p (front ++ t ∷ (w ++ y ∷ v)) ≡ found a (t ∷ (w ++ y ∷ v))) k (h (w ++ y ∷ v))

module _ {T A B C : Type 0} (f : A → B → C) (L : A → List (Mark T) → Type 0) (M : A → B → List (Mark T) → Type 0) (p : List T → Verdict T A) (q : A → List T → Verdict T B) where
  joined_judge : (a : A) (b : B) (w : List (Mark T)) (rest : List T) → joined f a (judge w b rest) ≡ judge w (f a b) rest
  joined_judge a b [] rest = refl
  joined_judge a b (m ∷ w) rest = elim m.deep as (λ d. joined f a (cond d (fault too_deep (m.token ∷ bare w ++ rest)) (judge w b rest)) ≡ cond d (fault too_deep (m.token ∷ bare w ++ rest)) (judge w (f a b) rest)) [ true ↦ refl | false ↦ joined_judge a b w rest ]

  then_judge : (a : A) (b : B) (u v : List (Mark T)) (rest : List T) → q a (bare v ++ rest) ≡ judge v b rest → then_by f q (judge u a (bare v ++ rest)) ≡ judge (u ++ v) (f a b) rest
  then_judge a b [] v rest e = ap (joined f a) e ∙ joined_judge a b v rest
  then_judge a b (m ∷ u) v rest e = elim m.deep as (λ d. then_by f q (cond d (fault too_deep (m.token ∷ bare u ++ (bare v ++ rest))) (judge u a (bare v ++ rest))) ≡ cond d (fault too_deep (m.token ∷ bare (u ++ v) ++ rest)) (judge (u ++ v) (f a b) rest)) [
    | true ↦ ap (λ xs. fault too_deep (m.token ∷ xs)) (regroup u v rest)
    | false ↦ then_judge a b u v rest e
  ]

  second_alone : (a : A) (b : B) (u v : List (Mark T)) (rest behind : List T) → Local p (bare u) (found a rest) → rest ≡ bare v ++ behind → Local (q a) (bare v) (found b behind) → Local (both_by f p q) (bare (u ++ v)) (found (f a b) behind)
  second_alone a b u v rest [] h e k = tt
  second_alone a b u v rest (y ∷ behind) h e k = λ z.
      let s = local_at p (bare u) a rest (bare v) y behind z h e in
      ap (both_by f p q) (sym (regroup u v (y ∷ z))) ∙ (ap (then_by f q) s ∙ ap (joined f a) (k z))

  second_fails : (a : A) (c : Cause) (u v : List (Mark T)) (rest behind : List T) → Local p (bare u) (found a rest) → rest ≡ bare v ++ behind → Local (q a) (bare v) (fault c behind) → Local (both_by f p q) (bare (u ++ v)) (fault c behind)
  second_fails a c u v rest [] h e k = tt
  second_fails a c u v rest (y ∷ behind) h e k = λ z.
      let s = local_at p (bare u) a rest (bare v) y behind z h e in
      ap (both_by f p q) (sym (regroup u v (y ∷ z))) ∙ (ap (then_by f q) s ∙ ap (joined f a) (k z))

  first_fails : (c : Cause) (front rest : List T) → Local p front (fault c rest) → Local (both_by f p q) front (fault c rest)
  first_fails c front [] h = tt
  first_fails c front (y ∷ rest) h = λ v. ap (then_by f q) (h v)

  module _ (more also : T → Bool) (x : Exact L more p) (y : (a : A) → Exact (M a) also (q a)) (apart : (a : A) (b : B) (w : List (Mark T)) (rest : List T) → M a b w → Stops also rest → Stops more (bare w ++ rest)) where
    tells_second : (ts : List T) (a : A) (rest : List T) → Finds L p ts a rest → (v : Verdict T B) → Tells (M a) (q a) rest v → Tells (By f L M) (both_by f p q) ts (joined f a v)
    tells_second ts a rest s (found b behind) t = record {
      word = s.word ++ t.word;
      is_word = (a, b, refl, (s.word, t.word, s.is_word, t.is_word, refl));
      shallow = shallow_append s.word t.word s.shallow t.shallow;
      split = s.split ∙ (ap (λ xs. bare s.word ++ xs) t.split ∙ regroup s.word t.word behind);
      alone = second_alone a b s.word t.word rest behind s.alone t.split t.alone;
    }
    tells_second ts a rest s (fault expected behind) t = record {
      tree = f a t.tree;
      front = s.word ++ t.front;
      back = t.back;
      is_word = (a, t.tree, refl, (s.word, t.front ++ t.back, s.is_word, t.is_word, append_assoc s.word t.front t.back));
      shallow = shallow_append s.word t.front s.shallow t.shallow;
      split = s.split ∙ (ap (λ xs. bare s.word ++ xs) t.split ∙ regroup s.word t.front behind);
      alone = second_fails a expected s.word t.front rest behind s.alone t.split t.alone;
    }
    tells_second ts a rest s (fault too_deep behind) t = record {
      tree = f a t.tree;
      front = s.word ++ t.front;
      at = t.at;
      back = t.back;
      behind = t.behind;
      is_word = (a, t.tree, refl, (s.word, t.front ++ t.at ∷ t.back, s.is_word, t.is_word, append_assoc s.word t.front (t.at ∷ t.back)));
      shallow = shallow_append s.word t.front s.shallow t.shallow;
      deep = t.deep;
      is_rest = t.is_rest;
      split = s.split ∙ (ap (λ xs. bare s.word ++ xs) t.split ∙ regroup s.word t.front behind);
      alone = second_fails a too_deep s.word t.front rest behind s.alone t.split t.alone;
    }

    tells_first : (ts : List T) (v : Verdict T A) → Tells L p ts v → Tells (By f L M) (both_by f p q) ts (then_by f q v)
    tells_first ts (found a rest) s = tells_second ts a rest s (q a rest) ((y a).tells rest)
    tells_first ts (fault expected rest) s = record {
      tree = f s.tree (y s.tree).some;
      front = s.front;
      back = s.back ++ (y s.tree).some_word;
      is_word = (s.tree, (y s.tree).some, refl, (s.front ++ s.back, (y s.tree).some_word, s.is_word, (y s.tree).is_some, sym (append_assoc s.front s.back (y s.tree).some_word)));
      shallow = s.shallow;
      split = s.split;
      alone = first_fails expected (bare s.front) rest s.alone;
    }
    tells_first ts (fault too_deep rest) s = record {
      tree = f s.tree (y s.tree).some;
      front = s.front;
      at = s.at;
      back = s.back ++ (y s.tree).some_word;
      behind = s.behind;
      is_word = (s.tree, (y s.tree).some, refl, (s.front ++ s.at ∷ s.back, (y s.tree).some_word, s.is_word, (y s.tree).is_some, sym (append_assoc s.front (s.at ∷ s.back) (y s.tree).some_word)));
      shallow = s.shallow;
      deep = s.deep;
      is_rest = s.is_rest;
      split = s.split;
      alone = first_fails too_deep (bare s.front) rest s.alone;
    }

    given_both : (c : C) (w : List (Mark T)) (rest : List T) → By f L M c w → Stops also rest → both_by f p q (bare w ++ rest) ≡ judge w c rest
    given_both c w rest (a, b, e, (u, v, h, k, split)) stops =
        let g = x.given a u (bare v ++ rest) h (apart a b v rest k stops) in
        let d : bare w ++ rest ≡ bare u ++ (bare v ++ rest) = ap (λ z. bare z ++ rest) split ∙ sym (regroup u v rest) in
        ap (both_by f p q) d ∙ (ap (then_by f q) g ∙ (then_judge a b u v rest ((y a).given b v rest k stops) ∙ (ap (λ z. judge z (f a b) rest) (sym split) ∙ ap (λ z. judge w z rest) (sym e))))

    pub exact_by : Exact (By f L M) also (both_by f p q)
    exact_by = record {
      tells = λ ts. tells_first ts (p ts) (x.tells ts);
      given = given_both;
      some = f x.some (y x.some).some;
      some_word = x.some_word ++ (y x.some).some_word;
      is_some = (x.some, (y x.some).some, refl, (x.some_word, (y x.some).some_word, x.is_some, (y x.some).is_some, refl));
    }

-- the second part is the same whatever the first is
module _ {T A B C : Type 0} (f : A → B → C) (L : A → List (Mark T) → Type 0) (M : B → List (Mark T) → Type 0) (p : List T → Verdict T A) (q : List T → Verdict T B) (more also : T → Bool) (x : Exact L more p) (y : Exact M also q) (apart : (b : B) (w : List (Mark T)) (rest : List T) → M b w → Stops also rest → Stops more (bare w ++ rest)) where
  pub exact_both : Exact (Both f L M) also (both f p q)
  exact_both = exact_by f L (λ _. M) p (λ _. q) more also x (λ _. y) (λ _. apart)
