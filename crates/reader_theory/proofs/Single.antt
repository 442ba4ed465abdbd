-- One token, nothing, the same words of other trees or said otherwise, and where more may go on.
use Rattle.std.proofs.Common.{◌≡◌, Bool, true, false, cond, List, [], ◌∷◌, ◌++◌, inl, inr, refl, ap, sym, ◌∙◌, subst}
use Rattle.std.proofs.lemmas.Bool.{cases_Bool}
use Rattle.reader_theory.specs.Words.{Mark, bare, Cause, expected, too_deep, Verdict, found, fault}
use Rattle.reader_theory.specs.Readers.{token, turned, mapped, rest_of}
use Rattle.reader_theory.specs.Exactness.{judge, Stops, never, Local, Misses, Tells, Exact}
use Rattle.reader_theory.specs.Languages.{Single, Nothing}

module _ {T : Type 0} (test : T → Bool) (sample : T) (fits : test sample ≡ true) where
  token_misses : (ts rest : List T) → ts ≡ rest → Local (token test) [] (fault expected rest) → Misses (Single test) (token test) ts rest
  token_misses ts rest e h = record {
    tree = sample;
    front = [];
    back = record { token = sample; deep = false } ∷ [];
    is_word = (fits, refl);
    shallow = tt;
    split = e;
    alone = h;
  }

  found_alone : (x : T) (rest : List T) → test x ≡ true → Local (token test) (x ∷ []) (found x rest)
  found_alone x [] e = tt
  found_alone x (y ∷ rest) e = λ v. ap (λ b. cond b (found x (y ∷ v)) (fault expected (x ∷ y ∷ v))) e

  token_tells : (ts : List T) → Tells (Single test) (token test) ts (token test ts)
  token_tells [] = token_misses [] [] refl tt
  token_tells (x ∷ rest) = elim (cases_Bool (test x)) [
    | inl t ↦ subst (λ b. Tells (Single test) (token test) (x ∷ rest) (cond b (found x rest) (fault expected (x ∷ rest)))) (sym t) (record {
      word = record { token = x; deep = false } ∷ [];
      is_word = (t, refl);
      shallow = (refl, tt);
      split = refl;
      alone = found_alone x rest t;
    })
    | inr f ↦ subst (λ b. Tells (Single test) (token test) (x ∷ rest) (cond b (found x rest) (fault expected (x ∷ rest)))) (sym f) (token_misses (x ∷ rest) (x ∷ rest) refl (λ v. ap (λ b. cond b (found x v) (fault expected (x ∷ v))) f))
  ]

  token_given : (a : T) (w : List (Mark T)) (rest : List T) → Single test a w → Stops never rest → token test (bare w ++ rest) ≡ judge w a rest
  token_given a w rest (e, split) stops = ap (λ z. token test (bare z ++ rest)) split ∙ (ap (λ b. cond b (found a rest) (fault expected (a ∷ rest))) e ∙ ap (λ z. judge z a rest) (sym split))

  pub exact_token : Exact (Single test) never (token test)
  exact_token = record {
    tells = token_tells;
    given = token_given;
    some = sample;
    some_word = record { token = sample; deep = false } ∷ [];
    is_some = (fits, refl);
  }

always_alone : {T A : Type 0} (a : A) (rest : List T) → Local {T = T} (found a) [] (found a rest)
always_alone a [] = tt
always_alone a (y ∷ rest) = λ v. refl

pub exact_nothing : {T A : Type 0} (a : A) → Exact (Nothing {T = T} a) never (found a)
exact_nothing {T} {A} a = record {
  tells = λ ts. record { word = []; is_word = (refl, refl); shallow = tt; split = refl; alone = always_alone a ts };
  given = λ b w rest h stops. ap (λ z. found a (bare z ++ rest)) h.1 ∙ (ap (λ c. found c rest) (sym h.0) ∙ ap (λ z. judge z b rest) (sym h.1));
  some = a;
  some_word = [];
  is_some = (refl, refl);
}

-- The same words, of another tree.
module _ {T A B : Type 0} (f : A → B) (L : A → List (Mark T) → Type 0) (M : B → List (Mark T) → Type 0) (p : List T → Verdict T A) (more also : T → Bool) (x : Exact L more p) (into : (a : A) (w : List (Mark T)) → L a w → M (f a) w) (from : (b : B) (w : List (Mark T)) → M b w → (a : A) × (b ≡ f a) × L a w) (wider : (rest : List T) → Stops also rest → Stops more rest) where
  turned_alone : (a : A) (front rest : List T) → Local p front (found a rest) → Local (mapped f p) front (found (f a) rest)
  turned_alone a front [] h = tt
  turned_alone a front (y ∷ rest) h = λ v. ap (turned f) (h v)

  turned_fails : (c : Cause) (front rest : List T) → Local p front (fault c rest) → Local (mapped f p) front (fault c rest)
  turned_fails c front [] h = tt
  turned_fails c front (y ∷ rest) h = λ v. ap (turned f) (h v)

  turned_tells : (ts : List T) (v : Verdict T A) → Tells L p ts v → Tells M (mapped f p) ts (turned f v)
  turned_tells ts (found a rest) s = record { word = s.word; is_word = into a s.word s.is_word; shallow = s.shallow; split = s.split; alone = turned_alone a (bare s.word) rest s.alone }
  turned_tells ts (fault expected rest) s = record { tree = f s.tree; front = s.front; back = s.back; is_word = into s.tree (s.front ++ s.back) s.is_word; shallow = s.shallow; split = s.split; alone = turned_fails expected (bare s.front) rest s.alone }
  turned_tells ts (fault too_deep rest) s = record { tree = f s.tree; front = s.front; at = s.at; back = s.back; behind = s.behind; is_word = into s.tree (s.front ++ s.at ∷ s.back) s.is_word; shallow = s.shallow; deep = s.deep; is_rest = s.is_rest; split = s.split; alone = turned_fails too_deep (bare s.front) rest s.alone }

  turned_judge : (a : A) (w : List (Mark T)) (rest : List T) → turned f (judge w a rest) ≡ judge w (f a) rest
  turned_judge a [] rest = refl
  turned_judge a (m ∷ w) rest = elim m.deep as (λ d. turned f (cond d (fault too_deep (m.token ∷ bare w ++ rest)) (judge w a rest)) ≡ cond d (fault too_deep (m.token ∷ bare w ++ rest)) (judge w (f a) rest)) [ true ↦ refl | false ↦ turned_judge a w rest ]

  turned_given : (b : B) (w : List (Mark T)) (rest : List T) → M b w → Stops also rest → mapped f p (bare w ++ rest) ≡ judge w b rest
  turned_given b w rest h stops =
      let k = from b w h in
      ap (turned f) (x.given k.0 w rest k.2 (wider rest stops)) ∙ (turned_judge k.0 w rest ∙ ap (λ z. judge w z rest) (sym k.1))

  pub exact_mapped : Exact M also (mapped f p)
  exact_mapped = record {
    tells = λ ts. turned_tells ts (p ts) (x.tells ts);
    given = turned_given;
    some = f x.some;
    some_word = x.some_word;
    is_some = into x.some x.some_word x.is_some;
  }

-- The same answer of another reader, which agrees as far as this answer stops.
module _ {T A : Type 0} (L K : A → List (Mark T) → Type 0) (into : (a : A) (w : List (Mark T)) → L a w → K a w) (r s : List T → Verdict T A) (ts : List T) where
  abbrev There : Verdict T A → Type 0
  There v = (front b : List T) (y : T) → ts ≡ front ++ y ∷ b → rest_of v ≡ y ∷ b → (u : List T) → s (front ++ y ∷ u) ≡ r (front ++ y ∷ u)

  found_there : (a : A) (front rest : List T) → There (found a rest) → ts ≡ front ++ rest → Local r front (found a rest) → Local s front (found a rest)
  found_there a front [] there e h = tt
  found_there a front (y ∷ rest) there e h = λ v. there front rest y e refl v ∙ h v

  fault_there : (c : Cause) (front rest : List T) → There (fault c rest) → ts ≡ front ++ rest → Local r front (fault c rest) → Local s front (fault c rest)
  fault_there c front [] there e h = tt
  fault_there c front (y ∷ rest) there e h = λ v. there front rest y e refl v ∙ h v

  pub carry : (v : Verdict T A) → There v → Tells L r ts v → Tells K s ts v
  carry (found a rest) there t = record { word = t.word; is_word = into a t.word t.is_word; shallow = t.shallow; split = t.split; alone = found_there a (bare t.word) rest there t.split t.alone }
  carry (fault expected rest) there t = record { tree = t.tree; front = t.front; back = t.back; is_word = into t.tree (t.front ++ t.back) t.is_word; shallow = t.shallow; split = t.split; alone = fault_there expected (bare t.front) rest there t.split t.alone }
  carry (fault too_deep rest) there t = record { tree = t.tree; front = t.front; at = t.at; back = t.back; behind = t.behind; is_word = into t.tree (t.front ++ t.at ∷ t.back) t.is_word; shallow = t.shallow; deep = t.deep; is_rest = t.is_rest; split = t.split; alone = fault_there too_deep (bare t.front) rest there t.split t.alone }

-- The same reader for the same words said otherwise; more tokens may go on.
module _ {T A : Type 0} (L M : A → List (Mark T) → Type 0) (p : List T → Verdict T A) (more also : T → Bool) (x : Exact L more p) (into : (a : A) (w : List (Mark T)) → L a w → M a w) (from : (a : A) (w : List (Mark T)) → M a w → L a w) (wider : (rest : List T) → Stops also rest → Stops more rest) where
  pub relabel : Exact M also p
  relabel = record {
    tells = λ ts. carry L M into p p ts (p ts) (λ front b y e stop v. refl) (x.tells ts);
    given = λ a w rest h stops. x.given a w rest (from a w h) (wider rest stops);
    some = x.some;
    some_word = x.some_word;
    is_some = into x.some x.some_word x.is_some;
  }

module _ {T A : Type 0} (L : A → List (Mark T) → Type 0) (p : List T → Verdict T A) (more also : T → Bool) (x : Exact L more p) (wider : (rest : List T) → Stops also rest → Stops more rest) where
  pub widen : Exact L also p
  widen = relabel L L p more also x (λ a w h. h) (λ a w h. h) wider
