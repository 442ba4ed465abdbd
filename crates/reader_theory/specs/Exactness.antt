-- When a reader is exact: what it finds is a word, each word is found, and a fault stands at the first token with which
-- no word goes on. It says nothing of the negative side: that no word goes on follows for a whole text, once, from
-- these equations.
use Rattle.std.specs.Prelude.{◌≡◌, Bool, true, false, cond, List, [], ◌∷◌, ◌++◌}
use Rattle.reader_theory.specs.Words.{Mark, Language, bare, Shallow, expected, too_deep, Verdict, found, fault}
use Rattle.reader_theory.specs.Readers.{rest_of}

-- what is to be answered where the word of a tree stands and rest behind it
abbrev pub judge : {T A : Type 0} → List (Mark T) → A → List T → Verdict T A
judge [] a rest = found a rest
judge (m ∷ w) a rest = cond m.deep (fault too_deep (m.token ∷ bare w ++ rest)) (judge w a rest)

-- the rest doesn't begin with a token that may go on
abbrev pub Stops : {T : Type 0} → (T → Bool) → List T → Type 0
Stops more [] = Unit {0}
Stops more (x ∷ rest) = more x ≡ false

-- the test that nothing passes
abbrev pub never : {T : Type 0} → T → Bool
never x = false

-- an answer depends on nothing behind the token at which it stops
abbrev pub Local : {T A : Type 0} → (List T → Verdict T A) → List T → Verdict T A → Type 0
Local p front (found a []) = Unit {0}
Local {T} p front (found a (y ∷ u)) = (v : List T) → p (front ++ y ∷ v) ≡ found a (y ∷ v)
Local p front (fault c []) = Unit {0}
Local {T} p front (fault c (y ∷ u)) = (v : List T) → p (front ++ y ∷ v) ≡ fault c (y ∷ v)

-- what is found is a word
pub record Finds {T A : Type 0} (L : Language T A) (p : List T → Verdict T A) (ts : List T) (a : A) (rest : List T) : Type 0 where
  pub word : List (Mark T)
  pub is_word : L a word
  pub shallow : Shallow word
  pub split : ts ≡ bare word ++ rest
  pub alone : Local p (bare word) (found a rest)

-- up to a fault the text is the front of a word
pub record Misses {T A : Type 0} (L : Language T A) (p : List T → Verdict T A) (ts : List T) (rest : List T) : Type 0 where
  pub tree : A
  pub front : List (Mark T)
  pub back : List (Mark T)
  pub is_word : L tree (front ++ back)
  pub shallow : Shallow front
  pub split : ts ≡ bare front ++ rest
  pub alone : Local p (bare front) (fault expected rest)

-- up to where a level too deep begins, the text is the front of a word that goes on with that token
pub record Sinks {T A : Type 0} (L : Language T A) (p : List T → Verdict T A) (ts : List T) (rest : List T) : Type 0 where
  pub tree : A
  pub front : List (Mark T)
  pub at : Mark T
  pub back : List (Mark T)
  pub behind : List T
  pub is_word : L tree (front ++ at ∷ back)
  pub shallow : Shallow front
  pub deep : at.deep ≡ true
  pub is_rest : rest ≡ at.token ∷ behind
  pub split : ts ≡ bare front ++ rest
  pub alone : Local p (bare front) (fault too_deep rest)

-- what the reader answers is so
abbrev pub Tells : {T A : Type 0} → Language T A → (List T → Verdict T A) → List T → Verdict T A → Type 0
Tells L p ts (found a rest) = Finds L p ts a rest
Tells L p ts (fault expected rest) = Misses L p ts rest
Tells L p ts (fault too_deep rest) = Sinks L p ts rest

-- the reader is exact for the language, whose words end where no token follows that may go on
pub record Exact {T A : Type 0} (L : Language T A) (more : T → Bool) (p : List T → Verdict T A) : Type 0 where
  pub tells : (ts : List T) → Tells L p ts (p ts)
  pub given : (a : A) (w : List (Mark T)) (rest : List T) → L a w → Stops more rest → p (bare w ++ rest) ≡ judge w a rest
  -- there is a word
  pub some : A
  pub some_word : List (Mark T)
  pub is_some : L some some_word

-- the word has a first token, which passes the test
abbrev pub Heads : {T : Type 0} → (T → Bool) → List (Mark T) → Type 0
Heads test [] = ⊥
Heads test (m ∷ w) = test m.token ≡ true

-- the word's first token passes the test and begins a level too deep
abbrev pub Sunken : {T : Type 0} → (T → Bool) → List (Mark T) → Type 0
Sunken test [] = ⊥
Sunken test (m ∷ w) = (test m.token ≡ true) × (m.deep ≡ true)

-- the reader takes a first token that passes, whatever it answers
abbrev pub Eats : {T A : Type 0} → (T → Bool) → (List T → Verdict T A) → Type 0
Eats {T} one p = (x : T) (u : List T) → one x ≡ true → rest_of (p (x ∷ u)) ≡ x ∷ u → ⊥
