-- What a whole text is read as, and where it is refused.
use Rattle.std.specs.Prelude.{◌≡◌, true, List, [], ◌∷◌, ◌++◌}
use Rattle.reader_theory.specs.Words.{Mark, Language, bare, Shallow, Cause, expected, too_deep, Verdict, found, fault}

-- the text is a word of this tree, with no level too deep
abbrev pub Reads : {T A : Type 0} → Language T A → List T → A → Type 0
Reads {T} L ts a = (w : List (Mark T)) × L a w × Shallow w × (ts ≡ bare w)

-- some word begins with these tokens, with no level too deep so far
abbrev pub Begins : {T A : Type 0} → Language T A → List T → Type 0
Begins {T} {A} L front = (a : A) × (w v : List (Mark T)) × L a (w ++ v) × Shallow w × (front ≡ bare w)

-- some word begins with these tokens, with no level too deep, and goes on with this one, at which a level too deep
-- begins
abbrev pub Opens : {T A : Type 0} → Language T A → List T → T → Type 0
Opens {T} {A} L front x = (a : A) × (w v : List (Mark T)) × L a (w ++ record { token = x; deep = true } ∷ v) × Shallow w × (front ≡ bare w)

-- Behind front the text is no front of a word any more: no word goes on with the rest's first token, be it that none
-- has it there or that a level too deep begins at it; or there is no rest, and words only go on.
abbrev pub StopsAt : {T A : Type 0} → Language T A → List T → Cause → List T → Type 0
StopsAt {T} {A} L front c [] = (c ≡ expected) × ((a : A) → Reads L front a → ⊥)
StopsAt L front expected (x ∷ rest) = (Begins L (front ++ x ∷ []) → ⊥) × (Opens L front x → ⊥)
StopsAt L front too_deep (x ∷ rest) = (Begins L (front ++ x ∷ []) → ⊥) × Opens L front x

-- the text is refused at the first token of the rest, or just past its end where there is none
pub record Refused {T A : Type 0} (L : Language T A) (ts : List T) (c : Cause) (rest : List T) : Type 0 where
  pub front : List T
  pub split : ts ≡ front ++ rest
  pub begins : Begins L front
  pub stops : StopsAt L front c rest

-- this is what a text is to be answered: its tree where it is read, else where and why it is refused
abbrev pub Answers : {T A : Type 0} → Language T A → List T → Verdict T A → Type 0
Answers L ts (found a rest) = (rest ≡ []) × Reads L ts a
Answers L ts (fault c rest) = Refused L ts c rest
