-- What is read where a text may go on behind it: the longest word that begins the text, or the first token that fits
-- none.
use Rattle.std.specs.Prelude.{◌≡◌, List, [], ◌∷◌, ◌++◌}
use Rattle.reader_theory.specs.Words.{Language, Cause, expected, too_deep, Verdict, found, fault}
use Rattle.reader_theory.specs.Refusals.{Reads, Begins, Opens, StopsAt}

-- no word goes on with the next token, and none has a level too deep that begins at it
abbrev pub Unfollowed : {T A : Type 0} → Language T A → List T → List T → Type 0
Unfollowed L front [] = Unit {0}
Unfollowed L front (x ∷ rest) = (Begins L (front ++ x ∷ []) → ⊥) × (Opens L front x → ⊥)

-- what stands in front of the rest is this word, and no longer front of the text begins a word
pub record ReadsUpTo {T A : Type 0} (L : Language T A) (ts : List T) (a : A) (rest : List T) : Type 0 where
  pub front : List T
  pub split : ts ≡ front ++ rest
  pub reads : Reads L front a
  pub unfollowed : Unfollowed L front rest

-- where more was expected the front is no word; where a level too deep begins it may be one
abbrev pub Unread : {T A : Type 0} → Language T A → List T → Cause → Type 0
Unread {T} {A} L front expected = (a : A) → Reads L front a → ⊥
Unread L front too_deep = Unit {0}

-- what stands in front of the rest begins a word, and none goes on with the rest's first token: none at all, or only
-- with a level too deep that begins there
pub record FailsAt {T A : Type 0} (L : Language T A) (ts : List T) (c : Cause) (rest : List T) : Type 0 where
  pub front : List T
  pub split : ts ≡ front ++ rest
  pub begins : Begins L front
  pub stops : StopsAt L front c rest
  pub unread : Unread L front c

-- the longest reading of a text, or where and why there is none
abbrev pub Longest : {T A : Type 0} → Language T A → List T → Verdict T A → Type 0
Longest L ts (found a rest) = ReadsUpTo L ts a rest
Longest L ts (fault c rest) = FailsAt L ts c rest

-- the reader gives each text the longest reading, or where and why there is none
abbrev pub LongestOfAll : {T A : Type 0} → Language T A → (List T → Verdict T A) → Type 0
LongestOfAll {T} L r = (ts : List T) → Longest L ts (r ts)

-- each text has one such answer at most
abbrev pub OneLongest : {T A : Type 0} → Language T A → Type 0
OneLongest {T} {A} L = (ts : List T) (v w : Verdict T A) → Longest L ts v → Longest L ts w → v ≡ w
