-- Why a text is refused, judged by all words, those with levels too deep among them: no word goes on so at all, or each
-- that does has a token too deep, and the place is that of the first such token. (`StopsAt` says so where a level's
-- first token can begin nothing else; where it can, as a keyword that may also be a name, it stops further on.)
use Rattle.std.specs.Prelude.{ℕ, ◌≡◌, ◌+◌, ◌-◌, ◌<◌, Bool, true, false, cond, min, List, [], ◌∷◌, ◌++◌, length, Option, Some, None}
use Rattle.reader_theory.specs.Words.{Mark, Language, bare, Shallow, expected, too_deep, Verdict, found, fault}
use Rattle.reader_theory.specs.Refusals.{Reads, Begins}

-- some word begins with these tokens, whatever its levels
abbrev pub Goes : {T A : Type 0} → Language T A → List T → Type 0
Goes {T} {A} L front = (a : A) × (w v : List (Mark T)) × L a (w ++ v) × (front ≡ bare w)

-- the first token that is too deep in some word that begins with these tokens has so many of them before it
abbrev pub SinksAt : {T A : Type 0} → Language T A → List T → ℕ → Type 0
SinksAt {T} {A} L front d =
    (a : A) × (f g v : List (Mark T)) × (m : Mark T) × L a ((f ++ m ∷ g) ++ v) × (front ≡ bare (f ++ m ∷ g)) × Shallow f × (m.deep ≡ true) × (length f ≡ d)

-- the first of those places among all such words, if there is one
abbrev pub FirstSunk : {T A : Type 0} → Language T A → List T → Option ℕ → Type 0
FirstSunk L front None = (d : ℕ) → SinksAt L front d → ⊥
FirstSunk L front (Some d) = SinksAt L front d × ((e : ℕ) → e < d → SinksAt L front e → ⊥)

-- why no word goes on: none begins so, whatever its levels; or some do, and the first token too deep among them has so
-- many before it
pub data Reason : Type 0 where
  no_word : Reason
  level_at : ℕ → Reason

-- why no word with no level too deep begins with these tokens
abbrev pub Because : {T A : Type 0} → Language T A → List T → Reason → Type 0
Because L front no_word = Goes L front → ⊥
Because L front (level_at d) = FirstSunk L front (Some d)

-- behind front the text is no front of a word any more, for this reason
abbrev pub Halts : {T A : Type 0} → Language T A → List T → Reason → List T → Type 0
Halts {T} {A} L front why [] = (why ≡ no_word) × ((a : A) → Reads L front a → ⊥)
Halts L front why (x ∷ rest) = (Begins L (front ++ x ∷ []) → ⊥) × Because L (front ++ x ∷ []) why

-- the text is refused at the first token of the rest, or just past its end where there is none, for this reason
pub record RefusedFor {T A : Type 0} (L : Language T A) (ts : List T) (why : Reason) (rest : List T) : Type 0 where
  pub front : List T
  pub split : ts ≡ front ++ rest
  pub begins : Begins L front
  pub stops : Halts L front why rest

-- How the place is found: from the answers under the limit, and whether under a limit that is out of reach a word goes
-- on.

-- how many tokens stand before the fault, where a level too deep begins at it and the text goes on in some word
abbrev pub place_of : {T A : Type 0} → Bool → List T → Verdict T A → Option ℕ
place_of goes ts (found a rest) = None
place_of goes ts (fault expected rest) = None
place_of goes ts (fault too_deep rest) = cond goes (Some (length ts - length rest)) None

-- so many tokens further on
abbrev pub shifted : ℕ → Option ℕ → Option ℕ
shifted n None = None
shifted n (Some d) = Some (n + d)

-- how many tokens stand before the first that is too deep, in a part and in what stands behind it
abbrev pub place_by : {T A : Type 0} → Bool → List T → (A → List T → Option ℕ) → Verdict T A → Option ℕ
place_by goes ts behind (found a rest) = shifted (length ts - length rest) (behind a rest)
place_by goes ts behind (fault expected rest) = None
place_by goes ts behind (fault too_deep rest) = cond goes (Some (length ts - length rest)) None

-- the nearer of two places
abbrev pub nearer : Option ℕ → Option ℕ → Option ℕ
nearer None o = o
nearer (Some d) None = Some d
nearer (Some d) (Some e) = Some (min d e)

-- nothing is left
abbrev pub is_empty : {A : Type 0} → List A → Bool
is_empty [] = true
is_empty (x ∷ xs) = false

-- the answer goes through the whole text
abbrev pub goes_through : {T A : Type 0} → Verdict T A → Bool
goes_through (found a rest) = is_empty rest
goes_through (fault c rest) = is_empty rest

-- the reason by the first token too deep, if there is one
abbrev pub reason : Option ℕ → Reason
reason None = no_word
reason (Some d) = level_at d
