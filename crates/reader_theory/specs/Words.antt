-- The words of a language, and what a reader answers.
use Rattle.std.specs.Prelude.{◌≡◌, Bool, false, List, [], ◌∷◌, ◌++◌}

-- a token of a word, and whether it stands in a level too deep (the level's first token does already)
pub record Mark (T : Type 0) : Type 0 where
  pub token : T
  pub deep : Bool

-- a language: which words, so marked, spell which tree
abbrev pub Language : Type 0 → Type 0 → Type 1
Language T A = A → List (Mark T) → Type 0

-- the tokens of a word
abbrev pub bare : {T : Type 0} → List (Mark T) → List T
bare [] = []
bare (m ∷ w) = m.token ∷ bare w

-- no token of it stands too deep
abbrev pub Shallow : {T : Type 0} → List (Mark T) → Type 0
Shallow [] = Unit {0}
Shallow (m ∷ w) = (m.deep ≡ false) × Shallow w

-- a word of the one, and behind it a word of the other
infixr 6 ◌⟫◌
abbrev pub ◌⟫◌ : {T : Type 0} → (List (Mark T) → Type 0) → (List (Mark T) → Type 0) → List (Mark T) → Type 0
◌⟫◌ {T} P Q w = (u v : List (Mark T)) × P u × Q v × (w ≡ u ++ v)

-- why a reader gives up: no word goes on so, or a level too deep begins
pub data Cause : Type 0 where
  expected : Cause
  too_deep : Cause

-- what was read and what stands behind it; or why nothing was, and what stands from the first token on with which no
-- word goes on
pub data Verdict (T A : Type 0) : Type 0 where
  found : A → List T → Verdict T A
  fault : Cause → List T → Verdict T A
