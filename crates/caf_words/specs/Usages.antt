-- Where lists of words go wrong, for any notion of valid lists.
use Rattle.std.specs.Prelude.{ℕ, ◌≡◌, ◌<◌, ◌+◌, ◌⊎◌, List, ◌++◌, length, take}

-- a word, as its bytes
abbrev pub Word : Type 0
Word = List ℕ

-- some valid list of words begins with these
abbrev pub Begins : (List Word → Type 0) → List Word → Type 0
Begins Valid front = (rest : List Word) × Valid (front ++ rest)

-- k is the least number such that no valid list of words begins with the first k of these
pub record IsWrongAt (Valid : List Word → Type 0) (words : List Word) (k : ℕ) : Type 0 where
  pub wrong : Begins Valid (take k words) → ⊥
  pub least : (j : ℕ) → j < k → Begins Valid (take j words)

-- these words are a prefix of a valid list and aren't one, and k is their number plus one
pub record IsCutShort (Valid : List Word → Type 0) (words : List Word) (k : ℕ) : Type 0 where
  pub begins : Begins Valid words
  pub open_end : Valid words → ⊥
  pub next : k ≡ length words + 1

-- the usage number of words that aren't valid
abbrev pub UsageOf : (List Word → Type 0) → List Word → ℕ → Type 0
UsageOf Valid words k = IsWrongAt Valid words k ⊎ IsCutShort Valid words k
