-- Tokens marked by the number of levels that are open at them.
use Rattle.std.specs.Prelude.{ℕ, zero, suc, ◌≡◌, Bool, true, false, List, [], ◌∷◌, nat_lt}
use Rattle.reader_theory.specs.Words.{Mark, Language, bare, ◌⟫◌}

-- a token at which so many levels are open, where no more than limit may be
abbrev pub mark : {T : Type 0} → ℕ → ℕ → T → Mark T
mark limit level x = record { token = x; deep = nat_lt limit level }

-- exactly this token
abbrev pub word : {T : Type 0} → ℕ → ℕ → T → List (Mark T) → Type 0
word limit level x w = w ≡ mark limit level x ∷ []

-- a token that passes the test
abbrev pub One : {T : Type 0} → (T → Bool) → ℕ → ℕ → T → List (Mark T) → Type 0
One test limit level x w = (test x ≡ true) × word limit level x w

-- exactly this token, and behind it a word of the language
abbrev pub Behind : {T A : Type 0} → ℕ → ℕ → T → Language T A → A → List (Mark T) → Type 0
Behind limit level x L a = word limit level x ⟫ L a

-- a word of the language between these two
abbrev pub Between : {T A : Type 0} → ℕ → ℕ → T → T → Language T A → A → List (Mark T) → Type 0
Between limit level x y L a = word limit level x ⟫ (L a ⟫ word limit level y)

-- the first so many tokens aren't too deep
abbrev pub ShallowFor : {T : Type 0} → ℕ → List (Mark T) → Type 0
ShallowFor zero w = Unit {0}
ShallowFor (suc n) [] = Unit {0}
ShallowFor (suc n) (m ∷ w) = (m.deep ≡ false) × ShallowFor n w

-- a word of this language has the same tokens as this word, and its first so many aren't too deep
pub record Moved {T : Type 0} (Q : List (Mark T) → Type 0) (n : ℕ) (w : List (Mark T)) : Type 0 where
  pub moved : List (Mark T)
  pub is_word : Q moved
  pub same : bare moved ≡ bare w
  pub shallow : ShallowFor n moved
