-- Phrases: how a grammar says which marked tokens may stand at a place. Of two alternatives the first is the canonical
-- one.
use Rattle.std.specs.Prelude.{ℕ, suc, ◌≡◌, ◌++◌, Bool, true, false, List, [], ◌∷◌, Option, Some, None, ◌⊎◌}
use Rattle.caf_base.specs.declared.place.Pos.{Pos}
use Rattle.reader_theory.specs.Words.{Mark, ◌⟫◌}
use Rattle.reader_theory.specs.Levels.{mark}
use Rattle.fortran_tokens.specs.declared.token.Sign.{Sign}
use Rattle.fortran_tokens.specs.declared.token.Sign.TheVariants.{OpenRound, CloseRound, OpenSquare, CloseSquare, OpenArray, CloseArray, Comma}
use Rattle.fortran_tree.specs.declared.name.Name.{Name}
use Rattle.fortran_tree.specs.declared.name.Literal.{Literal}
use Rattle.fortran_grammar.specs.Tokens as t
use Rattle.fortran_grammar.specs.Tokens.{Tok, Token}

infixr 6 ◌▸◌
infixr 5 ◌∪◌
pub data Phrase : Type 0 where
  -- no token
  nothing : Phrase
  -- this token, wherever it stands, and this token at this place
  token : Tok → Phrase
  token_at : Pos → Tok → Phrase
  -- one behind the other
  ◌▸◌ : Phrase → Phrase → Phrase
  -- one of two
  ◌∪◌ : Phrase → Phrase → Phrase
  -- only where this is true
  only : Bool → Phrase → Phrase
  -- one level further in
  deeper : Phrase → Phrase
  -- with its first token at this place
  from : Pos → Phrase → Phrase

-- the first token stands at this place
abbrev pub FirstAt : Pos → List (Mark Token) → Type 0
FirstAt p [] = ⊥
FirstAt p (m ∷ w) = m.token.at ≡ p

-- The words of a phrase, where so many levels may be open and so many are: each token with whether a level too deep is
-- open at it.
abbrev pub Words : Phrase → ℕ → ℕ → List (Mark Token) → Type 0
Words nothing limit level w = w ≡ []
Words (token x) limit level w = (p : Pos) × (w ≡ mark limit level (record { tok = x; at = p }) ∷ [])
Words (token_at p x) limit level w = w ≡ mark limit level (record { tok = x; at = p }) ∷ []
Words (P ▸ Q) limit level w = (Words P limit level ⟫ Words Q limit level) w
Words (P ∪ Q) limit level w = Words P limit level w ⊎ Words Q limit level w
Words (only b P) limit level w = (b ≡ true) × Words P limit level w
Words (deeper P) limit level w = Words P limit (suc level) w
Words (from p P) limit level w = FirstAt p w × Words P limit level w

-- the canonical tokens of a phrase: the first of two alternatives, always
abbrev pub canonical : Phrase → List Tok
canonical nothing = []
canonical (token x) = x ∷ []
canonical (token_at p x) = x ∷ []
canonical (P ▸ Q) = canonical P ++ canonical Q
canonical (P ∪ Q) = canonical P
canonical (only b P) = canonical P
canonical (deeper P) = canonical P
canonical (from p P) = canonical P

-- What grammars are put together from.

-- no word
abbrev pub never : Phrase
never = only false nothing

-- a name at its place
abbrev pub name : Name → Phrase
name n = token_at n.at (t.word n.text)

-- a character literal at its place
abbrev pub literal : Literal → Phrase
literal x = token_at x.at (t.literal x.text)

-- a keyword (keywords are words as any name)
abbrev pub key : List ℕ → Phrase
key k = token (t.word k)

-- an operator, a logical literal or a delimiter
abbrev pub sign : Sign → Phrase
sign s = token (t.sign s)

-- the end of a statement
abbrev pub over : Phrase
over = token t.over

-- two keywords, which may be written as one word
abbrev pub joined : List ℕ → List ℕ → Phrase
joined j k = key j ▸ key k ∪ key (j ++ k)

-- in round brackets
abbrev pub round : Phrase → Phrase
round P = deeper (sign OpenRound ▸ P ▸ sign CloseRound)

-- in square brackets, or in `(/` and `/)`, which the standard has for array constructors alone (R769): elsewhere they
-- are an extension
abbrev pub square : Phrase → Phrase
square P = deeper (sign OpenSquare ▸ P ▸ sign CloseSquare ∪ sign OpenArray ▸ P ▸ sign CloseArray)

-- [ P ]
abbrev pub optional : {A : Type 0} → (A → Phrase) → Option A → Phrase
optional P None = nothing
optional P (Some a) = P a

-- { "," P }
abbrev pub followed : {A : Type 0} → (A → Phrase) → List A → Phrase
followed P [] = nothing
followed P (a ∷ more) = sign Comma ▸ P a ▸ followed P more

-- P { "," P }
abbrev pub listed : {A : Type 0} → (A → Phrase) → List A → Phrase
listed P [] = never
listed P (a ∷ more) = P a ▸ followed P more

-- [ P { "," P } ]
abbrev pub maybe_listed : {A : Type 0} → (A → Phrase) → List A → Phrase
maybe_listed P [] = nothing
maybe_listed P (a ∷ more) = P a ▸ followed P more

-- { P }
abbrev pub repeated : {A : Type 0} → (A → Phrase) → List A → Phrase
repeated P [] = nothing
repeated P (a ∷ more) = P a ▸ repeated P more
